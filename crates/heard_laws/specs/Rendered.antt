-- A player's journal gives back what its speaker got.
use Rattle.std.specs.Prelude.{ℕ, ◌+◌, ◌*◌, ◌≡◌, ◌≤◌, ◌⊎◌, ℤ, List, [], ◌∷◌, ◌++◌, length, take, Option, Some}
use Rattle.std.specs.List.{AllByRecursion}
use Rattle.std.specs.Io.KnownBytes.{Appends, Consumes, Keeps}
use Rattle.playout.specs.declared.call.Call.{Call}
use Rattle.recorder.specs.Files.{event_limit}
use Rattle.recorder.specs.Heads.{Heading, IsHeading}
use Rattle.recorder.specs.Journals.{IsPlayerJournal, PlayerRecord}
use Rattle.recorder.specs.Play.{play_front, play_text}
use Rattle.recorder.specs.Tallies.{play_tally}
use Rattle.substitution.specs.Heard.{IsHeard, sample_octets}
use Rattle.replay_check.specs.declared.rendering.RenderEnd.{RenderEnd}
use Rattle.replay_check.specs.declared.rendering.RenderEnd.TheVariants.{Done, Refused, ReadFault, WriteFault}
use Rattle.replay_check.specs.Render.{Renders, Stops, TookEvent, TookHead, items_of}
use Rattle.player.specs.Beats.{CanBeTold}
use Rattle.player.specs.Whole.{AreAllBeats, PlayerGave, Ports, items_in}
use Rattle.player.specs.declared.run.PlayerEnd.TheVariants.{Ended}

-- the output gained the octets of the samples, and the tally is that of the calls; a journal is never refused
abbrev pub RendersTo : List Call → List ℤ → RenderEnd → Option (List ℕ) → Option (List ℕ) → Type 0
RendersTo calls samples (Done tally) before now = Appends before now (sample_octets samples) × (tally ≡ play_tally calls)
RendersTo calls samples (Refused f) before now = ⊥
RendersTo calls samples ReadFault before now = Unit {0}
RendersTo calls samples WriteFault before now = Unit {0}

-- A render whose give failed had read the calls up to this one. It gave all that is heard of those before, and a prefix of what the last one plays.
pub record GivesAllButLast (seed : List ℕ) (h : Heading) (calls : List Call) (left before now : Option (List ℕ)) : Type 0 where
  pub first : List Call
  pub last : Call
  pub more : List Call
  pub all : calls ≡ first ++ last ∷ more
  pub read : Consumes (Some (play_text h calls)) left (play_front h (first ++ last ∷ []))
  pub samples : List ℤ
  pub speech : List ℤ
  pub heard : IsHeard seed (items_in first) samples
  pub plays : IsHeard seed (items_in (first ++ last ∷ [])) (samples ++ speech)
  pub given : (k : ℕ) × Appends before now (sample_octets samples ++ take k (sample_octets speech))

-- A render whose read failed gave all that is heard of the calls that it had read, and lost no more than an event after them.
pub record GivesAllRead (seed : List ℕ) (h : Heading) (calls : List Call) (left before now : Option (List ℕ)) : Type 0 where
  pub first : List Call
  pub more : List Call
  pub all : calls ≡ first ++ more
  pub read : (mid : Option (List ℕ)) × Consumes (Some (play_text h calls)) mid (play_front h first) × TookEvent mid left
  pub samples : List ℤ
  pub heard : IsHeard seed (items_in first) samples
  pub given : Appends before now (sample_octets samples)

-- The journal of the calls, after this heading, is a player's journal that plays their items, and however it is rendered the output gains these samples.
pub record GivesBack (seed : List ℕ) (h : Heading) (calls : List Call) (samples : List ℤ) : Type 0 where
  pub says : PlayerRecord
  pub journal : IsPlayerJournal (play_text h calls) says
  pub plays : items_of says.events ≡ items_in calls
  pub rendered : (end : RenderEnd) (before now : Option (List ℕ)) → Renders seed end (Some (play_text h calls)) before now → RendersTo calls samples end before now
  pub broken : (left before now : Option (List ℕ)) → Stops seed WriteFault (Some (play_text h calls)) left before now → GivesAllButLast seed h calls left before now
  pub stopped : (left before now : Option (List ℕ)) → Stops seed ReadFault (Some (play_text h calls)) left before now
      → (Keeps before now × TookHead (Some (play_text h calls)) left) ⊎ GivesAllRead seed h calls left before now

-- The journal of the calls of any beats gives back what is heard of them: a speaker gets the octets of these samples, and so does what the journal is rendered to.
abbrev pub JournalRenders : Type 0
JournalRenders = (seed : List ℕ) (h : Heading) (elastic made : ℕ) (calls : List Call) (samples : List ℤ) → IsHeading h → AreAllBeats elastic made calls → AllByRecursion (CanBeTold h.g) calls
    → length calls ≤ event_limit
    → IsHeard seed (items_in calls) samples → GivesBack seed h calls samples

-- A beat makes four calls at most, and one where no number may be held; besides, a player looks once for the base that it sees.
abbrev pub BeatsAreFew : Type 0
BeatsAreFew = (elastic made : ℕ) (calls : List Call) → AreAllBeats elastic made calls → (length calls ≤ 4 * made + 1) × (elastic ≡ 0 → length calls ≤ made + 1)

-- A player's run that reached its end gave its speaker the octets of these samples; and its journal, after any heading of its line, gives them back where it
-- has no more events than a journal may have.
abbrev pub RunRenders : Type 0
RunRenders = (seed : List ℕ) (own sequence stamp elastic before now made : ℕ) (calls : List Call) (a b : Ports) (h : Heading) → IsHeading h → length calls ≤ event_limit
    → PlayerGave seed own sequence stamp elastic h.g before now made calls a b Ended
    → (samples : List ℤ) × Appends a.heard b.heard (sample_octets samples) × GivesBack seed h calls samples
