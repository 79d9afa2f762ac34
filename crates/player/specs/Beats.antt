-- What a player does in a beat.
use Rattle.std.specs.Prelude.{◌≡◌, ◌≢◌, ◌⊎◌, ℕ, zero, suc, ◌+◌, ◌-◌, ◌<◌, ◌^◌, Bool, true, false, List, [], ◌∷◌, ◌++◌, length, ℤ, Option, Some, None}
use Rattle.std.specs.List.{flat_map, fold, AllByRecursion}
use Rattle.std.specs.Io.KnownBytes.{Appends}
use Rattle.gate_io.specs.Flow.{AppendsPart}
use Rattle.gate_io.specs.Links.{LinkLog}
use Rattle.gate_io.specs.declared.link.Link as link
use Rattle.gate_io.specs.declared.sink.Sink as sink
use Rattle.gate_io.specs.declared.source.Source as source
use Rattle.frame_codec.specs.Octets.{IsFrame}
use Rattle.frame_codec.specs.declared.item.Item.{Item}
use Rattle.frame_codec.specs.declared.item.Item.TheVariants as items
use Rattle.playout.specs.declared.call.Call.{Call}
use Rattle.playout.specs.declared.call.Call.TheVariants.{FileCall, SourceCall, BaseCall, PeekCall, TickCall, LookCall, HoldCall, RetireCall}
use Rattle.playout.specs.declared.side.PlayerSide as player_side
use Rattle.playout.specs.History.{Chained, moves}
use Rattle.recorder.specs.declared.tally.PlayTally.{PlayTally}
use Rattle.recorder.specs.Play.{call_text}
use Rattle.recorder.specs.Tallies.{call_counted, call_items, no_plays}
use Rattle.substitution.specs.Heard.{Sounding, Voices, sample_octets}
use Rattle.player.specs.declared.return_stream.ReturnEnd.TheVariants as ends
use Rattle.player.specs.declared.beat.Beat.{Beat}
use Rattle.player.specs.declared.beat.Beat.TheVariants.{Played, SpeakerFault, JournalFault, MicFault, ReplyFault}
use Rattle.player.specs.Returning.{Returns, Stream, Streams}

-- ---- a player

-- what its voice and its return stream keep, what was counted, whether a base was seen or a tick made, the beats: made, and at most; and
-- the numbers that it held, less those that it retired, and how many it holds at most
pub record Playing : Type 0 where
  pub voice : Sounding
  pub stream : Stream
  pub tally : PlayTally
  pub opened : Bool
  pub made : ℕ
  pub ticks : ℕ
  pub held : ℕ
  pub elastic : ℕ

-- no beat was made
pub record Starts (seed : List ℕ) (own sequence stamp most elastic : ℕ) (p : Playing) : Type 0 where
  pub voice : Voices seed [] [] p.voice
  pub stream : Streams own sequence stamp [] [] p.stream
  pub running : p.stream.ended ≡ false
  pub tally : p.tally ≡ no_plays
  pub opened : p.opened ≡ false
  pub made : p.made ≡ 0
  pub limit : p.ticks ≡ most
  pub held : p.held ≡ 0
  pub most_held : p.elastic ≡ elastic

-- a player at one moment: what it keeps, its side, the side's position and its g, where a line has 2 ^ g slots, what its speaker and its
-- journal were given, what is left of its microphone, and what its reply link tells
pub record Standing (S : Type 0) : Type 0 where
  pub player : Playing
  pub side : S
  pub position : ℕ
  pub g : ℕ
  pub heard : Option (List ℕ)
  pub written : Option (List ℕ)
  pub left : Option (List ℕ)
  pub log : Option LinkLog

abbrev pub standing : {S : Type 0} → Playing → S → ℕ → ℕ → Option (List ℕ) → Option (List ℕ) → Option (List ℕ) → Option LinkLog → Standing S
standing {S} player side position g heard written left log =
    record { player = player; side = side; position = position; g = g; heard = heard; written = written; left = left; log = log }

-- the same, by what the side, the speaker, the journal, the microphone and the reply link tell
abbrev pub standing_of : {S O J I P : Type 0} → player_side.Ghosts S → sink.Ghosts O → sink.Ghosts J → source.Ghosts I → link.Ghosts P → Playing → S → O → J → I → P → Standing S
standing_of s o j i p player side speaker journal microphone reply =
    standing player side (s.position side) (s.g side) (o.given speaker) (j.given journal) (i.left microphone) (p.log reply)

-- ---- what is asked of the side

-- a tick or a retire answers a frame or an erasure
abbrev pub IsTaken : Item → Type 0
IsTaken item = item ≢ items.Idle

-- where fewer numbers are held than may be, the player lets the beat pass if no frame waits for the next number, and else ticks
abbrev pub HoldsOrTicks : List Call → Type 0
HoldsOrTicks calls = (calls ≡ HoldCall true ∷ []) ⊎ ((item : Item) × IsTaken item × (calls ≡ HoldCall false ∷ TickCall item ∷ []))

-- Where as many are held as may be, it ticks; but where no frame waits for the next number and one waits for the number after it, it
-- leaves the next number out first.
abbrev pub LooksAndTicks : List Call → Type 0
LooksAndTicks calls =
    ((item : Item) × IsTaken item × (calls ≡ LookCall 0 true ∷ TickCall item ∷ []))
    ⊎ (((item : Item) × IsTaken item × (calls ≡ LookCall 0 false ∷ LookCall 1 false ∷ TickCall item ∷ []))
    ⊎ ((gone item : Item) × IsTaken gone × IsTaken item × (calls ≡ LookCall 0 false ∷ LookCall 1 true ∷ RetireCall gone ∷ TickCall item ∷ [])))

-- the calls of a beat behind the base, where this many numbers are held and at most `elastic` may be
abbrev pub IsTurn : ℕ → ℕ → List Call → Type 0
IsTurn elastic held calls =
    ((elastic ≡ 0) × ((item : Item) × IsTaken item × (calls ≡ TickCall item ∷ [])))
    ⊎ (((held < elastic) × HoldsOrTicks calls) ⊎ ((0 < elastic) × (held ≡ elastic) × LooksAndTicks calls))

-- the calls of a beat: it looks for a base exactly where none was seen and no tick made, and without one it is over
abbrev pub IsBeat : ℕ → ℕ → Bool → List Call → Type 0
IsBeat elastic held true calls = IsTurn elastic held calls
IsBeat elastic held false calls = (calls ≡ PeekCall None ∷ []) ⊎ ((base : ℕ) × (turn : List Call) × IsTurn elastic held turn × (calls ≡ PeekCall (Some base) ∷ turn))

-- whether a base was seen or a tick made, after a call
abbrev pub opened_by : Bool → Call → Bool
opened_by opened (PeekCall None) = opened
opened_by opened _ = true

-- and after some
abbrev pub opened_after : Bool → List Call → Bool
opened_after = fold opened_by

-- the numbers that are held after a call: one more where it let a beat pass, one less where it retired one
abbrev pub held_by : ℕ → Call → ℕ
held_by held (HoldCall true) = held + 1
held_by held (RetireCall item) = held - 1
held_by held _ = held

-- and after some
abbrev pub held_after : ℕ → List Call → ℕ
held_after = fold held_by

-- the calls give one item to be heard
abbrev pub GivesOne : List Call → Type 0
GivesOne calls = (item : Item) × (flat_map call_items calls ≡ item ∷ [])

-- the calls of so many beats, one after the other, where this many numbers are held before them, and a base was seen or not
abbrev pub AreBeats : ℕ → ℕ → Bool → ℕ → List Call → Type 0
AreBeats elastic held opened zero calls = calls ≡ []
AreBeats elastic held opened (suc n) calls =
    (first rest : List Call) × IsBeat elastic held opened first × (calls ≡ first ++ rest) × AreBeats elastic (held_after held first) (opened_after opened first) n rest

-- the journal can tell an item that was taken
abbrev pub CanTellItem : Item → Type 0
CanTellItem items.Idle = ⊥
CanTellItem (items.Frame f) = IsFrame f
CanTellItem items.Erasure = Unit {0}

-- the journal of a line with 2 ^ g slots can tell a call of the player: its base and its number ahead fit their fields, and its item is a
-- frame or an erasure
abbrev pub CanBeTold : ℕ → Call → Type 0
CanBeTold g (FileCall n f reply) = ⊥
CanBeTold g (SourceCall x held) = ⊥
CanBeTold g (BaseCall x held) = ⊥
CanBeTold g (PeekCall None) = Unit {0}
CanBeTold g (PeekCall (Some base)) = base < 2 ^ 32
CanBeTold g (TickCall item) = CanTellItem item
CanBeTold g (LookCall ahead filled) = ahead < 2 ^ g
CanBeTold g (HoldCall held) = Unit {0}
CanBeTold g (RetireCall item) = CanTellItem item

-- ---- a beat

-- all calls counted, one after the other
abbrev pub all_counted : PlayTally → List Call → PlayTally
all_counted = fold call_counted

-- what was kept is what stood before, with one beat more
abbrev pub beaten : Playing → List Call → Sounding → Stream → Playing
beaten p calls voice stream = record {
  voice = voice;
  stream = stream;
  tally = all_counted p.tally calls;
  opened = opened_after p.opened calls;
  made = p.made + 1;
  ticks = p.ticks;
  held = held_after p.held calls;
  elastic = p.elastic;
}

-- the samples are what the voice plays next, for this item
abbrev pub Speaks : Sounding → Sounding → Item → List ℤ → Type 0
Speaks old new item played = (seed : List ℕ) (items : List Item) (samples : List ℤ) → Voices seed items samples old → Voices seed (items ++ item ∷ []) (samples ++ played) new

-- the speaker has all of the beat, or a prefix where it failed
abbrev pub Hears : Beat → Option (List ℕ) → Option (List ℕ) → List ℕ → Type 0
Hears Played old new octets = Appends old new octets
Hears SpeakerFault old new octets = AppendsPart old new octets
Hears JournalFault old new octets = Appends old new octets
Hears MicFault old new octets = Appends old new octets
Hears ReplyFault old new octets = Appends old new octets

-- the journal has all of it, nothing where the speaker failed, and a prefix where it failed itself
abbrev pub Writes : Beat → Option (List ℕ) → Option (List ℕ) → List ℕ → Type 0
Writes Played old new text = Appends old new text
Writes SpeakerFault old new text = new ≡ old
Writes JournalFault old new text = AppendsPart old new text
Writes MicFault old new text = Appends old new text
Writes ReplyFault old new text = Appends old new text

-- the return stream sent its next packet or has ended; it was not asked where the speaker or the journal failed
abbrev pub Replies : Beat → Stream → Stream → Option (List ℕ) → Option (List ℕ) → Option LinkLog → Option LinkLog → Type 0
Replies Played old new left left_now log log_now = Returns old new left left_now log log_now ends.Sent ⊎ Returns old new left left_now log log_now ends.Silent
Replies SpeakerFault old new left left_now log log_now = (new ≡ old) × (left_now ≡ left) × (log_now ≡ log)
Replies JournalFault old new left left_now log log_now = (new ≡ old) × (left_now ≡ left) × (log_now ≡ log)
Replies MicFault old new left left_now log log_now = Returns old new left left_now log log_now ends.MicFault
Replies ReplyFault old new left left_now log log_now = Returns old new left left_now log log_now ends.ReplyFault

-- a beat that reached this end
pub record Beats {S : Type 0} (did : S → Call → S → Type 0) (a b : Standing S) (end : Beat) : Type 0 where
  pub calls : List Call
  pub asks : IsBeat a.player.elastic a.player.held a.player.opened calls
  pub told : AllByRecursion (CanBeTold a.g) calls
  pub side : Chained did a.side calls b.side
  pub position : b.position ≡ a.position + moves calls
  pub slots : b.g ≡ a.g
  pub item : Item
  pub heard : flat_map call_items calls ≡ item ∷ []
  pub played : List ℤ
  pub count : length played ≡ 160
  pub voice : Speaks a.player.voice b.player.voice item played
  pub player : b.player ≡ beaten a.player calls b.player.voice b.player.stream
  pub speaker : Hears end a.heard b.heard (sample_octets played)
  pub journal : Writes end a.written b.written (flat_map call_text calls)
  pub reply : Replies end a.player.stream b.player.stream a.left b.left a.log b.log

-- a beat of a player over its side, its speaker, its journal, its microphone and its reply link, by what these tell before and now
abbrev pub BeatMade : {S O J I P : Type 0} → player_side.Ghosts S → sink.Ghosts O → sink.Ghosts J → source.Ghosts I → link.Ghosts P
    → Playing → S → O → J → I → P → Playing → S → O → J → I → P → Beat → Type 0
BeatMade s o j i p player side speaker journal microphone reply player_now side_now speaker_now journal_now microphone_now reply_now end =
    Beats s.did (standing_of s o j i p player side speaker journal microphone reply) (standing_of s o j i p player_now side_now speaker_now journal_now microphone_now reply_now) end
