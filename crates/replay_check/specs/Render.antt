-- The speech of a player's journal.
use Rattle.std.specs.Prelude.{ℕ, ◌+◌, ◌≡◌, ◌⊎◌, List, [], ◌∷◌, ◌++◌, length, take, ℤ, true, Option, Some, Result, IfSome}
use Rattle.std.specs.List.{flat_map}
use Rattle.std.specs.Io.KnownBytes.{Appends, Consumes, Keeps}
use Rattle.gate_io.specs.Flow.{AppendsPart, ConsumesFewer, Gives}
use Rattle.frame_codec.specs.declared.item.Item.{Item}
use Rattle.frame_codec.specs.declared.item.Item.TheVariants as items
use Rattle.playout.specs.declared.call.Call.{Call}
use Rattle.recorder.specs.declared.events.PlayEvent.{PlayEvent}
use Rattle.recorder.specs.declared.events.PlayEvent.TheVariants.{Idle, Base, Erasure, Frame, Held, Found, LookFree, LookFilled, RetiredErasure, RetiredFrame}
use Rattle.recorder.specs.Files.{end_mark}
use Rattle.recorder.specs.Heads.{Heading, head_fault, play_magic}
use Rattle.recorder.specs.Journals.{IsPlayerJournal, PlayerRecord, PlayerRecordFits, opening_behind, player_front}
use Rattle.recorder.specs.Play.{longest_play, play_event_text, play_fault_at}
use Rattle.recorder.specs.Tallies.{play_tally}
use Rattle.substitution.specs.Heard.{IsHeard, Sounding, Voices, sample_octets}
use Rattle.replay_check.specs.Journals.{plays_in}
use Rattle.replay_check.specs.declared.rendering.RenderEnd.{RenderEnd}
use Rattle.replay_check.specs.declared.rendering.RenderEnd.TheVariants.{Done, Refused, ReadFault, WriteFault}

-- what an event plays
abbrev pub event_items : PlayEvent → List Item
event_items Idle = items.Idle ∷ []
event_items (Base base) = []
event_items Erasure = items.Erasure ∷ []
event_items (Frame frame) = items.Frame frame ∷ []
event_items Held = items.Erasure ∷ []
event_items Found = []
event_items (LookFree ahead) = []
event_items (LookFilled ahead) = []
event_items RetiredErasure = []
event_items (RetiredFrame frame) = []

-- what a journal plays
abbrev pub items_of : List PlayEvent → List Item
items_of events = flat_map event_items events

-- a voice has gone on by these items, and this is their speech
abbrev pub SpeaksOn : Sounding → Sounding → List Item → List ℤ → Type 0
SpeaksOn old new more speech = (seed : List ℕ) (items : List Item) (samples : List ℤ) → Voices seed items samples old → Voices seed (items ++ more) (samples ++ speech) new

-- the voice played these items, and their speech was given, or a prefix of it where the give failed
abbrev pub GivesSpeechOf : {T E : Type 0} → List Item → Sounding → Sounding → Option (List ℕ) → Option (List ℕ) → Result T E → Type 0
GivesSpeechOf played old new before now result = (speech : List ℤ) × SpeaksOn old new played speech × Gives before now result (sample_octets speech)

-- what follows the events, by how it ended
abbrev pub Follows : RenderEnd → PlayerRecord → List ℕ → Type 0
Follows (Done tally) j rest = (more : List ℕ) × (rest ≡ end_mark ∷ more)
Follows (Refused f) j rest = play_fault_at j.head.g (opening_behind true j.events) (length j.events) (length (player_front j)) rest ≡ Some f
Follows ReadFault j rest = Unit {0}
Follows WriteFault j rest = Unit {0}

-- what the output has of the speech: all of it, and where a give failed a prefix
abbrev pub HasSpeech : RenderEnd → Option (List ℕ) → Option (List ℕ) → List ℕ → Type 0
HasSpeech (Done tally) before now speech = Appends before now speech
HasSpeech (Refused f) before now speech = Appends before now speech
HasSpeech ReadFault before now speech = Appends before now speech
HasSpeech WriteFault before now speech = AppendsPart before now speech

-- the player's calls are counted
abbrev pub IsTallied : RenderEnd → List Call → Type 0
IsTallied (Done tally) calls = tally ≡ play_tally calls
IsTallied (Refused f) calls = Unit {0}
IsTallied ReadFault calls = Unit {0}
IsTallied WriteFault calls = Unit {0}

-- after this prefix the events were read, and their speech was given
pub record Played (seed front : List ℕ) (end : RenderEnd) (input before now : Option (List ℕ)) (j : PlayerRecord) (samples : List ℤ) : Type 0 where
  pub fits : PlayerRecordFits j
  pub text : IfSome input (λ octets. (rest : List ℕ) × (octets ≡ front ++ rest) × Follows end j rest)
  pub heard : IsHeard seed (items_of j.events) samples
  pub given : HasSpeech end before now (sample_octets samples)
  pub tallied : IsTallied end (plays_in j.events)

-- the same of some events, after a head that was read
abbrev pub PlayedBehind : List ℕ → RenderEnd → Heading → Option (List ℕ) → Option (List ℕ) → Option (List ℕ) → Type 0
PlayedBehind seed end h input before now =
    (j : PlayerRecord) × (samples : List ℤ) × (j.head ≡ h) × Played seed (flat_map play_event_text j.events) end input before now j samples

-- nothing was played: the head has a fault, or was not read
abbrev pub NothingPlayed : RenderEnd → Option (List ℕ) → Option (List ℕ) → Option (List ℕ) → Type 0
NothingPlayed (Done tally) input before now = ⊥
NothingPlayed (Refused f) input before now = IfSome input (λ octets. head_fault play_magic (take 12 octets) ≡ Some f) × Keeps before now
NothingPlayed ReadFault input before now = Keeps before now
NothingPlayed WriteFault input before now = ⊥

-- What is said of the journal's octets and of the output's. A whole journal is played to its end mark; where the journal has a fault, a read failed or a give
-- failed, the events before that are played.
abbrev pub Renders : List ℕ → RenderEnd → Option (List ℕ) → Option (List ℕ) → Option (List ℕ) → Type 0
Renders seed end input before now = NothingPlayed end input before now ⊎ ((j : PlayerRecord) × (samples : List ℤ) × Played seed (player_front j) end input before now j samples)

-- a whole journal is not refused
abbrev pub Completes : RenderEnd → Option (List ℕ) → Type 0
Completes end input = (octets : List ℕ) (j : PlayerRecord) → input ≡ Some octets → IsPlayerJournal octets j → (f : _) → end ≡ Refused f → ⊥

-- ---- where a render stopped, and what was read and given by then

-- A give failed. The journal was read up to an event: all of the speech before that event was given, and a prefix of what the event plays.
pub record BreaksOff (seed front : List ℕ) (input left before now : Option (List ℕ)) (j : PlayerRecord) (last : PlayEvent) : Type 0 where
  pub fits : PlayerRecordFits (record { head = j.head; events = j.events ++ last ∷ [] })
  pub taken : Consumes input left (front ++ play_event_text last)
  pub samples : List ℤ
  pub speech : List ℤ
  pub heard : IsHeard seed (items_of j.events) samples
  pub plays : IsHeard seed (items_of (j.events ++ last ∷ [])) (samples ++ speech)
  pub given : (k : ℕ) × Appends before now (sample_octets samples ++ take k (sample_octets speech))

-- no more than a head's octets were taken, or an event's
abbrev pub TookHead : Option (List ℕ) → Option (List ℕ) → Type 0
TookHead input left = ConsumesFewer 13 input left

abbrev pub TookEvent : Option (List ℕ) → Option (List ℕ) → Type 0
TookEvent input left = ConsumesFewer (longest_play + 1) input left

-- The reading stopped after these events, of which all speech was given. No more than an event's octets were taken after them.
pub record StopsShort (seed front : List ℕ) (input left before now : Option (List ℕ)) (j : PlayerRecord) : Type 0 where
  pub fits : PlayerRecordFits j
  pub taken : (mid : Option (List ℕ)) × Consumes input mid front × TookEvent mid left
  pub samples : List ℤ
  pub heard : IsHeard seed (items_of j.events) samples
  pub given : Appends before now (sample_octets samples)

-- the same of events after a head that was read
abbrev pub StopsBehind : List ℕ → RenderEnd → Heading → Option (List ℕ) → Option (List ℕ) → Option (List ℕ) → Option (List ℕ) → Type 0
StopsBehind seed (Done tally) h input left before now = Unit {0}
StopsBehind seed (Refused f) h input left before now = (j : PlayerRecord) × (j.head ≡ h) × StopsShort seed (flat_map play_event_text j.events) input left before now j
StopsBehind seed ReadFault h input left before now = (j : PlayerRecord) × (j.head ≡ h) × StopsShort seed (flat_map play_event_text j.events) input left before now j
StopsBehind seed WriteFault h input left before now = (j : PlayerRecord) × (last : PlayEvent) × (j.head ≡ h) × BreaksOff seed (flat_map play_event_text j.events) input left before now j last

-- nothing was given, and no more than a head's octets were taken; or the reading stopped after some events
abbrev pub StopsReading : List ℕ → Option (List ℕ) → Option (List ℕ) → Option (List ℕ) → Option (List ℕ) → Type 0
StopsReading seed input left before now = (Keeps before now × TookHead input left) ⊎ ((j : PlayerRecord) × StopsShort seed (player_front j) input left before now j)

-- Where the journal has a fault or a read failed, all events that were read were given; where a give failed, all but the last, and a prefix of that.
abbrev pub Stops : List ℕ → RenderEnd → Option (List ℕ) → Option (List ℕ) → Option (List ℕ) → Option (List ℕ) → Type 0
Stops seed (Done tally) input left before now = Unit {0}
Stops seed (Refused f) input left before now = StopsReading seed input left before now
Stops seed ReadFault input left before now = StopsReading seed input left before now
Stops seed WriteFault input left before now = (j : PlayerRecord) × (last : PlayEvent) × BreaksOff seed (player_front j) input left before now j last
