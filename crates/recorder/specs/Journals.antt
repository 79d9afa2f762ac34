-- Whole journals: what is read of them, and what of octets that are none.
use Rattle.std.specs.Prelude.{ℕ, ◌≡◌, ◌≤◌, ◌<◌, ◌⊎◌, List, [], ◌∷◌, ◌++◌, length, take, Bool, true, Option, Some, Err, IsOk, Result}
use Rattle.std.specs.List.{flat_map, AllByRecursion}
use Rattle.gate_base.specs.Faults.{Rose}
use Rattle.recorder.specs.declared.events.FilerEvent.{FilerEvent}
use Rattle.recorder.specs.declared.events.PlayEvent.{PlayEvent}
use Rattle.recorder.specs.declared.fault.RecordFault.{RecordFault}
use Rattle.recorder.specs.declared.fault.RecordEnd.TheVariants.{Fault, ReadFailed}
use Rattle.recorder.specs.declared.refusal.JournalRefusal.{JournalRefusal}
use Rattle.recorder.specs.declared.refusal.JournalRefusal.TheVariants.{End, OutOfMemory}
use Rattle.recorder.specs.Files.{end_mark, event_limit}
use Rattle.recorder.specs.Filing.{FilerFits, filer_event_text, filer_fault_at, filer_head_fault, filer_head_text}
use Rattle.recorder.specs.Heads.{Heading, IsHeading, head_fault, head_text, play_magic}
use Rattle.recorder.specs.Play.{AllPlayFit, may_open, play_event_text, play_fault_at}

-- ---- of a filer

-- what a filer's journal says
pub record FilerRecord : Type 0 where
  pub head : Heading
  pub caller : ℕ
  pub events : List FilerEvent

-- all of it is in its ranges
pub record FilerRecordFits (j : FilerRecord) : Type 0 where
  pub head : IsHeading j.head
  pub caller : j.caller < j.head.filers
  pub events : AllByRecursion FilerFits j.events
  pub few : length j.events ≤ event_limit

-- the octets of the head and the events
abbrev pub filer_front : FilerRecord → List ℕ
filer_front j = filer_head_text j.head j.caller ++ flat_map filer_event_text j.events

-- the journal's octets
abbrev pub filer_text : FilerRecord → List ℕ
filer_text j = filer_front j ++ end_mark ∷ []

-- the octets are a journal that says this, and then anything
pub record IsFilerJournal (octets : List ℕ) (j : FilerRecord) : Type 0 where
  pub fits : FilerRecordFits j
  pub text : (rest : List ℕ) × (octets ≡ filer_text j ++ rest)

-- what follows the head and these events has this fault at its beginning
pub record FilerFaultAfter (octets : List ℕ) (j : FilerRecord) (f : RecordFault) : Type 0 where
  pub fits : FilerRecordFits j
  pub rest : List ℕ
  pub text : octets ≡ filer_front j ++ rest
  pub fault : filer_fault_at (length j.events) (length (filer_front j)) rest ≡ Some f

-- the first fault of octets that are no filer's journal: of the head, or after some events
abbrev pub HasFilerFault : List ℕ → RecordFault → Type 0
HasFilerFault octets f = (filer_head_fault (take 13 octets) ≡ Some f) ⊎ ((j : FilerRecord) × FilerFaultAfter octets j f)

-- ---- of the player

-- what a player's journal says
pub record PlayerRecord : Type 0 where
  pub head : Heading
  pub events : List PlayEvent

-- All of it is in its ranges, and in order: Idle events come first, then at most one Base, then the others.
pub record PlayerRecordFits (j : PlayerRecord) : Type 0 where
  pub head : IsHeading j.head
  pub events : AllPlayFit j.head.g true j.events
  pub few : length j.events ≤ event_limit

-- the octets of the head and the events
abbrev pub player_front : PlayerRecord → List ℕ
player_front j = head_text play_magic j.head ++ flat_map play_event_text j.events

-- the journal's octets
abbrev pub player_text : PlayerRecord → List ℕ
player_text j = player_front j ++ end_mark ∷ []

-- the octets are a journal that says this, and then anything
pub record IsPlayerJournal (octets : List ℕ) (j : PlayerRecord) : Type 0 where
  pub fits : PlayerRecordFits j
  pub text : (rest : List ℕ) × (octets ≡ player_text j ++ rest)

-- whether Idle and Base may come after these events
abbrev pub opening_behind : Bool → List PlayEvent → Bool
opening_behind opening [] = opening
opening_behind opening (e ∷ es) = opening_behind (may_open e) es

-- what follows the head and these events has this fault at its beginning
pub record PlayerFaultAfter (octets : List ℕ) (j : PlayerRecord) (f : RecordFault) : Type 0 where
  pub fits : PlayerRecordFits j
  pub rest : List ℕ
  pub text : octets ≡ player_front j ++ rest
  pub fault : play_fault_at j.head.g (opening_behind true j.events) (length j.events) (length (player_front j)) rest ≡ Some f

-- the first fault of octets that are no player's journal: of the head, or after some events
abbrev pub HasPlayerFault : List ℕ → RecordFault → Type 0
HasPlayerFault octets f = (head_fault play_magic (take 12 octets) ≡ Some f) ⊎ ((j : PlayerRecord) × PlayerFaultAfter octets j f)

-- ---- refusals

-- the answer tells this fault, or a failed read
abbrev pub IsRefusedBy : {T : Type 0} → RecordFault → Result T JournalRefusal → Type 0
IsRefusedBy f result = (result ≡ Err (End (Fault f))) ⊎ (result ≡ Err (End ReadFailed))

-- Octets whose head has a fault are refused by it, and never because memory is out.
abbrev pub RefusesByHead : {T : Type 0} → (List ℕ → Option RecordFault) → Option (List ℕ) → Result T JournalRefusal → Type 0
RefusesByHead head input result = (octets : List ℕ) (f : RecordFault) → input ≡ Some octets → head octets ≡ Some f → IsRefusedBy f result

-- Octets with a first fault are refused by it, or because memory is out.
abbrev pub RefusesByFirst : {T : Type 0} → (List ℕ → RecordFault → Type 0) → Option (List ℕ) → Result T JournalRefusal → Type 0
RefusesByFirst Has input result = (octets : List ℕ) (f : RecordFault) → input ≡ Some octets → Has octets f → IsRefusedBy f result ⊎ (result ≡ Err OutOfMemory)

-- Octets that are a journal are read, unless a read fails, or because memory is out.
abbrev pub ReadsWhole : {T J : Type 0} → (List ℕ → J → Type 0) → Option (List ℕ) → ℕ → ℕ → Result T JournalRefusal → Type 0
ReadsWhole {T} {J} IsJournal input before now result =
    (octets : List ℕ) (j : J) → input ≡ Some octets → IsJournal octets j → ¬ Rose before now → IsOk result ⊎ (result ≡ Err OutOfMemory)

-- ---- laws

-- no octets are both a journal and such that have a first fault
abbrev pub FilersHaveNoFault : Type 0
FilersHaveNoFault = (octets : List ℕ) (j : FilerRecord) (f : RecordFault) → IsFilerJournal octets j → HasFilerFault octets f → ⊥

abbrev pub PlayersHaveNoFault : Type 0
PlayersHaveNoFault = (octets : List ℕ) (j : PlayerRecord) (f : RecordFault) → IsPlayerJournal octets j → HasPlayerFault octets f → ⊥

-- octets have one first fault at most
abbrev pub FilersHaveOneFault : Type 0
FilersHaveOneFault = (octets : List ℕ) (f g : RecordFault) → HasFilerFault octets f → HasFilerFault octets g → f ≡ g

abbrev pub PlayersHaveOneFault : Type 0
PlayersHaveOneFault = (octets : List ℕ) (f g : RecordFault) → HasPlayerFault octets f → HasPlayerFault octets g → f ≡ g
