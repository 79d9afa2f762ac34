-- The script: a head, events and the end mark.
use Rattle.std.specs.Prelude.{ℕ, ◌+◌, ◌≡◌, ◌≤◌, ◌<◌, ◌^◌, List, [], ◌∷◌, ◌++◌, length, take, drop, slice_index, true, ◌==◌, nat_lt, nat_le, Option, Some, None, if◌then◌else◌, ◌⊎◌}
use Rattle.std.specs.List.{flat_map, AllByRecursion}
use Rattle.byteorder.specs.Endian.{big_bytes, big_number}
use Rattle.frame_codec.specs.Octets.{IsFrame}
use Rattle.recorder.specs.declared.fault.RecordFault.{RecordFault}
use Rattle.recorder.specs.declared.fault.RecordFault.TheVariants.{Kind, Cut}
use Rattle.recorder.specs.declared.events.ScriptEvent.{ScriptEvent}
use Rattle.recorder.specs.declared.events.ScriptEvent.TheVariants.{Tick, File, Datagram, Beat}
use Rattle.recorder.specs.Fields.{judged}
use Rattle.recorder.specs.Files.{end_mark, event_limit, is_signed, answer_by, fault_by}
use Rattle.recorder.specs.Heads.{Heading, IsHeading, head_fault, head_text, script_magic}

-- the octets of an event: its kind, and its fields
abbrev pub event_text : ScriptEvent → List ℕ
event_text Tick = 1 ∷ []
event_text (File caller number frame) = 2 ∷ caller ∷ (big_bytes 8 number ++ frame)
event_text (Datagram caller at octets) = 3 ∷ caller ∷ (big_bytes 4 at ++ (big_bytes 2 (length octets) ++ octets))
event_text Beat = 4 ∷ []

-- the most octets of an event: the fields of a Datagram after its kind, and the octets that it announces
abbrev pub longest_event : ℕ
longest_event = 2056

-- the octets of what a reader answers: an event, or none at the end mark
abbrev pub answer_text : Option ScriptEvent → List ℕ
answer_text = answer_by event_text

-- the fields of a File are in their ranges
pub record FileFits (h : Heading) (caller number : ℕ) (frame : List ℕ) : Type 0 where
  pub in_caller : caller < h.filers
  pub in_number : number < 2 ^ 47
  pub in_frame : IsFrame frame

-- the fields of a Datagram are in their ranges
pub record DatagramFits (h : Heading) (caller at : ℕ) (octets : List ℕ) : Type 0 where
  pub in_caller : caller < h.filers
  pub in_at : at < 2 ^ 32
  pub short : length octets ≤ 2048

-- the fields of an event are in their ranges, under this head
abbrev pub EventFits : Heading → ScriptEvent → Type 0
EventFits h Tick = Unit {0}
EventFits h (File caller number frame) = FileFits h caller number frame
EventFits h (Datagram caller at octets) = DatagramFits h caller at octets
EventFits h Beat = Unit {0}

-- a head with the most filers
abbrev pub widest : Heading
widest = record { filers = 64; g = 10; delay = 0 }

-- the fields of an event are in their ranges, under some head, and so under the widest
abbrev pub FitsSomeHead : ScriptEvent → Type 0
FitsSomeHead e = EventFits widest e

-- the first fault of the fields of a File, 42 octets at most, of which the first stands at place from
abbrev pub file_fault : Heading → ℕ → List ℕ → Option RecordFault
file_fault h from fields =
    judged fields from 0 1 (λ o. nat_lt (slice_index o 0) h.filers)
    (judged fields from 1 8 (λ o. nat_lt (big_number 8 o) (2 ^ 47))
    (judged fields from 9 33 is_signed None))

-- the first fault of the fields of a Datagram before its octets, seven octets at most
abbrev pub datagram_fault : Heading → ℕ → List ℕ → Option RecordFault
datagram_fault h from fields =
    judged fields from 0 1 (λ o. nat_lt (slice_index o 0) h.filers)
    (judged fields from 1 4 (λ o. true)
    (judged fields from 5 2 (λ o. nat_le (big_number 2 o) 2048) None))

-- the fault of this many octets, where these are left
abbrev pub octets_fault : ℕ → ℕ → List ℕ → Option RecordFault
octets_fault from count octets = if nat_lt (length octets) count then Some (Cut (from + length octets)) else None

-- how many octets the fields of a Datagram announce
abbrev pub announced : List ℕ → ℕ
announced fields = big_number 2 (take 2 (drop 5 fields))

-- of two parts, one after the other, the first fault
infixl 5 ◌then◌
abbrev pub ◌then◌ : Option RecordFault → Option RecordFault → Option RecordFault
(Some f) then later = Some f
None then later = later

-- the first fault of a Datagram after its kind
abbrev pub whole_datagram_fault : Heading → ℕ → List ℕ → Option RecordFault
whole_datagram_fault h from fields = datagram_fault h from (take 7 fields) then octets_fault (from + 7) (announced fields) (drop 7 fields)

-- the fault of a kind that stands at place `at`, or of what follows it
abbrev pub kind_fault : Heading → ℕ → ℕ → List ℕ → Option RecordFault
kind_fault h kind at rest =
    if kind == 1 then None
    else if kind == 2 then file_fault h (at + 1) (take 42 rest)
    else if kind == 3 then whole_datagram_fault h (at + 1) rest
    else if kind == 4 then None
    else Some (Kind at)

-- the fault that stands at place `at`, after this many events, where these octets are left
abbrev pub fault_at : Heading → ℕ → ℕ → List ℕ → Option RecordFault
fault_at h = fault_by (kind_fault h)

-- the octets of a head and of events after it
abbrev pub script_text : Heading → List ScriptEvent → List ℕ
script_text h events = head_text script_magic h ++ flat_map event_text events

-- the input is a script of this head and these events, and then anything
pub record IsScript (octets : List ℕ) (h : Heading) (events : List ScriptEvent) : Type 0 where
  pub head : IsHeading h
  pub fits : AllByRecursion (EventFits h) events
  pub few : length events ≤ event_limit
  pub text : (rest : List ℕ) × (octets ≡ script_text h events ++ end_mark ∷ rest)

-- what follows the head and these events has this fault at its beginning
pub record FaultAfter (octets : List ℕ) (h : Heading) (events : List ScriptEvent) (f : RecordFault) : Type 0 where
  pub heading : IsHeading h
  pub fits : AllByRecursion (EventFits h) events
  pub few : length events ≤ event_limit
  pub rest : List ℕ
  pub text : octets ≡ script_text h events ++ rest
  pub fault : fault_at h (length events) (length (script_text h events)) rest ≡ Some f

-- the first fault of an input: of its head, or after some events
abbrev pub HasFirstFault : List ℕ → RecordFault → Type 0
HasFirstFault octets f = (head_fault script_magic (take 12 octets) ≡ Some f) ⊎ ((h : Heading) × (events : List ScriptEvent) × FaultAfter octets h events f)

-- no input is both a script and one with a first fault
abbrev pub ScriptsHaveNoFault : Type 0
ScriptsHaveNoFault = (octets : List ℕ) (h : Heading) (events : List ScriptEvent) (f : RecordFault) → IsScript octets h events → HasFirstFault octets f → ⊥

-- an input has one first fault at most
abbrev pub ScriptsHaveOneFault : Type 0
ScriptsHaveOneFault = (octets : List ℕ) (f g : RecordFault) → HasFirstFault octets f → HasFirstFault octets g → f ≡ g
