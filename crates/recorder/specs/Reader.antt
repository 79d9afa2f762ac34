-- A reader of events, by what it has read.
use Rattle.std.specs.Prelude.{ℕ, ◌+◌, List, length, Bool, true, ◌≡◌, Option, Some, None, Result, Ok, Err}
use Rattle.std.specs.Io.KnownBytes.{Consumes}
use Rattle.recorder.specs.declared.fault.RecordFault.{RecordFault}
use Rattle.recorder.specs.declared.fault.RecordEnd.{RecordEnd}
use Rattle.recorder.specs.declared.fault.RecordEnd.TheVariants.{Fault, ReadFailed}
use Rattle.recorder.specs.declared.fault.Ending.{Ending}
use Rattle.recorder.specs.declared.fault.Ending.TheVariants.{Mark, Refused}
use Rattle.recorder.specs.declared.events.ScriptEvent.{ScriptEvent}
use Rattle.recorder.specs.declared.events.PlayEvent.{PlayEvent}
use Rattle.recorder.specs.declared.events.FilerEvent.{FilerEvent}
use Rattle.recorder.specs.declared.filer_head.FilerHead.{FilerHead}
use Rattle.recorder.specs.Filing.{filer_event_text}
use Rattle.recorder.specs.Play.{may_open, play_event_text}
use Rattle.recorder.specs.Script.{event_text}
use Rattle.recorder.specs.Heads.{Heading}

-- its head once that is read, the place and the number of events read, and how it ended
pub record Progress : Type 0 where
  pub head : Option Heading
  pub at : ℕ
  pub count : ℕ
  pub over : Option Ending

-- before any octet was read
abbrev pub fresh : Progress
fresh = record { head = None; at = 0; count = 0; over = None }

-- the answer tells this fault and no other, unless the read failed
abbrev pub Tells : {T : Type 0} → Result T RecordEnd → Option RecordFault → Type 0
Tells (Ok x) fault = fault ≡ None
Tells (Err (Fault f)) fault = fault ≡ Some f
Tells (Err ReadFailed) fault = Unit {0}

-- the same of an answer that goes no further than a kind: at a kind nothing is told yet
abbrev pub TellsNoKind : Result (Option ℕ) RecordEnd → Option RecordFault → Type 0
TellsNoKind (Ok (Some kind)) fault = Unit {0}
TellsNoKind (Ok None) fault = fault ≡ None
TellsNoKind (Err (Fault f)) fault = fault ≡ Some f
TellsNoKind (Err ReadFailed) fault = Unit {0}

-- this is left of an input after some of it was taken from the beginning
abbrev pub IsWithin : Option (List ℕ) → Option (List ℕ) → Type 0
IsWithin input left = (taken : List ℕ) × Consumes input left taken

-- what a reader that is over answers
abbrev pub again : {T : Type 0} → Ending → Result (Option T) RecordEnd
again Mark = Ok None
again (Refused e) = Err e

-- a reader after an answer, where each event has its text
abbrev pub stepped_by : {T : Type 0} → (T → List ℕ) → Progress → Result (Option T) RecordEnd → Progress
stepped_by text r (Ok (Some e)) = record r { at = r.at + length (text e); count = r.count + 1 }
stepped_by text r (Ok None) = record r { over = Some Mark }
stepped_by text r (Err e) = record r { over = Some (Refused e) }

-- a reader of a script after an answer
abbrev pub stepped : Progress → Result (Option ScriptEvent) RecordEnd → Progress
stepped = stepped_by event_text

-- a reader after its first answer
abbrev pub headed : Result Heading RecordEnd → Progress
headed (Ok h) = record { head = Some h; at = 12; count = 0; over = None }
headed (Err e) = record fresh { over = Some (Refused e) }

-- what a reader whose head is decided answers
abbrev pub head_again : Option Heading → Option Ending → Option (Result Heading RecordEnd)
head_again (Some h) over = Some (Ok h)
head_again None None = None
head_again None (Some Mark) = None
head_again None (Some (Refused e)) = Some (Err e)

-- ---- of the player's journal

-- besides, whether Idle and Base may come
pub record PlayProgress : Type 0 where
  pub reading : Progress
  pub opening : Bool

-- before any octet was read
abbrev pub fresh_play : PlayProgress
fresh_play = record { reading = fresh; opening = true }

-- a reader after its first answer
abbrev pub headed_play : Result Heading RecordEnd → PlayProgress
headed_play result = record { reading = headed result; opening = true }

-- whether Idle and Base may come after an answer
abbrev pub opening_after : Bool → Result (Option PlayEvent) RecordEnd → Bool
opening_after opening (Ok (Some e)) = may_open e
opening_after opening (Ok None) = opening
opening_after opening (Err e) = opening

-- a reader after an answer
abbrev pub stepped_play : PlayProgress → Result (Option PlayEvent) RecordEnd → PlayProgress
stepped_play p result = record { reading = stepped_by play_event_text p.reading result; opening = opening_after p.opening result }

-- ---- of a filer's journal

-- the head, which has the filer's number too, once that is read; the head of what is kept besides is not used
pub record FilerProgress : Type 0 where
  pub head : Option FilerHead
  pub reading : Progress

-- before any octet was read
abbrev pub fresh_filer : FilerProgress
fresh_filer = record { head = None; reading = fresh }

-- a reader after its first answer
abbrev pub headed_filer : Result FilerHead RecordEnd → FilerProgress
headed_filer (Ok h) = record { head = Some h; reading = record fresh { at = 13 } }
headed_filer (Err e) = record { head = None; reading = record fresh { over = Some (Refused e) } }

-- what a reader whose head is decided answers
abbrev pub filer_again : Option FilerHead → Option Ending → Option (Result FilerHead RecordEnd)
filer_again (Some h) over = Some (Ok h)
filer_again None None = None
filer_again None (Some Mark) = None
filer_again None (Some (Refused e)) = Some (Err e)

-- a reader after an answer
abbrev pub stepped_filer : FilerProgress → Result (Option FilerEvent) RecordEnd → FilerProgress
stepped_filer p result = record p { reading = stepped_by filer_event_text p.reading result }
