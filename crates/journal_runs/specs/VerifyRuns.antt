-- What the reading of a line's journals does.
use Rattle.std.specs.Prelude.{ℕ, suc, ◌≡◌, List, Option}
use Rattle.std.specs.Io.KnownBytes.{Keeps}
use Rattle.recorder.specs.declared.fault.RecordEnd.TheVariants as ends
use Rattle.recorder.specs.declared.refusal.JournalRefusal.{JournalRefusal}
use Rattle.recorder.specs.declared.refusal.JournalRefusal.TheVariants as refusal
use Rattle.recorder.specs.Heads.{Heading}
use Rattle.gate_notes.specs.Exchange.{GainedUnlessFault}
use Rattle.gate_notes.specs.Notes.{fault_line}
use Rattle.journal_runs.specs.Verify.{FailsAtInput, FilerIsFirst, HasFirstFault, KeepsBehind}
use Rattle.journal_runs.specs.declared.journals.Unread.{Unread}
use Rattle.journal_runs.specs.declared.journals.Unread.TheVariants as unread
use Rattle.gate_notes.specs.declared.status.Status.{Status}
use Rattle.gate_notes.specs.declared.status.Status.TheVariants as status

-- why the journal of the input at a place was not read
abbrev pub unread_at : ℕ → JournalRefusal → Unread
unread_at place (refusal.End (ends.Fault fault)) = unread.Fault place fault
unread_at place (refusal.End ends.ReadFailed) = unread.ReadFault
unread_at place refusal.OutOfMemory = unread.OutOfMemory

-- why the filers' journals were not read, under the line's head; input 0 is the player's
abbrev pub FilersUnread : Heading → List (Option (List ℕ)) → Unread → Type 0
FilersUnread h filers (unread.Fault place fault) = (k : ℕ) × (place ≡ suc k) × FilerIsFirst h filers k fault
FilersUnread h filers unread.ReadFault = Unit {0}
FilersUnread h filers unread.OutOfMemory = Unit {0}

-- why the journals were not read
abbrev pub AreUnread : List (Option (List ℕ)) → Unread → Type 0
AreUnread inputs (unread.Fault place fault) = HasFirstFault inputs place fault
AreUnread inputs unread.ReadFault = Unit {0}
AreUnread inputs unread.OutOfMemory = Unit {0}

-- the inputs after the one that stopped the reading are as they were: after the faulty one, or after one whose count of faults rose
abbrev pub LeavesBehind : {D : Type 0} → (D → ℕ) → Unread → List D → List D → Type 0
LeavesBehind faults (unread.Fault place fault) old new = KeepsBehind place old new
LeavesBehind faults unread.ReadFault old new = FailsAtInput faults old new
LeavesBehind faults unread.OutOfMemory old new = Unit {0}

-- the same of the filers' inputs alone; input 0 is the player's
abbrev pub LeavesFilersBehind : {D : Type 0} → (D → ℕ) → Unread → List D → List D → Type 0
LeavesFilersBehind faults (unread.Fault place fault) old new = (k : ℕ) × (place ≡ suc k) × KeepsBehind k old new
LeavesFilersBehind faults unread.ReadFault old new = FailsAtInput faults old new
LeavesFilersBehind faults unread.OutOfMemory old new = Unit {0}

-- the status for it, and what the notes have gained, or a prefix of that where a give failed
abbrev pub IsRefused : Unread → Status → Option (List ℕ) → Option (List ℕ) → ℕ → ℕ → Type 0
IsRefused (unread.Fault place fault) s notes notes_now noted noted_now = (s ≡ status.Input) × GainedUnlessFault notes notes_now noted noted_now (fault_line place fault)
IsRefused unread.ReadFault s notes notes_now noted noted_now = (s ≡ status.ReadFault) × Keeps notes notes_now
IsRefused unread.OutOfMemory s notes notes_now noted noted_now = (s ≡ status.OutOfMemory) × Keeps notes notes_now
