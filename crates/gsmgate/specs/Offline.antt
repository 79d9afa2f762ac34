-- What a command over files is lent, and what its run makes of it.
use Rattle.std.specs.Prelude.{◌≡◌, ◌≤◌, ◌⊎◌, List, length, map, Some, Bool, true, false}
use Rattle.std.specs.String.{string_bytes}
use Rattle.std.specs.declared.string.String.{String}
use Rattle.std.specs.declared.vec.Vec.{Vec}
use Rattle.gate_base.specs.Faults.{Rose}
use Rattle.command_line.specs.Said.{FilesSaid}
use Rattle.command_line.specs.Lines.{Said, fits_files, line_of}
use Rattle.command_line.specs.declared.line.Command.{Command}
use Rattle.command_line.specs.declared.line.Line.TheVariants.{Files}
use Rattle.gate_notes.specs.Exchange.{Giving, NoneFell, SomeRose}
use Rattle.gate_notes.specs.Notes.{usage_line}
use Rattle.gate_notes.specs.declared.status.Status.{Status}
use Rattle.gate_notes.specs.declared.status.Status.TheVariants.{Usage, OutOfMemory}
use Rattle.line_run.specs.Seen.{SinkKind, SourceKind}
use Rattle.serve_runs.specs.Running.{NotesGained}
use Rattle.gsmgate.specs.Commands.{CompletesAs, EndsAs, StopsAs}

-- ---- the words

-- whether the words are a line over files with this many inputs
abbrev pub files_fit : {I X Y Z : Type 0} → Vec (String X) Y → Vec I Z → Bool
files_fit words inputs = fits_files (map string_bytes words.items) (length inputs.items)

-- ---- the objects

-- what a command over files is lent, at one moment
pub record Lent (I O E : Type 0) : Type 0 where
  pub inputs : List I
  pub output : O
  pub notes : E

abbrev pub lent : {I O E Z : Type 0} → Vec I Z → O → E → Lent I O E
lent inputs output notes = record { inputs = inputs.items; output = output; notes = notes }

-- what was given to an output and to notes, which are those now
abbrev pub passed : {O E : Type 0} → SinkKind O → SinkKind E → O → E → O → E → Giving
passed of_o of_e output notes output' notes' = record {
  output = of_o.given output;
  output_now = of_o.given output';
  notes = of_e.given notes;
  notes_now = of_e.given notes';
  noted = of_e.faults notes;
  noted_now = of_e.faults notes';
}

-- the count of one of them rose
abbrev pub SomeFailed : {I O E : Type 0} → SourceKind I → SinkKind O → SinkKind E → List I → O → E → List I → O → E → Type 0
SomeFailed of_i of_o of_e inputs output notes inputs' output' notes' =
    SomeRose (map of_i.faults inputs) (map of_i.faults inputs') ⊎ Rose (of_o.faults output) (of_o.faults output') ⊎ Rose (of_e.faults notes) (of_e.faults notes')

-- the same of a command's one input
abbrev pub OneFailed : {I O E : Type 0} → SourceKind I → SinkKind O → SinkKind E → I → O → E → I → O → E → Type 0
OneFailed of_i of_o of_e input output notes input' output' notes' =
    Rose (of_i.faults input) (of_i.faults input') ⊎ Rose (of_o.faults output) (of_o.faults output') ⊎ Rose (of_e.faults notes) (of_e.faults notes')

-- the count of none of them fell
abbrev pub NoCountFell : {I O E : Type 0} → SourceKind I → SinkKind O → SinkKind E → Lent I O E → Lent I O E → Type 0
NoCountFell of_i of_o of_e a b = NoneFell (map of_i.faults a.inputs) (map of_i.faults b.inputs) × (of_o.faults a.output ≤ of_o.faults b.output) × (of_e.faults a.notes ≤ of_e.faults b.notes)

-- all of it is as it was
abbrev pub Untouched : {I O E : Type 0} → Lent I O E → Lent I O E → Type 0
Untouched a b = (b.inputs ≡ a.inputs) × (b.output ≡ a.output) × (b.notes ≡ a.notes)

-- all of it is as it was, but that the notes have gained the line `usage`
abbrev pub OnlyRefused : {I O E : Type 0} → SinkKind E → Lent I O E → Lent I O E → Type 0
OnlyRefused of_e a b = (b.inputs ≡ a.inputs) × (b.output ≡ a.output) × NotesGained of_e a.notes b.notes usage_line

-- ---- what a command results in

-- the status says what passed, and where the inputs were in their grammars and no count rose the command reached its end
abbrev pub RanAs : {I O E : Type 0} → SourceKind I → SinkKind O → SinkKind E → Command → Status → Lent I O E → Lent I O E → Type 0
RanAs of_i of_o of_e command status a b =
    EndsAs command status (map of_i.left a.inputs) (passed of_o of_e a.output a.notes b.output b.notes)
    × CompletesAs command status (map of_i.left a.inputs) (SomeFailed of_i of_o of_e a.inputs a.output a.notes b.inputs b.output b.notes)

-- where it stopped, by what is left of the inputs
abbrev pub StoppedAs : {I O E : Type 0} → SourceKind I → SinkKind O → SinkKind E → Command → Status → Lent I O E → Lent I O E → Type 0
StoppedAs of_i of_o of_e command status a b = StopsAs command status of_i.left of_i.faults a.inputs b.inputs (passed of_o of_e a.output a.notes b.output b.notes)

-- ---- what a line results in

-- where it is a line over files that was not refused, its command ran
abbrev pub LineRanAs : {I O E : Type 0} → SourceKind I → SinkKind O → SinkKind E → Said → Status → Lent I O E → Lent I O E → Type 0
LineRanAs of_i of_o of_e line status a b = (said : FilesSaid) → line ≡ Files said → (status ≡ Usage → ⊥) → RanAs of_i of_o of_e said.command status a b

abbrev pub LineStoppedAs : {I O E : Type 0} → SourceKind I → SinkKind O → SinkKind E → Said → Status → Lent I O E → Lent I O E → Type 0
LineStoppedAs of_i of_o of_e line status a b = (said : FilesSaid) → line ≡ Files said → (status ≡ Usage → ⊥) → StoppedAs of_i of_o of_e said.command status a b

-- ---- what words result in

-- where the words do not fit the inputs and there was no memory to tell it, all is as it was
abbrev pub UnreadUnlessFit : {I O E X Y : Type 0} → Vec (String X) Y → Status → Lent I O E → Lent I O E → Type 0
UnreadUnlessFit words status a b = fits_files (map string_bytes words.items) (length a.inputs) ≡ false → status ≡ OutOfMemory → Untouched a b

-- where the words are a line over files with this many inputs, its command ran, or there was no memory to read them
abbrev pub FilesRan : {I O E X Y : Type 0} → SourceKind I → SinkKind O → SinkKind E → Vec (String X) Y → Status → Lent I O E → Lent I O E → Type 0
FilesRan of_i of_o of_e words status a b =
    (said : FilesSaid) → line_of (map string_bytes words.items) ≡ Some (Files said) → fits_files (map string_bytes words.items) (length a.inputs) ≡ true
    → ((status ≡ OutOfMemory) × (b.inputs ≡ a.inputs) × (b.output ≡ a.output) × (b.notes ≡ a.notes)) ⊎ RanAs of_i of_o of_e said.command status a b

-- and where its command stopped
abbrev pub FilesStopped : {I O E X Y : Type 0} → SourceKind I → SinkKind O → SinkKind E → Vec (String X) Y → Status → Lent I O E → Lent I O E → Type 0
FilesStopped of_i of_o of_e words status a b =
    (said : FilesSaid) → line_of (map string_bytes words.items) ≡ Some (Files said) → fits_files (map string_bytes words.items) (length a.inputs) ≡ true
    → (status ≡ OutOfMemory) ⊎ StoppedAs of_i of_o of_e said.command status a b
