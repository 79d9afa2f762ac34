-- What a line of `serve` is lent, and what its run makes of it.
use Rattle.std.specs.Prelude.{◌≡◌, ◌⊎◌, ◌+◌, ℕ, List, length, map, Option, Some, IfSome, Bool, true}
use Rattle.std.specs.String.{string_bytes}
use Rattle.std.specs.Io.KnownBytes.{Appends}
use Rattle.std.specs.declared.string.String.{String}
use Rattle.std.specs.declared.vec.Vec.{Vec}
use Rattle.gate_base.specs.Faults.{Rose}
use Rattle.command_line.specs.Said.{ServeSaid, Text}
use Rattle.command_line.specs.Lines.{fits_serve, line_of}
use Rattle.command_line.specs.declared.line.Line.TheVariants.{Serve}
use Rattle.gate_notes.specs.Exchange.{GainedUnlessFault, SomeRose}
use Rattle.gate_notes.specs.declared.status.Status.{Status}
use Rattle.gate_notes.specs.declared.status.Status.TheVariants.{Done, OutOfMemory}
use Rattle.line_run.specs.declared.line_end.LineEnd.{LineEnd}
use Rattle.line_run.specs.Objects.{LineObjects, RanOver}
use Rattle.line_run.specs.Opening.{LineSeen}
use Rattle.line_run.specs.Seen.{ClockKind, LinkKind, SinkKind, SourceKind}
use Rattle.serve_runs.specs.Serve.{StatusFollows, fault_of_ends, line_options, serve_lines}

-- ---- the words

-- whether the words are a line of serve for this many links and journals
abbrev pub fits_over : {P J X Y Z V : Type 0} → Vec (String X) Y → Vec P Z → Vec J V → Bool
fits_over words links journals = fits_serve (map string_bytes words.items) (length links.items) (length journals.items)

-- this is the line of the words, for this many links and journals
abbrev pub IsLineOf : List Text → ℕ → ℕ → LineSeen → Type 0
IsLineOf words links journals l =
    (said : ServeSaid) × (line_of words ≡ Some (Serve said)) × (l.filers ≡ length said.listen) × (l.options ≡ line_options said.options)
    × (length said.listen ≡ links) × (journals ≡ 1 + links)

-- ---- the objects

-- these are still the objects that they were
abbrev pub Untouched : {L P I O J C : Type 0} → L → P → I → O → J → C → L → P → I → O → J → C → Type 0
Untouched links reply microphone speaker journals clock links' reply' microphone' speaker' journals' clock' =
    (links' ≡ links) × (reply' ≡ reply) × (microphone' ≡ microphone) × (speaker' ≡ speaker) × (journals' ≡ journals) × (clock' ≡ clock)

-- the line of the words ran over these objects, which are those now, and reached this end, where it resulted in one
abbrev pub ServeRan : {P I O J C X Y : Type 0} → LinkKind P → SourceKind I → SinkKind O → SinkKind J → ClockKind C → Vec (String X) Y → LineObjects P I O J C → LineObjects P I O J C → Option LineEnd → Type 0
ServeRan of_p of_i of_o of_j of_c words a b end = IfSome end (λ e.
    (said : ServeSaid) × (line_of (map string_bytes words.items) ≡ Some (Serve said))
    × RanOver of_p of_i of_o of_j of_c (record { filers = length said.listen; options = line_options said.options }) a b e)

-- the count of the speaker, of a journal or of the notes rose
abbrev pub SomeSinkFailed : {O J E Y : Type 0} → SinkKind O → SinkKind J → SinkKind E → O → O → Vec J Y → Vec J Y → E → E → Type 0
SomeSinkFailed of_o of_j of_e speaker speaker' journals journals' notes notes' =
    Rose (of_o.faults speaker) (of_o.faults speaker') ⊎ SomeRose (map of_j.faults journals.items) (map of_j.faults journals'.items) ⊎ Rose (of_e.faults notes) (of_e.faults notes')

-- the count of a link or of the reply rose
abbrev pub SomeLinkFailed : {P Y : Type 0} → LinkKind P → Vec P Y → Vec P Y → P → P → Type 0
SomeLinkFailed of_p links links' reply reply' = SomeRose (map of_p.faults links.items) (map of_p.faults links'.items) ⊎ Rose (of_p.faults reply) (of_p.faults reply')

-- the count of one of the objects or of the notes rose
abbrev pub SomeFailed : {P I O J E C : Type 0} → LinkKind P → SourceKind I → SinkKind O → SinkKind J → SinkKind E → LineObjects P I O J C → LineObjects P I O J C → E → E → Type 0
SomeFailed of_p of_i of_o of_j of_e a b notes notes' =
    Rose (of_i.faults a.microphone) (of_i.faults b.microphone) ⊎ Rose (of_o.faults a.speaker) (of_o.faults b.speaker) ⊎ SomeRose (map of_j.faults a.journals) (map of_j.faults b.journals)
    ⊎ Rose (of_e.faults notes) (of_e.faults notes') ⊎ SomeRose (map of_p.faults a.links) (map of_p.faults b.links) ⊎ Rose (of_p.faults a.reply) (of_p.faults b.reply)

-- where the words fit the objects and no count rose, the line is done, unless memory is out
abbrev pub DoneUnlessFault : {P I O J E C X Y : Type 0} → LinkKind P → SourceKind I → SinkKind O → SinkKind J → SinkKind E → Vec (String X) Y → LineObjects P I O J C → LineObjects P I O J C → E → E → Status → Type 0
DoneUnlessFault of_p of_i of_o of_j of_e words a b notes notes' status =
    fits_serve (map string_bytes words.items) (length a.links) (length a.journals) ≡ true
    → ¬ SomeFailed of_p of_i of_o of_j of_e a b notes notes'
    → (status ≡ Done) ⊎ (status ≡ OutOfMemory)

-- ---- the notes

-- the notes have gained this text, or a prefix of it where a give to them failed
abbrev pub NotesGained : {E : Type 0} → SinkKind E → E → E → List ℕ → Type 0
NotesGained of_e notes notes' text = GainedUnlessFault (of_e.given notes) (of_e.given notes') (of_e.faults notes) (of_e.faults notes') text

-- the status follows from the ends of the callers, and from whether the notes were given their lines
abbrev pub StatusTells : {E : Type 0} → SinkKind E → E → E → Status → LineEnd → Type 0
StatusTells of_e notes notes' status e = StatusFollows (fault_of_ends e.player e.filers) status (Appends (of_e.given notes) (of_e.given notes') (serve_lines e.played e.filers))
