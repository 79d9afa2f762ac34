-- What passed between a command and the objects that it was lent.
use Rattle.std.specs.Prelude.{ℕ, ◌⊎◌, ◌≤◌, ◌<◌, List, length, slice_index, Option}
use Rattle.std.specs.Io.KnownBytes.{Appends, Keeps}
use Rattle.gate_base.specs.Faults.{Rose}
use Rattle.gate_io.specs.Flow.{AppendsPart}
use Rattle.gate_io.specs.declared.sink.Sink as sink
use Rattle.gate_io.specs.declared.source.Source as source

-- The octets of the input as the command began, and of the output and the notes as it began and ended, where they are known.
-- And the count of the notes' faults, as it began and ended.
pub record Exchange : Type 0 where
  pub input : Option (List ℕ)
  pub output : Option (List ℕ)
  pub output_now : Option (List ℕ)
  pub notes : Option (List ℕ)
  pub notes_now : Option (List ℕ)
  pub noted : ℕ
  pub noted_now : ℕ

-- the output has gained this text
abbrev pub Gave : Exchange → List ℕ → Type 0
Gave x text = Appends x.output x.output_now text

abbrev pub GavePart : Exchange → List ℕ → Type 0
GavePart x text = AppendsPart x.output x.output_now text

-- the notes have gained this text
abbrev pub Noted : Exchange → List ℕ → Type 0
Noted x text = Appends x.notes x.notes_now text

abbrev pub NotedPart : Exchange → List ℕ → Type 0
NotedPart x text = AppendsPart x.notes x.notes_now text

-- octets have gained this text, or a prefix of it where the count of faults rose
abbrev pub GainedUnlessFault : Option (List ℕ) → Option (List ℕ) → ℕ → ℕ → List ℕ → Type 0
GainedUnlessFault old new before now text = Appends old new text ⊎ (AppendsPart old new text × Rose before now)

-- the notes have gained this text, or a prefix of it where a give to them failed
abbrev pub NotedUnlessFault : Exchange → List ℕ → Type 0
NotedUnlessFault x text = GainedUnlessFault x.notes x.notes_now x.noted x.noted_now text

-- ---- the output and the notes, apart from the inputs

-- The octets of the output and the notes as the command began and ended, where they are known.
-- And the count of the notes' faults, as it began and ended.
pub record Giving : Type 0 where
  pub output : Option (List ℕ)
  pub output_now : Option (List ℕ)
  pub notes : Option (List ℕ)
  pub notes_now : Option (List ℕ)
  pub noted : ℕ
  pub noted_now : ℕ

-- the same beside one input
abbrev pub over : Giving → Option (List ℕ) → Exchange
over x input = record {
  input = input;
  output = x.output;
  output_now = x.output_now;
  notes = x.notes;
  notes_now = x.notes_now;
  noted = x.noted;
  noted_now = x.noted_now;
}

-- the output and the notes are as they were
abbrev pub GaveNothing : Giving → Type 0
GaveNothing x = Keeps x.output x.output_now × Keeps x.notes x.notes_now

-- the output and the notes have gained these texts
abbrev pub GaveBoth : Giving → List ℕ → List ℕ → Type 0
GaveBoth x output notes = Appends x.output x.output_now output × Appends x.notes x.notes_now notes

-- A give failed: one to the output, which has a prefix of its text, and the notes are as they were; or one to the notes,
-- which have a prefix of theirs, and the output has all of its text.
abbrev pub GaveFront : Giving → List ℕ → List ℕ → Type 0
GaveFront x output notes =
    (AppendsPart x.output x.output_now output × Keeps x.notes x.notes_now)
    ⊎ (Appends x.output x.output_now output × AppendsPart x.notes x.notes_now notes)

-- the output is as it was, and the notes have gained this text, or a prefix of it where a give to them failed
abbrev pub NotedAlone : Giving → List ℕ → Type 0
NotedAlone x text = Keeps x.output x.output_now × GainedUnlessFault x.notes x.notes_now x.noted x.noted_now text

-- ---- what the objects tell of themselves, before and now

-- what an output and the notes were given, and the notes' faults
abbrev pub giving_of : {O E : Type 0} → sink.Ghosts O → sink.Ghosts E → O → O → E → E → Giving
giving_of o e output output_now notes notes_now = record {
  output = o.given output;
  output_now = o.given output_now;
  notes = e.given notes;
  notes_now = e.given notes_now;
  noted = e.faults notes;
  noted_now = e.faults notes_now;
}

-- the same, and what was left of an input before
abbrev pub exchange_of : {I O E : Type 0} → source.Ghosts I → sink.Ghosts O → sink.Ghosts E → I → O → O → E → E → Exchange
exchange_of i o e input output output_now notes notes_now = record {
  input = i.left input;
  output = o.given output;
  output_now = o.given output_now;
  notes = e.given notes;
  notes_now = e.given notes_now;
  noted = e.faults notes;
  noted_now = e.faults notes_now;
}

-- a give to the output or to the notes failed: the count of its faults rose
abbrev pub GiveFailed : {O E : Type 0} → sink.Ghosts O → sink.Ghosts E → O → O → E → E → Type 0
GiveFailed o e output output_now notes notes_now = Rose (o.faults output) (o.faults output_now) ⊎ Rose (e.faults notes) (e.faults notes_now)

-- ---- counts of several inputs, in their order

-- no count fell
abbrev pub NoneFell : List ℕ → List ℕ → Type 0
NoneFell before now = (k : ℕ) → slice_index before k ≤ slice_index now k

-- at some place the count rose
abbrev pub SomeRose : List ℕ → List ℕ → Type 0
SomeRose before now = (k : ℕ) × (k < length before) × Rose (slice_index before k) (slice_index now k)
