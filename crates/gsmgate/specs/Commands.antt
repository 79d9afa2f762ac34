-- What each command over files does.
use Rattle.std.specs.Prelude.{ℕ, List, [], ◌∷◌, map, Option, None}
use Rattle.command_line.specs.declared.line.Command.{Command}
use Rattle.command_line.specs.declared.line.Command.TheVariants.{Simulate, Decode, Encode, Render, Verify, Make}
use Rattle.gate_notes.specs.declared.status.Status.{Status}
use Rattle.gate_notes.specs.Exchange.{GainedUnlessFault, Giving, over}
use Rattle.script_runs.specs.Simulate as simulate
use Rattle.speech_files.specs.Decode as decode
use Rattle.speech_files.specs.Encode as encode
use Rattle.journal_runs.specs.Render as render
use Rattle.journal_runs.specs.Verify as verify
use Rattle.journal_runs.specs.Make as make

-- what passed to the notes, where nothing is known of an output
abbrev pub noting : Option (List ℕ) → Option (List ℕ) → ℕ → ℕ → Giving
noting before now faults faults_now = record { output = None; output_now = None; notes = before; notes_now = now; noted = faults; noted_now = faults_now }

-- what passed to the notes, and to an output
abbrev pub giving : Option (List ℕ) → Option (List ℕ) → Giving → Giving
giving before now x = record x { output = before; output_now = now }

-- there is one input, and this holds of it
abbrev pub OfOne : (Option (List ℕ) → Type 0) → List (Option (List ℕ)) → Type 0
OfOne P [] = ⊥
OfOne P (input ∷ []) = P input
OfOne P (input ∷ more ∷ inputs) = ⊥

-- there is no input, and this holds
abbrev pub OfNone : Type 0 → List (Option (List ℕ)) → Type 0
OfNone P [] = P
OfNone P (input ∷ inputs) = ⊥

-- what a status says of what passed between the command, its inputs, its output and its notes
abbrev pub EndsAs : Command → Status → List (Option (List ℕ)) → Giving → Type 0
EndsAs (Simulate voice) status inputs x = OfOne (λ input. simulate.Ends voice status (over x input)) inputs
EndsAs Decode status inputs x = OfOne (λ input. decode.Ends status (over x input)) inputs
EndsAs Encode status inputs x = OfOne (λ input. encode.Ends status (over x input)) inputs
EndsAs (Render seed) status inputs x = OfOne (λ input. render.Ends seed status (over x input)) inputs
EndsAs Verify status inputs x = verify.Ends status inputs x
EndsAs (Make seed count filers) status inputs x = OfNone (make.Ends seed count filers status x) inputs

-- where the inputs are in their grammars and none of the objects failed, the command reaches its end
abbrev pub CompletesAs : Command → Status → List (Option (List ℕ)) → Type 0 → Type 0
CompletesAs (Simulate voice) status inputs failed = OfOne (λ input. simulate.Completes status input failed) inputs
CompletesAs Decode status inputs failed = OfOne (λ input. decode.Completes status input failed) inputs
CompletesAs Encode status inputs failed = OfOne (λ input. encode.Completes status input failed) inputs
CompletesAs (Render seed) status inputs failed = OfOne (λ input. render.Completes status input failed) inputs
CompletesAs Verify status inputs failed = verify.Completes status inputs failed
CompletesAs (Make seed count filers) status inputs failed = OfNone (make.Completes status failed) inputs

-- there is one input, and this holds of it and of what is left of it
abbrev pub OfOneLeft : (Option (List ℕ) → Option (List ℕ) → Type 0) → List (Option (List ℕ)) → List (Option (List ℕ)) → Type 0
OfOneLeft P (input ∷ []) (left ∷ []) = P input left
OfOneLeft P (input ∷ []) [] = ⊥
OfOneLeft P (input ∷ []) (left ∷ more ∷ rest) = ⊥
OfOneLeft P [] left = ⊥
OfOneLeft P (input ∷ more ∷ inputs) left = ⊥

-- where a command over files stops, by its inputs before and after: of a command over events what those that were read have given, of `verify` that the inputs
-- after the one where the reading stopped are as they were
abbrev pub StopsAs : {D : Type 0} → Command → Status → (D → Option (List ℕ)) → (D → ℕ) → List D → List D → Giving → Type 0
StopsAs (Simulate voice) status left faults old new x = OfOneLeft (λ input rest. simulate.Stops voice status (over x input) rest) (map left old) (map left new)
StopsAs (Render seed) status left faults old new x = OfOneLeft (λ input rest. render.StopsAt seed status (over x input) rest) (map left old) (map left new)
StopsAs Verify status left faults old new x = verify.StopsAtInput status (map left old) faults old new (GainedUnlessFault x.notes x.notes_now x.noted x.noted_now)
StopsAs Decode status left faults old new x = Unit {0}
StopsAs Encode status left faults old new x = Unit {0}
StopsAs (Make seed count filers) status left faults old new x = Unit {0}
