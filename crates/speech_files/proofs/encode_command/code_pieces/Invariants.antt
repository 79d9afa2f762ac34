use Rattle.std.proofs.Common.{◌≤◌, ◌-◌, ℕ, List}
use Rattle.std.specs.Prelude.{ℤ}
use Rattle.frame_codec.specs.Frame.{Fields}
use Rattle.speech_files.proofs.Encoding.{Encoding}
use Rattle.speech_files.proofs.encode_command.code_pieces.Given as goal

abbrev pub invariant-pieces : goal.invariant-pieces
invariant-pieces g l =
    let left = g.I.Source.left in
    let given = g.O.Sink.given in
    record {
      sofar : (pieces frames : List (List ℕ)) × (fields : List Fields) × (samples : List ℤ)
          × Encoding l.count l.encoder (left l.fn.input) (left l.input) (given l.fn.output) (given l.output) pieces frames fields samples;
      read : g.I.Source.faults l.fn.input ≤ g.I.Source.faults l.input;
      written : g.O.Sink.faults l.fn.output ≤ g.O.Sink.faults l.output;
      kin : g.O.Sink.kin l.fn.output l.output;
    }

abbrev pub decreases-pieces : goal.decreases-pieces
decreases-pieces g l = 16777216 - l.count
