use Rattle.std.proofs.Common.{◌≤◌, ◌-◌, ℕ, List}
use Rattle.std.specs.Prelude.{ℤ}
use Rattle.frame_codec.specs.Frame.{Fields}
use Rattle.speech_files.proofs.Decoding.{Decoding}
use Rattle.speech_files.proofs.decode_command.decode_frames.Given as goal

abbrev pub invariant-frames : goal.invariant-frames
invariant-frames g l =
    let left = g.I.Source.left in
    let given = g.O.Sink.given in
    record {
      sofar : (frames : List (List ℕ)) × (fields : List Fields) × (samples : List ℤ)
          × Decoding l.count l.decoder (left l.fn.input) (left l.input) (given l.fn.output) (given l.output) frames fields samples;
      read : g.I.Source.faults l.fn.input ≤ g.I.Source.faults l.input;
      written : g.O.Sink.faults l.fn.output ≤ g.O.Sink.faults l.output;
      kin : g.O.Sink.kin l.fn.output l.output;
    }

abbrev pub decreases-frames : goal.decreases-frames
decreases-frames g l = 16777216 - l.count
