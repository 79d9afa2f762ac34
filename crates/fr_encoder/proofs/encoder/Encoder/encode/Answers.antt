use Rattle.std.proofs.Common.{◌≡◌}
use Rattle.frame_codec.specs.Frame.{Fields, IsWithinWidths}
use Rattle.fr_encoder.specs.Coding.{ratio_codes, sub_frames, Held, Encodes}
use Rattle.fr_encoder.proofs.CodingLaws.{Encodes-more}
use Rattle.fr_encoder.proofs.encoder.Encoder.encode.Goals as goal

pub returns : goal.returns
returns c =
    let frame : Fields = record { larc = c.step.result.0; sub = c.code_residual-sub.result } in
    let held : Held = record { front = c.self.inside.front; long_term = c.self.inside.long_term } in
    let next : Held = record { front = c.step.new.self; long_term = c.code_residual-sub.new.long_term } in
    let made : IsWithinWidths frame × (c.unwrap.result ≡ frame) = rw c.unwrap.ensures at c.of.ensures.widths in
    record {
      goes_on = λ before frames encodes.
          let old : Encodes before frames held = rw (← c.self.view_is) at encodes in
          rw made.1 (Encodes-more before c.args.samples.now c.step.result.1 frames frame held next old made.0
          (c.step.ensures.goes_on before (ratio_codes frames) old.carried.d old.carried.front)
          (c.code_residual-sub.ensures.goes_on old.carried.d (sub_frames frames) old.carried.excites));
    }
