use Rattle.std.proofs.Common.{rules, arith, ◌∙◌, sym, ap, ◌≡◌, length}
use Rattle.std.proofs.Math.Seq.{take-length}
use Rattle.frame_codec.specs.Frame.{Fields}
use Rattle.frame_codec.proofs.FrameLaws.{same_frames, signature_written}
use Rattle.frame_codec.proofs.packing.pack.Goals as goal

pub invariant_of-result : goal.invariant_of-result
invariant_of-result c = record {
  size = search rules;
  each = search rules;
  signature = signature_written c.finish.result _ (search rules) (search rules) (c.finish.ensures ∙ c.loop-part.invariant.written);
}

pub returns-clause-spelled : goal.returns-clause-spelled
returns-clause-spelled c =
    let all : c.loop-part.part-index ≡ length c.params.inside.sub = omega (arith, c.params.invariant.count) in
    let written = rw (all, take-length c.params.inside.sub, ap (λ (p : Fields). p.sub) c.params.view_is) at c.loop-part.invariant.written in
    c.finish.ensures ∙ written

pub returns-clause-only : goal.returns-clause-only
returns-clause-only c = λ octets frame spelled. same_frames octets c.finish.result frame (invariant_of-result c) (spelled ∙ sym (returns-clause-spelled c))

pub returns-clause-frame : goal.returns-clause-frame
returns-clause-frame c = invariant_of-result c
