use Rattle.std.proofs.Common.{◌≡◌, [], arith, false, true, refl, sym, ◌∙◌, length, slice_index_or, ◌<◌}
use Rattle.fr_encoder.proofs.Judged.{judged-first, judged-next, judged-all, samples-count, frames-count, fields_eq, fields_eq-Decides, differs-told, agrees-told}
use Rattle.fr_encoder.proofs.judging.is_coding.Goals as goal
use Rattle.fr_encoder.proofs.judging.is_coding.Goals.{then-ne, else-ne}

pub returns-then-pieces-frames : goal.returns-then-pieces-frames
returns-then-pieces-frames c = (λ (t : false ≡ true). cc, λ h. absurd (c.if-pieces-frames.true (omega (arith, samples-count c.args.pieces.now c.told-pieces, frames-count _ c.args.frames.now h))))

pub code-init : goal.code-init
code-init c = judged-first c.args.pieces.now c.args.frames.now c.new-encoder.result c.new-encoder.ensures

pub code-preserved : goal.code-preserved
code-preserved c =
    let own = c.encode.result in
    let frame = c.index-frames-i.result in
    let within : c.code.i < length c.args.frames.now = omega (arith, c.if-pieces-frames.false, c.code-test.true) in
    judged-next c.args.pieces.now c.args.frames.now c.code.i (slice_index_or c.args.pieces.now c.code.i []) frame own c.code.encoder c.encode.new.self c.code.same c.if-ne.same c.code.invariant
    c.code-test.true within refl c.index-frames-i.is (c.encode.ensures.goes_on _ _ c.code.invariant.encodes)
    (elim c.if-ne.branch [
      | then-ne w ↦ differs-told (own ≡ frame) c.code.same c.if-ne.same c.ne.result (fields_eq own frame) c.ne.ensures (fields_eq-Decides own frame) w.if-ne.true w.same-is
      | else-ne w ↦ agrees-told (own ≡ frame) c.code.same c.if-ne.same c.ne.result (fields_eq own frame) c.ne.ensures (fields_eq-Decides own frame) w.if-ne.false w.same-is
    ])

pub returns : goal.returns
returns c = judged-all c.args.pieces.now c.args.frames.now c.code.i c.code.encoder c.code.same c.if-pieces-frames.false c.code-test.false c.code.invariant
