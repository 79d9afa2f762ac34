use Rattle.std.proofs.Common.{rules, arith, refl, ◌∙◌, ◌≢◌, ◌<◌, pos, get_or, length, length-set, FitsSigned, w16, get_or-set_same, get_or-set_other, below_more}
use Rattle.std.proofs.lemmas.Int.{to_z-of_z}
use Rattle.rpe_ltp.proofs.long_term.remainder.Goals as goal

pub loop-k-preserved : goal.loop-k-preserved
loop-k-preserved c =
    let left_of : FitsSigned w16 (get_or c.args.d.now c.loop-k.k (pos 0)) = search rules in
    let gain : FitsSigned w16 c.args.gain = c.ranges.gain in
    let kept : FitsSigned w16 c.at.result = search rules in
    let part : FitsSigned w16 c.mult_r.result = search rules in
    let value : FitsSigned w16 c.sub.result = search rules in
    let room : c.loop-k.k < length c.loop-k.left = omega (arith, c.loop-k.invariant.size) in
    let product = simp to_z-of_z at c.mult_r.ensures in
    let sum = simp to_z-of_z at c.sub.ensures in
    simp to_z-of_z (record {
      size = simp length-set c.loop-k.invariant.size;
      done = below_more _ _
          (λ j h. let other : j ≢ c.loop-k.k = omega arith in rw get_or-set_other ((simp to_z-of_z at (c.loop-k.invariant.done j h))))
          (rw get_or-set_same (sum ∙ (rw (product, c.at.ensures.value) refl)));
    })
