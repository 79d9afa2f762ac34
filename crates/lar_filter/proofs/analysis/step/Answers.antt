use Rattle.std.proofs.Common.{rules, arith, FitsSigned, w16, to_z}
use Rattle.std.proofs.lemmas.Int.{to_z-of_z}
use Rattle.fixed_arith.specs.Signal.{at}
use Rattle.lar_filter.proofs.RisingLaws.{Rises-start, Rises-more, RisesTo-whole}
use Rattle.lar_filter.proofs.analysis.step.Goals as goal

pub loop-i-init : goal.loop-i-init
loop-i-init c = Rises-start c.args.rp.now c.args.u.now _ c.told-u

pub loop-i-preserved : goal.loop-i-preserved
loop-i-preserved c =
    let x : FitsSigned w16 c.args.x = c.ranges.x in
    let next_d : FitsSigned w16 c.stage-next_d.result.0 = search rules in
    let next_w : FitsSigned w16 c.stage-next_d.result.1 = search rules in
    let r : FitsSigned w16 (at c.args.rp.now c.loop-i.i) = search rules in
    let u : FitsSigned w16 (at c.loop-i.u c.loop-i.i) = search rules in
    simp to_z-of_z (Rises-more c.args.rp.now c.args.u.now c.args.x c.loop-i.u (to_z w16 c.loop-i.d-bits) (to_z w16 c.loop-i.w-bits) c.stage-next_d.result.0 c.stage-next_d.result.1 c.loop-i.i
    (omega arith) (simp to_z-of_z at c.loop-i.invariant) (simp to_z-of_z at c.stage-next_d.ensures.d) (simp to_z-of_z at c.stage-next_d.ensures.w))

pub returns : goal.returns
returns c =
    let x : FitsSigned w16 c.args.x = c.ranges.x in
    RisesTo-whole c.args.rp.now c.args.u.now c.args.x c.loop-i.u (to_z w16 c.loop-i.d-bits) (to_z w16 c.loop-i.w-bits) c.loop-i.i (omega arith) (simp to_z-of_z at c.loop-i.invariant)
