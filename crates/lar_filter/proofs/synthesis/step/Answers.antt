use Rattle.std.proofs.Common.{rules, arith, FitsSigned, w16, to_z, ◌≡◌, ◌-◌, ◌+◌}
use Rattle.std.proofs.lemmas.Int.{to_z-of_z}
use Rattle.fixed_arith.specs.Signal.{at}
use Rattle.lar_filter.proofs.LatticeLaws.{Descends, Descends-start, Descends-more, StepsTo-from_descent}
use Rattle.lar_filter.proofs.synthesis.step.Goals as goal

pub loop-i-init : goal.loop-i-init
loop-i-init c =
    let x : FitsSigned w16 c.args.x = c.ranges.x in
    let r : FitsSigned w16 (at c.args.rp.now 7) = search rules in
    let v : FitsSigned w16 (at c.args.v.now 7) = search rules in
    let product : FitsSigned w16 c.mult_r.result = search rules in
    let s : FitsSigned w16 c.sub-s.result = search rules in
    let scaled = simp to_z-of_z at c.mult_r.ensures in
    let difference = simp to_z-of_z at c.sub-s.ensures in
    simp to_z-of_z (Descends-start c.args.rp.now c.args.v.now c.args.x c.sub-s.result c.told-v (rw scaled at difference))

pub loop-i-preserved : goal.loop-i-preserved
loop-i-preserved c =
    let x : FitsSigned w16 c.args.x = c.ranges.x in
    let below : FitsSigned w16 c.stage-below.result.0 = search rules in
    let above : FitsSigned w16 c.stage-below.result.1 = search rules in
    let r : FitsSigned w16 (at c.args.rp.now (c.loop-i.i - 1)) = search rules in
    let v : FitsSigned w16 (at c.loop-i.v (c.loop-i.i - 1)) = search rules in
    let place : c.loop-i.i - 1 + 1 ≡ c.loop-i.i = omega arith in
    let done : Descends c.args.rp.now c.args.v.now c.args.x c.loop-i.v (to_z w16 c.loop-i.s-bits) (c.loop-i.i - 1 + 1) = rw place (simp to_z-of_z at c.loop-i.invariant) in
    simp to_z-of_z (Descends-more c.args.rp.now c.args.v.now c.args.x c.loop-i.v (to_z w16 c.loop-i.s-bits) c.stage-below.result.0 c.stage-below.result.1 (c.loop-i.i - 1)
    (omega arith) done (simp to_z-of_z at c.stage-below.ensures.below) (simp to_z-of_z at c.stage-below.ensures.above))

pub returns : goal.returns
returns c =
    let x : FitsSigned w16 c.args.x = c.ranges.x in
    let none : c.loop-i.i ≡ 0 = omega arith in
    let done : Descends c.args.rp.now c.args.v.now c.args.x c.loop-i.v (to_z w16 c.loop-i.s-bits) 0 = rw none at (simp to_z-of_z at c.loop-i.invariant) in
    StepsTo-from_descent c.args.rp.now c.args.v.now c.args.x c.loop-i.v (to_z w16 c.loop-i.s-bits) done
