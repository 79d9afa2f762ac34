use Rattle.std.proofs.Common.{rules, arith, ◌+◌, FitsSigned, w16}
use Rattle.std.proofs.lemmas.Int.{to_z-of_z}
use Rattle.fixed_arith.specs.Signal.{at}
use Rattle.lar_filter.specs.SchurLaws.{Turning-start, Turning-more}
use Rattle.lar_filter.proofs.reflection.turn.Goals as goal

pub loop-m-init : goal.loop-m-init
loop-m-init c =
    let first : FitsSigned w16 (at c.args.p.now 0) = search rules in
    let second : FitsSigned w16 (at c.args.p.now 1) = search rules in
    let r : FitsSigned w16 c.args.r = c.ranges.r in
    let product : FitsSigned w16 c.mult_r.result = search rules in
    let sum : FitsSigned w16 c.add.result = search rules in
    let scaled = simp to_z-of_z at c.mult_r.ensures in
    let total = simp to_z-of_z at c.add.ensures in
    simp to_z-of_z (Turning-start c.args.r c.args.p.now c.args.k.now c.add.result (search rules) (search rules) (rw scaled at total))

pub loop-m-preserved : goal.loop-m-preserved
loop-m-preserved c =
    let above : FitsSigned w16 (at c.loop-m.p (c.loop-m.m + 1)) = search rules in
    let beside : FitsSigned w16 (at c.loop-m.k c.loop-m.m) = search rules in
    let r : FitsSigned w16 c.args.r = c.ranges.r in
    let x : FitsSigned w16 c.cross-above.result.0 = search rules in
    let y : FitsSigned w16 c.cross-above.result.1 = search rules in
    simp to_z-of_z (Turning-more c.args.r c.args.p.now c.args.k.now c.loop-m.p c.loop-m.k c.loop-m.m c.cross-above.result.0 c.cross-above.result.1 (omega arith) (omega arith)
    (simp to_z-of_z at c.loop-m.invariant) (simp to_z-of_z at c.cross-above.ensures.p) (simp to_z-of_z at c.cross-above.ensures.k))
