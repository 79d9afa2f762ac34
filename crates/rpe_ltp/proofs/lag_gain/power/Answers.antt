use Rattle.std.proofs.Common.{rules, arith, sym, ◌≡◌, ◌+◌, ◌-◌, ◌*ℤ◌, ◌+ℤ◌, pos, FitsSigned, w32, to_z}
use Rattle.std.specs.Int.{int_shr}
use Rattle.std.proofs.lemmas.Int.{to_z-of_z}
use Rattle.fixed_arith.specs.Sums.{sum_below}
use Rattle.fixed_arith.specs.SumLaws.{sum_zero, sum_step}
use Rattle.fixed_arith.specs.Signal.{at}
use Rattle.rpe_ltp.proofs.LagLaws.{square_fits, square_fits_twice, power_is}
use Rattle.rpe_ltp.proofs.lag_gain.power.Goals as goal

pub loop-k-init : goal.loop-k-init
loop-k-init c = sym (sum_zero (λ k. int_shr (at c.args.kept.now (120 - c.args.lag + k)) 3 *ℤ int_shr (at c.args.kept.now (120 - c.args.lag + k)) 3))

pub overflow_add-sum : goal.overflow_add-sum
overflow_add-sum c =
    let x : FitsSigned w32 (at c.args.kept.now (120 - c.args.lag + c.loop-k.k)) = search rules in
    let p : FitsSigned w32 c.square-sum.result = search rules in
    let square = simp to_z-of_z at c.square-sum.ensures in
    let next : to_z w32 c.loop-k.sum-bits +ℤ c.square-sum.result ≡ sum_below (λ k. int_shr (at c.args.kept.now (120 - c.args.lag + k)) 3 *ℤ int_shr (at c.args.kept.now (120 - c.args.lag + k)) 3) (c.loop-k.k + 1) =
    sum_step (λ k. int_shr (at c.args.kept.now (120 - c.args.lag + k)) 3 *ℤ int_shr (at c.args.kept.now (120 - c.args.lag + k)) 3) c.loop-k.k _ _ c.loop-k.invariant square in
    simp to_z-of_z (rw next (square_fits c.args.kept.now (120 - c.args.lag) (c.loop-k.k + 1) c.requires.words (omega arith)))

pub loop-k-preserved : goal.loop-k-preserved
loop-k-preserved c =
    let x : FitsSigned w32 (at c.args.kept.now (120 - c.args.lag + c.loop-k.k)) = search rules in
    let p : FitsSigned w32 c.square-sum.result = search rules in
    let square = simp to_z-of_z at c.square-sum.ensures in
    let next : to_z w32 c.loop-k.sum-bits +ℤ c.square-sum.result ≡ sum_below (λ k. int_shr (at c.args.kept.now (120 - c.args.lag + k)) 3 *ℤ int_shr (at c.args.kept.now (120 - c.args.lag + k)) 3) (c.loop-k.k + 1) =
    sum_step (λ k. int_shr (at c.args.kept.now (120 - c.args.lag + k)) 3 *ℤ int_shr (at c.args.kept.now (120 - c.args.lag + k)) 3) c.loop-k.k _ _ c.loop-k.invariant square in
    let fits : FitsSigned w32 (to_z w32 c.loop-k.sum-bits +ℤ c.square-sum.result) = rw next (square_fits c.args.kept.now (120 - c.args.lag) (c.loop-k.k + 1) c.requires.words (omega arith)) in
    simp to_z-of_z next

pub overflow_mul-result : goal.overflow_mul-result
overflow_mul-result c = rw c.loop-k.invariant (square_fits_twice c.args.kept.now (120 - c.args.lag) c.loop-k.k c.requires.words (omega arith))

pub returns : goal.returns
returns c =
    let end : c.loop-k.k ≡ 40 = omega arith in
    let fits : FitsSigned w32 (to_z w32 c.loop-k.sum-bits *ℤ pos 2) = overflow_mul-result c in
    simp to_z-of_z (rw (c.loop-k.invariant, end) (power_is c.args.kept.now c.args.lag c.requires.least c.requires.most))
