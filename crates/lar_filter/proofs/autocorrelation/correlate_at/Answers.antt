use Rattle.std.proofs.Common.{rules, arith, ◌≡◌, ◌+◌, ◌-◌, ◌*ℤ◌, ◌+ℤ◌, sym, refl, pos, FitsSigned, w16, w32, to_z}
use Rattle.std.proofs.lemmas.Int.{to_z-of_z}
use Rattle.fixed_arith.specs.Sums.{sum_below}
use Rattle.fixed_arith.specs.SumLaws.{sum_zero, sum_step}
use Rattle.fixed_arith.specs.Signal.{at}
use Rattle.lar_filter.specs.Autocorrelation.{correlation}
use Rattle.lar_filter.proofs.ScaleLaws.{lagged_fits, lagged_fits_twice}
use Rattle.lar_filter.proofs.autocorrelation.correlate_at.Goals as goal

pub loop-i-init : goal.loop-i-init
loop-i-init c = sym (sum_zero (λ i. at c.args.xs.now (i + c.args.k) *ℤ at c.args.xs.now i))

pub overflow_add-sum : goal.overflow_add-sum
overflow_add-sum c =
    let a : FitsSigned w16 (at c.args.xs.now (c.loop-i.i + c.args.k)) = search rules in
    let b : FitsSigned w16 (at c.args.xs.now c.loop-i.i) = search rules in
    let p : FitsSigned w32 c.product-sum.result = search rules in
    let product = simp to_z-of_z at c.product-sum.ensures in
    let next : to_z w32 c.loop-i.sum-bits +ℤ c.product-sum.result ≡ sum_below (λ i. at c.args.xs.now (i + c.args.k) *ℤ at c.args.xs.now i) (c.loop-i.i + 1) =
    sum_step (λ i. at c.args.xs.now (i + c.args.k) *ℤ at c.args.xs.now i) c.loop-i.i _ _ c.loop-i.invariant product in
    simp to_z-of_z (rw next (lagged_fits c.args.xs.now c.args.k (c.loop-i.i + 1) c.requires.small (omega arith)))

pub loop-i-preserved : goal.loop-i-preserved
loop-i-preserved c =
    let a : FitsSigned w16 (at c.args.xs.now (c.loop-i.i + c.args.k)) = search rules in
    let b : FitsSigned w16 (at c.args.xs.now c.loop-i.i) = search rules in
    let p : FitsSigned w32 c.product-sum.result = search rules in
    let product = simp to_z-of_z at c.product-sum.ensures in
    let next : to_z w32 c.loop-i.sum-bits +ℤ c.product-sum.result ≡ sum_below (λ i. at c.args.xs.now (i + c.args.k) *ℤ at c.args.xs.now i) (c.loop-i.i + 1) =
    sum_step (λ i. at c.args.xs.now (i + c.args.k) *ℤ at c.args.xs.now i) c.loop-i.i _ _ c.loop-i.invariant product in
    let fits : FitsSigned w32 (to_z w32 c.loop-i.sum-bits +ℤ c.product-sum.result) = rw next (lagged_fits c.args.xs.now c.args.k (c.loop-i.i + 1) c.requires.small (omega arith)) in
    simp to_z-of_z next

pub overflow_mul-result : goal.overflow_mul-result
overflow_mul-result c = rw c.loop-i.invariant (lagged_fits_twice c.args.xs.now c.args.k c.loop-i.i c.requires.small (omega arith))

pub returns : goal.returns
unfolding correlation
returns c =
    let end : c.loop-i.i ≡ 160 - c.args.k = omega arith in
    let fits : FitsSigned w32 (to_z w32 c.loop-i.sum-bits *ℤ pos 2) = overflow_mul-result c in
    simp to_z-of_z (rw (c.loop-i.invariant, end) refl)
