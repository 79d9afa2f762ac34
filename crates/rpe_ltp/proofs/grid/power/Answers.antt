use Rattle.std.proofs.Common.{rules, arith, sym, ◌≤◌, ◌+◌, ◌*◌, ◌^◌, ◌*ℤ◌, ◌+ℤ◌, FitsSigned, w16, w32, to_z}
use Rattle.std.specs.Prelude.{unsigned_abs}
use Rattle.std.specs.Int.{int_shr}
use Rattle.std.proofs.lemmas.Int.{to_z-of_z, fits_signed_from_abs}
use Rattle.fixed_arith.specs.SumLaws.{sum_zero, sum_step, abs_add_le}
use Rattle.fixed_arith.specs.Signal.{at}
use Rattle.rpe_ltp.proofs.grid.power.Goals as goal

pub loop-i-init : goal.loop-i-init
loop-i-init c = record {
  value = sym (sum_zero (λ i. int_shr (at c.args.x.now (c.args.m + 3 * i)) 2 *ℤ int_shr (at c.args.x.now (c.args.m + 3 * i)) 2));
  small = omega arith;
}

pub overflow_add-sum : goal.overflow_add-sum
overflow_add-sum c =
    let x : FitsSigned w16 (at c.args.x.now (c.args.m + 3 * c.loop-i.i)) = search rules in
    let p : FitsSigned w32 c.square-sum.result = search rules in
    let square = simp to_z-of_z at c.square-sum.ensures.value in
    let small : unsigned_abs (to_z w32 c.loop-i.sum-bits +ℤ c.square-sum.result) ≤ (c.loop-i.i + 1) * 2 ^ 26 =
    omega (arith, abs_add_le (to_z w32 c.loop-i.sum-bits) c.square-sum.result, c.loop-i.invariant.small, c.square-sum.ensures.small) in
    let fits : FitsSigned w32 (to_z w32 c.loop-i.sum-bits +ℤ c.square-sum.result) = fits_signed_from_abs w32 _ (omega (arith, small)) in
    simp to_z-of_z fits

pub loop-i-preserved : goal.loop-i-preserved
loop-i-preserved c =
    let x : FitsSigned w16 (at c.args.x.now (c.args.m + 3 * c.loop-i.i)) = search rules in
    let p : FitsSigned w32 c.square-sum.result = search rules in
    let square = simp to_z-of_z at c.square-sum.ensures.value in
    let small : unsigned_abs (to_z w32 c.loop-i.sum-bits +ℤ c.square-sum.result) ≤ (c.loop-i.i + 1) * 2 ^ 26 =
    omega (arith, abs_add_le (to_z w32 c.loop-i.sum-bits) c.square-sum.result, c.loop-i.invariant.small, c.square-sum.ensures.small) in
    let fits : FitsSigned w32 (to_z w32 c.loop-i.sum-bits +ℤ c.square-sum.result) = fits_signed_from_abs w32 _ (omega (arith, small)) in
    simp to_z-of_z (record {
      value = sum_step (λ i. int_shr (at c.args.x.now (c.args.m + 3 * i)) 2 *ℤ int_shr (at c.args.x.now (c.args.m + 3 * i)) 2) c.loop-i.i _ _ c.loop-i.invariant.value square;
      small = small;
    })
