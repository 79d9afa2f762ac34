use Rattle.std.proofs.Common.{rules, arith, refl, sym, ◌∙◌, ◌≡◌, ◌≤◌, ◌+◌, ◌*◌, ◌^◌, ◌*ℤ◌, ◌+ℤ◌, pos, FitsSigned, w16, w32, to_z}
use Rattle.std.specs.Prelude.{unsigned_abs}
use Rattle.std.specs.Int.{int_shr}
use Rattle.std.proofs.lemmas.Int.{to_z-of_z}
use Rattle.fixed_arith.specs.Sums.{sum_below}
use Rattle.fixed_arith.specs.SumLaws.{sum_zero, sum_step}
use Rattle.fixed_arith.specs.WordLaws.{long_from_shift}
use Rattle.fixed_arith.specs.Signal.{at}
use Rattle.rpe_ltp.specs.Weighting.{response, weighted}
use Rattle.rpe_ltp.proofs.PulseLaws.{word_at}
use Rattle.rpe_ltp.proofs.WeightLaws.{taps_fit, taps_below, rounded_fits}
use Rattle.rpe_ltp.proofs.weighting.weigh.Goals as goal

pub loop-i-init : goal.loop-i-init
loop-i-init c = sym (sum_zero (λ i. at response i *ℤ at c.args.wide.now (c.args.k + i)))

pub overflow_add-sum : goal.overflow_add-sum
overflow_add-sum c =
    let h : FitsSigned w16 (at response c.loop-i.i) = word_at response refl c.loop-i.i in
    let x : FitsSigned w16 (at c.args.wide.now (c.args.k + c.loop-i.i)) = search rules in
    let p : FitsSigned w32 c.tap-sum.result = search rules in
    let product = simp to_z-of_z at c.tap-sum.ensures in
    let next : to_z w32 c.loop-i.sum-bits +ℤ c.tap-sum.result ≡ sum_below (λ i. at response i *ℤ at c.args.wide.now (c.args.k + i)) (c.loop-i.i + 1) =
    sum_step (λ i. at response i *ℤ at c.args.wide.now (c.args.k + i)) c.loop-i.i _ _ c.loop-i.invariant product in
    simp to_z-of_z (rw next (taps_fit (λ i. at c.args.wide.now (c.args.k + i)) (c.loop-i.i + 1) (λ i. c.requires.words (c.args.k + i)) (omega arith)))

pub loop-i-preserved : goal.loop-i-preserved
loop-i-preserved c =
    let h : FitsSigned w16 (at response c.loop-i.i) = word_at response refl c.loop-i.i in
    let x : FitsSigned w16 (at c.args.wide.now (c.args.k + c.loop-i.i)) = search rules in
    let p : FitsSigned w32 c.tap-sum.result = search rules in
    let product = simp to_z-of_z at c.tap-sum.ensures in
    let next : to_z w32 c.loop-i.sum-bits +ℤ c.tap-sum.result ≡ sum_below (λ i. at response i *ℤ at c.args.wide.now (c.args.k + i)) (c.loop-i.i + 1) =
    sum_step (λ i. at response i *ℤ at c.args.wide.now (c.args.k + i)) c.loop-i.i _ _ c.loop-i.invariant product in
    let fits : FitsSigned w32 (to_z w32 c.loop-i.sum-bits +ℤ c.tap-sum.result) = rw next (taps_fit (λ i. at c.args.wide.now (c.args.k + i)) (c.loop-i.i + 1) (λ i. c.requires.words (c.args.k + i)) (omega arith)) in
    simp to_z-of_z next

small : (c : goal.After-loop-i) → unsigned_abs (to_z w32 c.loop-i.sum-bits) ≤ 24798 * 2 ^ 15
small c = rw c.loop-i.invariant (taps_below (λ i. at c.args.wide.now (c.args.k + i)) c.loop-i.i (λ i. c.requires.words (c.args.k + i)) (omega arith))

pub overflow_add-sum-2 : goal.overflow_add-sum-2
overflow_add-sum-2 c = rounded_fits (to_z w32 c.loop-i.sum-bits) (small c)

pub returns : goal.returns
unfolding weighted
returns c =
    let end : c.loop-i.i ≡ 11 = omega arith in
    let below : unsigned_abs (to_z w32 c.loop-i.sum-bits) ≤ 24798 * 2 ^ 15 =
    rw c.loop-i.invariant (taps_below (λ i. at c.args.wide.now (c.args.k + i)) c.loop-i.i (λ i. c.requires.words (c.args.k + i)) (omega arith)) in
    let rounded : FitsSigned w32 (to_z w32 c.loop-i.sum-bits +ℤ pos 4096) = rounded_fits (to_z w32 c.loop-i.sum-bits) below in
    let shifted : FitsSigned w32 (int_shr (to_z w32 c.loop-i.sum-bits +ℤ pos 4096) 13) = long_from_shift _ 13 rounded in
    let word : FitsSigned w16 c.clip16.result = search rules in
    let told = simp to_z-of_z at c.clip16.ensures in
    simp to_z-of_z (told ∙ (rw (c.loop-i.invariant, end) refl))
