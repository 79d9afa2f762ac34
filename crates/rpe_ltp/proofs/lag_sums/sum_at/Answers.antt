use Rattle.std.proofs.Common.{rules, arith, ◌≡◌, ◌+◌, ◌*ℤ◌, ◌+ℤ◌, sym, FitsSigned, w32, to_z}
use Rattle.std.proofs.lemmas.Int.{to_z-of_z}
use Rattle.fixed_arith.specs.Sums.{sum_below}
use Rattle.fixed_arith.specs.SumLaws.{sum_zero, sum_step}
use Rattle.fixed_arith.specs.Signal.{at}
use Rattle.rpe_ltp.proofs.LagLaws.{place_fits}
use Rattle.rpe_ltp.proofs.lag_sums.sum_at.Goals as goal

pub loop-k-init : goal.loop-k-init
loop-k-init c = sym (sum_zero (λ k. at c.args.ws.now k *ℤ at c.args.kept.now (c.args.i + k)))

pub overflow_add-sum : goal.overflow_add-sum
overflow_add-sum c =
    let w : FitsSigned w32 (at c.args.ws.now c.loop-k.k) = search rules in
    let x : FitsSigned w32 (at c.args.kept.now (c.args.i + c.loop-k.k)) = search rules in
    let p : FitsSigned w32 c.product-sum.result = search rules in
    let product = simp to_z-of_z at c.product-sum.ensures in
    let next : to_z w32 c.loop-k.sum-bits +ℤ c.product-sum.result ≡ sum_below (λ k. at c.args.ws.now k *ℤ at c.args.kept.now (c.args.i + k)) (c.loop-k.k + 1) =
    sum_step (λ k. at c.args.ws.now k *ℤ at c.args.kept.now (c.args.i + k)) c.loop-k.k _ _ c.loop-k.invariant product in
    simp to_z-of_z (rw next (place_fits c.args.ws.now c.args.kept.now c.args.i (c.loop-k.k + 1) c.requires.scaled c.requires.words (omega arith)))

pub loop-k-preserved : goal.loop-k-preserved
loop-k-preserved c =
    let w : FitsSigned w32 (at c.args.ws.now c.loop-k.k) = search rules in
    let x : FitsSigned w32 (at c.args.kept.now (c.args.i + c.loop-k.k)) = search rules in
    let p : FitsSigned w32 c.product-sum.result = search rules in
    let product = simp to_z-of_z at c.product-sum.ensures in
    let next : to_z w32 c.loop-k.sum-bits +ℤ c.product-sum.result ≡ sum_below (λ k. at c.args.ws.now k *ℤ at c.args.kept.now (c.args.i + k)) (c.loop-k.k + 1) =
    sum_step (λ k. at c.args.ws.now k *ℤ at c.args.kept.now (c.args.i + k)) c.loop-k.k _ _ c.loop-k.invariant product in
    let fits : FitsSigned w32 (to_z w32 c.loop-k.sum-bits +ℤ c.product-sum.result) = rw next (place_fits c.args.ws.now c.args.kept.now c.args.i (c.loop-k.k + 1) c.requires.scaled c.requires.words (omega arith)) in
    simp to_z-of_z next
