use Rattle.std.proofs.Common.{rules, arith, refl, sym, ◌∙◌, ◌≡◌, ◌+◌, ◌<◌, ◌*ℤ◌, pos, get_or, length, FitsSigned, w32, of_z}
use Rattle.std.proofs.lemmas.Int.{to_z-of_z}
use Rattle.std.proofs.lemmas.List.{length-map}
use Rattle.std.proofs.lemmas.Simd.{get_or-replicate}
use Rattle.fixed_arith.specs.Sums.{sum_below}
use Rattle.fixed_arith.specs.SumLaws.{sum_zero, sum_step}
use Rattle.fixed_arith.specs.Signal.{at}
use Rattle.rpe_ltp.specs.LagSearch.{sum_by_place}
use Rattle.rpe_ltp.proofs.LaneLaws.{lane_kept}
use Rattle.rpe_ltp.proofs.LagLaws.{place_small, place_fits}
use Rattle.rpe_ltp.proofs.lag_sums.eight_sums.Goals as goal

pub loop-k-init : goal.loop-k-init
loop-k-init c = record {
  lanes = refl;
  each = λ j h. get_or-replicate 8 j (pos 0) (pos 0) h ∙ sym (sum_zero (λ k. at c.args.ws.now k *ℤ at c.args.kept.now (c.args.start + j + k)));
}

pub add_products-sums-requires-clause-small : goal.add_products-sums-requires-clause-small
add_products-sums-requires-clause-small c = λ i h.
    rw (c.loop-k.invariant.each i h) (omega (arith, place_small c.args.ws.now c.args.kept.now (c.args.start + i) c.loop-k.k c.requires.scaled c.requires.words))

pub loop-k-preserved : goal.loop-k-preserved
loop-k-preserved c = record {
  lanes = length-map _ (of_z w32) ∙ c.add_products-sums.ensures.lanes;
  each = λ j h.
      let w : FitsSigned w32 (at c.args.ws.now c.loop-k.k) = search rules in
      let told = simp to_z-of_z at (c.add_products-sums.ensures.each j h) in
      let place : c.args.start + c.loop-k.k + j ≡ c.args.start + j + c.loop-k.k = omega arith in
      let next : get_or c.add_products-sums.result j (pos 0) ≡ sum_below (λ k. at c.args.ws.now k *ℤ at c.args.kept.now (c.args.start + j + k)) (c.loop-k.k + 1) =
      told ∙ sum_step (λ k. at c.args.ws.now k *ℤ at c.args.kept.now (c.args.start + j + k)) c.loop-k.k _ _ (c.loop-k.invariant.each j h) (rw place refl) in
      let inside : j < length c.add_products-sums.result = omega (arith, c.add_products-sums.ensures.lanes) in
      lane_kept c.add_products-sums.result j inside (rw next (place_fits c.args.ws.now c.args.kept.now (c.args.start + j) (c.loop-k.k + 1) c.requires.scaled c.requires.words (omega arith))) ∙ next;
}

pub returns : goal.returns
unfolding sum_by_place
returns c = λ j h.
    let end : c.loop-k.k ≡ 40 = omega arith in
    c.loop-k.invariant.each j h ∙ (rw end refl)
