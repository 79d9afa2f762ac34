use Rattle.std.proofs.Common.{rules, arith, ◌∙◌, ◌≤ℤ◌, pos, refl, get_or, inl, inr, length, FitsSigned, w16, to_z, below_more}
use Rattle.std.proofs.lemmas.Int.{to_z-of_z, ints}
use Rattle.std.proofs.lemmas.Bool.{cases_lt}
use Rattle.std.proofs.lemmas.List.{get_or_past}
use Rattle.fixed_arith.specs.Word.{abs_of_word}
use Rattle.fixed_arith.specs.GreatestLaws.{greatest_more, one_more, still_reached}
use Rattle.fixed_arith.proofs.magnitudes.greatest.Goals as goal

pub loop-x-preserved : goal.loop-x-preserved
loop-x-preserved c =
    let x : FitsSigned w16 (get_or c.args.xs.now c.loop-x.x-index (pos 0)) = search rules in
    let top : FitsSigned w16 (to_z w16 c.loop-x.top-bits) = search rules in
    let word : FitsSigned w16 c.abs_word.result = search rules in
    let larger : FitsSigned w16 c.max-top.result = search rules in
    let is = simp to_z-of_z at c.max-top.ensures.value in
    let magnitude = simp to_z-of_z at c.abs_word.ensures.value in
    let other = simp to_z-of_z at c.max-top.ensures.other_bound in
    let bound : abs_of_word (get_or c.args.xs.now c.loop-x.x-index (pos 0)) ≤ℤ c.max-top.result = rw magnitude at other in
    simp to_z-of_z (record {
      value = is ∙ (rw (greatest_more c.args.xs.now c.loop-x.x-index c.loop-x-test.true, c.loop-x.invariant.value, magnitude) refl);
      sign = omega (arith, ints, c.max-top.ensures.self_bound, c.loop-x.invariant.sign);
      reach = below_more _ _
          (λ j h. still_reached (get_or c.args.xs.now j (pos 0)) _ _ c.loop-x.invariant.sign c.max-top.ensures.self_bound (c.loop-x.invariant.reach j h))
          (one_more (get_or c.args.xs.now c.loop-x.x-index (pos 0)) _ x bound);
    })

pub returns-clause-reach : goal.returns-clause-reach
returns-clause-reach c = λ i. elim (cases_lt i (length c.args.xs.now)) [
  | inl inside ↦ c.loop-x.invariant.reach i (omega arith)
  | inr past ↦ rw (get_or_past c.args.xs.now i (pos 0) past) (omega arith)
]
