use Rattle.std.proofs.Common.{rules, refl, ◌∙◌, FitsSigned, w16}
use Rattle.std.specs.Int.{int_shr}
use Rattle.std.proofs.lemmas.Int.{to_z-of_z}
use Rattle.lar_filter.specs.Quantising.{code_from}
use Rattle.fixed_arith.specs.WordLaws.{word_from_shift}
use Rattle.lar_filter.proofs.quantising.quantise_lar.Goals as goal

pub returns-clause-value : goal.returns-clause-value
unfolding code_from
returns-clause-value c =
    let factor : FitsSigned w16 c.args.factor = c.ranges.factor in
    let offset : FitsSigned w16 c.args.offset = c.ranges.offset in
    let least : FitsSigned w16 c.args.least = c.ranges.least in
    let most : FitsSigned w16 c.args.most = c.ranges.most in
    let r : FitsSigned w16 c.args.r = c.ranges.r in
    let lar : FitsSigned w16 c.lar_of.result = search rules in
    let product : FitsSigned w16 c.mult.result = search rules in
    let sum : FitsSigned w16 c.add.result = search rules in
    let total : FitsSigned w16 c.add-2.result = search rules in
    let shifted : FitsSigned w16 (int_shr c.add-2.result 9) = word_from_shift _ 9 total in
    let lar_is = simp to_z-of_z at c.lar_of.ensures in
    let product_is = simp to_z-of_z at c.mult.ensures in
    let sum_is = simp to_z-of_z at c.add.ensures in
    let total_is = simp to_z-of_z at c.add-2.ensures in
    let told = simp to_z-of_z at c.limited.ensures.value in
    told ∙ (rw (total_is, sum_is, product_is, lar_is) refl)
