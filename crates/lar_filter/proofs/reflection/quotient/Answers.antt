use Rattle.std.proofs.Common.{rules, arith, ap, ◌∙◌, ◌≡◌, sym, pos, ◌≤ℤ◌, ◌-ℤ◌, FitsSigned, w16}
use Rattle.std.proofs.lemmas.Int.{to_z-of_z, ints}
use Rattle.fixed_arith.specs.Word.{div_words, abs_of_word}
use Rattle.fixed_arith.specs.LongLaws.{div_words_sign}
use Rattle.lar_filter.specs.Reflections.{quotient_of}
use Rattle.lar_filter.specs.SchurLaws.{minus_is}
use Rattle.lar_filter.proofs.reflection.quotient.Goals as goal

ratio_sign : (c : goal.Then-x-gt0) → pos 0 ≤ℤ c.div_word-ratio.result
ratio_sign c =
    let m : FitsSigned w16 c.abs_word.result = search rules in
    let low : FitsSigned w16 c.args.low = c.ranges.low in
    let ratio = simp to_z-of_z at c.div_word-ratio.ensures.value in
    let x : FitsSigned w16 c.args.x = c.ranges.x in
    let magnitude = simp to_z-of_z at c.abs_word.ensures.value in
    let sign : pos 0 ≤ℤ abs_of_word c.args.x = rw magnitude at c.abs_word.ensures.sign in
    let high : pos 0 ≤ℤ c.args.low = omega (arith, ints, sign, c.requires) in
    rw ratio (div_words_sign c.abs_word.result c.args.low c.abs_word.ensures.sign high)

pub overflow_sub-result : goal.overflow_sub-result
overflow_sub-result c =
    let q : FitsSigned w16 c.div_word-ratio.result = search rules in
    let sign : pos 0 ≤ℤ c.div_word-ratio.result = ratio_sign c in
    simp to_z-of_z (omega (arith, ints))

pub returns-then-x-gt0 : goal.returns-then-x-gt0
unfolding quotient_of
returns-then-x-gt0 c =
    let x : FitsSigned w16 c.args.x = c.ranges.x in
    let m : FitsSigned w16 c.abs_word.result = search rules in
    let low : FitsSigned w16 c.args.low = c.ranges.low in
    let q : FitsSigned w16 c.div_word-ratio.result = search rules in
    let sign : pos 0 ≤ℤ c.div_word-ratio.result = ratio_sign c in
    let difference : FitsSigned w16 (pos 0 -ℤ c.div_word-ratio.result) = omega (arith, ints) in
    let magnitude = simp to_z-of_z at c.abs_word.ensures.value in
    let ratio = simp to_z-of_z at c.div_word-ratio.ensures.value in
    let test = simp to_z-of_z at c.if-x-gt0.true in
    let told : c.div_word-ratio.result ≡ div_words (abs_of_word c.args.x) c.args.low = ratio ∙ ap (λ z. div_words z c.args.low) magnitude in
    simp to_z-of_z (rw test (rw (sym told) (minus_is c.div_word-ratio.result)))
