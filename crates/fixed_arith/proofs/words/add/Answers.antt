use Rattle.std.proofs.Common.{rules, arith, ◌+ℤ◌, FitsSigned, w16, w32}
use Rattle.std.proofs.lemmas.Int.{to_z-of_z, ints}
use Rattle.fixed_arith.specs.Word.{add_words}
use Rattle.fixed_arith.specs.WordLaws.{long_from_word}
use Rattle.fixed_arith.proofs.words.add.Goals as goal

pub returns : goal.returns
unfolding add_words
returns c =
    let a : FitsSigned w16 c.args.a = c.ranges.a in
    let b : FitsSigned w16 c.args.b = c.ranges.b in
    let a_long : FitsSigned w32 c.args.a = long_from_word _ a in
    let b_long : FitsSigned w32 c.args.b = long_from_word _ b in
    let value : FitsSigned w32 (c.args.a +ℤ c.args.b) = omega (arith, ints) in
    let word : FitsSigned w16 c.clip16.result = search rules in
    simp to_z-of_z (simp to_z-of_z at c.clip16.ensures)
