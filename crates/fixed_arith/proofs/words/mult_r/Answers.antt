use Rattle.std.proofs.Common.{rules, pos, ◌+ℤ◌, ◌*ℤ◌, FitsSigned, w16, w32}
use Rattle.std.specs.Int.{int_shr}
use Rattle.std.proofs.lemmas.Int.{to_z-of_z}
use Rattle.fixed_arith.specs.Word.{mult_r_words}
use Rattle.fixed_arith.specs.WordLaws.{long_from_word, long_from_product, long_from_rounded_product, long_from_shift}
use Rattle.fixed_arith.proofs.words.mult_r.Goals as goal

pub returns : goal.returns
unfolding mult_r_words
returns c =
    let a : FitsSigned w16 c.args.a = c.ranges.a in
    let b : FitsSigned w16 c.args.b = c.ranges.b in
    let a_long : FitsSigned w32 c.args.a = long_from_word _ a in
    let b_long : FitsSigned w32 c.args.b = long_from_word _ b in
    let product : FitsSigned w32 (c.args.a *ℤ c.args.b) = long_from_product _ _ a b in
    let rounded : FitsSigned w32 (c.args.a *ℤ c.args.b +ℤ pos 16384) = long_from_rounded_product _ _ a b in
    let shifted : FitsSigned w32 (int_shr (c.args.a *ℤ c.args.b +ℤ pos 16384) 15) = long_from_shift _ 15 rounded in
    let word : FitsSigned w16 c.clip16.result = search rules in
    simp to_z-of_z (simp to_z-of_z at c.clip16.ensures)
