use Rattle.std.proofs.Common.{arith, FitsSigned, of_z, w32}
use Rattle.std.specs.Prelude.{unsigned_abs}
use Rattle.std.specs.Int.{leading_zeros}
use Rattle.std.proofs.lemmas.Int.{to_z-of_z}
use Rattle.fixed_arith.specs.WordLaws.{normal, HighestDigit, highest_digit}
use Rattle.fixed_arith.proofs.long_words.norm_long.Goals as goal

pub overflow_sub-result : goal.overflow_sub-result
overflow_sub-result c =
    let a : FitsSigned w32 c.args.a = c.ranges.a in
    let zeros = simp to_z-of_z at c.leading_zeros.ensures in
    let digit : HighestDigit (unsigned_abs c.args.a) (leading_zeros w32 (of_z w32 c.args.a)) = highest_digit c.args.a a c.requires in
    omega arith

pub returns-clause-normal : goal.returns-clause-normal
returns-clause-normal c =
    let a : FitsSigned w32 c.args.a = c.ranges.a in
    let zeros = simp to_z-of_z at c.leading_zeros.ensures in
    let digit : HighestDigit (unsigned_abs c.args.a) (leading_zeros w32 (of_z w32 c.args.a)) = highest_digit c.args.a a c.requires in
    normal _ _ digit.place (omega arith) digit.low digit.high
