use Rattle.std.proofs.Common.{arith, ◌*ℤ◌, FitsSigned, w16, w32}
use Rattle.std.specs.Int.{int_shr}
use Rattle.std.proofs.lemmas.Int.{to_z-of_z, fits_signed_from_abs}
use Rattle.fixed_arith.specs.WordLaws.{long_from_word, word_from_shift}
use Rattle.rpe_ltp.proofs.WeightLaws.{quarter_square}
use Rattle.rpe_ltp.proofs.grid.square.Goals as goal

pub returns-clause-small : goal.returns-clause-small
returns-clause-small c =
    let x : FitsSigned w16 c.args.x = c.ranges.x in
    let shifted : FitsSigned w16 (int_shr c.args.x 2) = word_from_shift _ 2 x in
    let long : FitsSigned w32 (int_shr c.args.x 2) = long_from_word _ shifted in
    let product : FitsSigned w32 (int_shr c.args.x 2 *ℤ int_shr c.args.x 2) = fits_signed_from_abs w32 _ (omega (arith, quarter_square c.args.x x)) in
    simp to_z-of_z (quarter_square c.args.x x)
