use Rattle.std.proofs.Common.{arith, ◌≤◌, ◌*◌, ◌^◌, FitsSigned, w16, w32}
use Rattle.std.specs.Prelude.{unsigned_abs}
use Rattle.std.specs.Int.{int_shr}
use Rattle.std.proofs.lemmas.Int.{to_z-of_z}
use Rattle.std.proofs.lemmas.Nat.{pow-add}
use Rattle.fixed_arith.specs.WordLaws.{long_from_word}
use Rattle.fixed_arith.specs.WordLaws.{word_from_shift}
use Rattle.rpe_ltp.proofs.LagLaws.{shr_small}
use Rattle.rpe_ltp.proofs.lag_search.shrink.Goals as goal

pub returns-clause-small : goal.returns-clause-small
returns-clause-small c =
    let x : FitsSigned w16 c.args.x = c.ranges.x in
    let shifted : FitsSigned w16 (int_shr c.args.x c.args.scale) = word_from_shift _ c.args.scale x in
    let long : FitsSigned w32 (int_shr c.args.x c.args.scale) = long_from_word _ shifted in
    let bound : unsigned_abs c.args.x ≤ 2 ^ 9 * 2 ^ c.args.scale = omega (arith, pow-add 2 9 c.args.scale, c.requires.reach, c.requires.fits) in
    simp to_z-of_z (shr_small c.args.x c.args.scale (2 ^ 9) bound)
