use Rattle.std.proofs.Common.{rules, arith, pos, negsuc, ◌+ℤ◌, ◌*ℤ◌, ◌≤◌, ◌^◌, FitsSigned, w16, w32}
use Rattle.std.specs.Prelude.{unsigned_abs}
use Rattle.std.specs.Int.{int_shr}
use Rattle.std.proofs.lemmas.Int.{to_z-of_z, ints}
use Rattle.fixed_arith.specs.WordLaws.{long_from_shift}
use Rattle.fr_encoder.specs.Preprocessing.{emphasised}
use Rattle.fr_encoder.proofs.OffsetLaws.{high_small}
use Rattle.fr_encoder.proofs.preprocessing.emphasise.Goals as goal

pub returns : goal.returns
unfolding emphasised
returns c =
    let mp : FitsSigned w32 c.args.mp = c.ranges.mp in
    let before : FitsSigned w32 c.args.before = c.ranges.before in
    let product : FitsSigned w32 (c.args.before *ℤ negsuc 28179) = omega (arith, ints, c.requires.before) in
    let rounded : FitsSigned w32 (c.args.before *ℤ negsuc 28179 +ℤ pos 16384) = omega (arith, ints, c.requires.before) in
    let shifted : FitsSigned w32 (int_shr (c.args.before *ℤ negsuc 28179 +ℤ pos 16384) 15) = long_from_shift _ 15 rounded in
    let small : unsigned_abs (int_shr (c.args.before *ℤ negsuc 28179 +ℤ pos 16384) 15) ≤ 2 ^ 16 = high_small _ rounded in
    let sum : FitsSigned w32 (c.args.mp +ℤ int_shr (c.args.before *ℤ negsuc 28179 +ℤ pos 16384) 15) = omega (arith, ints, c.requires.now, small) in
    let word : FitsSigned w16 c.clip16.result = search rules in
    simp to_z-of_z (simp to_z-of_z at c.clip16.ensures)
