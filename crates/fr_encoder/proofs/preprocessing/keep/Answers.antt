use Rattle.std.proofs.Common.{rules, arith, refl, ◌∙◌, pos, ◌+ℤ◌, ◌-ℤ◌, ◌*ℤ◌, ◌≤◌, ◌^◌, FitsSigned, w16, w32}
use Rattle.std.specs.Prelude.{unsigned_abs}
use Rattle.std.specs.Int.{int_shr}
use Rattle.std.proofs.lemmas.Int.{to_z-of_z, ints}
use Rattle.fixed_arith.specs.WordLaws.{long_from_shift, long_from_word}
use Rattle.fr_encoder.specs.Preprocessing.{kept_long}
use Rattle.fr_encoder.proofs.OffsetLaws.{high_small, low_fits, whole_fits}
use Rattle.fr_encoder.proofs.preprocessing.keep.Goals as goal

pub returns : goal.returns
unfolding kept_long
returns c =
    let z : FitsSigned w32 c.args.z = c.ranges.z in
    let s : FitsSigned w32 c.args.s = c.ranges.s in
    let high : FitsSigned w32 (int_shr c.args.z 15) = long_from_shift _ 15 z in
    let small : unsigned_abs (int_shr c.args.z 15) ≤ 2 ^ 16 = high_small _ z in
    let whole : FitsSigned w32 (int_shr c.args.z 15 *ℤ pos 32768) = whole_fits c.args.z z in
    let low : FitsSigned w16 (c.args.z -ℤ int_shr c.args.z 15 *ℤ pos 32768) = low_fits c.args.z in
    let low_long : FitsSigned w32 (c.args.z -ℤ int_shr c.args.z 15 *ℤ pos 32768) = long_from_word _ low in
    let upper : FitsSigned w32 (int_shr c.args.z 15 *ℤ pos 32735) = omega (arith, ints, small) in
    let raised : FitsSigned w32 (c.args.s *ℤ pos 32768) = omega (arith, ints, c.requires) in
    let product : FitsSigned w16 c.mult_r.result = search rules in
    let product_long : FitsSigned w32 c.mult_r.result = long_from_word _ product in
    let lower : FitsSigned w32 (c.args.s *ℤ pos 32768 +ℤ c.mult_r.result) = omega (arith, ints, c.requires, product) in
    let total : FitsSigned w32 c.long_add.result = search rules in
    let scaled = simp to_z-of_z at c.mult_r.ensures in
    let sum = simp to_z-of_z at c.long_add.ensures in
    simp to_z-of_z (sum ∙ (rw scaled refl))
