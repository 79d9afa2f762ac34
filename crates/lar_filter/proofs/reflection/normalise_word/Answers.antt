use Rattle.std.proofs.Common.{arith, ◌*ℤ◌, ◌^◌, refl, pos, FitsSigned, w16, w32}
use Rattle.std.specs.Int.{int_shr}
use Rattle.std.proofs.lemmas.Int.{to_z-of_z}
use Rattle.fixed_arith.specs.WordLaws.{long_from_shift}
use Rattle.fixed_arith.specs.LongLaws.{shl_long, normal_fits, word_from_long}
use Rattle.lar_filter.specs.Reflections.{normal_word}
use Rattle.lar_filter.proofs.reflection.normalise_word.Goals as goal

pub overflow_cast-result : goal.overflow_cast-result
overflow_cast-result c = record { sfits = omega (arith, c.requires.most) }

pub returns : goal.returns
unfolding normal_word
returns c =
    let x : FitsSigned w32 c.args.x = c.ranges.x in
    let product : FitsSigned w32 (c.args.x *ℤ pos (2 ^ c.args.places)) = normal_fits c.args.first c.args.x c.args.places c.requires.bound c.requires.normal in
    let shifted : FitsSigned w32 (int_shr (c.args.x *ℤ pos (2 ^ c.args.places)) 16) = long_from_shift _ 16 product in
    let word : FitsSigned w16 (int_shr (c.args.x *ℤ pos (2 ^ c.args.places)) 16) = word_from_long _ product in
    rw (shl_long c.args.x c.args.places x c.requires.most product) (simp to_z-of_z (rw c.requires.places refl))
