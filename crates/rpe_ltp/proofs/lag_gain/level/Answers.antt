use Rattle.std.proofs.Common.{refl, pos, ◌-◌, ◌*ℤ◌, FitsSigned, w32}
use Rattle.std.specs.Int.{int_shr}
use Rattle.std.proofs.lemmas.Int.{to_z-of_z}
use Rattle.fixed_arith.specs.WordLaws.{long_from_shift}
use Rattle.rpe_ltp.proofs.LagLaws.{twice_fits}
use Rattle.rpe_ltp.proofs.lag_gain.level.Goals as goal

pub overflow_mul-result : goal.overflow_mul-result
overflow_mul-result c =
    let best : FitsSigned w32 c.args.best = c.ranges.best in
    simp to_z-of_z (twice_fits c.args.best c.requires.small)

pub returns : goal.returns
returns c =
    let best : FitsSigned w32 c.args.best = c.ranges.best in
    let twice : FitsSigned w32 (c.args.best *ℤ pos 2) = twice_fits c.args.best c.requires.small in
    let shifted : FitsSigned w32 (int_shr (c.args.best *ℤ pos 2) (6 - c.args.scale)) = long_from_shift _ (6 - c.args.scale) twice in
    simp to_z-of_z refl
