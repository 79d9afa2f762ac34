use Rattle.std.proofs.Common.{arith, FitsSigned, w16, w32, pos, ◌*ℤ◌}
use Rattle.std.specs.Prelude.{unsigned_abs}
use Rattle.std.proofs.lemmas.Int.{to_z-of_z, ints, unsigned_abs-mul}
use Rattle.rpe_ltp.proofs.LagLaws.{scale_fits}
use Rattle.rpe_ltp.proofs.lag_search.scale.Goals as goal

pub returns-clause-fits : goal.returns-clause-fits
returns-clause-fits c =
    let top : FitsSigned w16 c.args.top = c.ranges.top in
    let top_long : FitsSigned w32 c.args.top = omega (arith, ints) in
    let wide : FitsSigned w32 (c.args.top *ℤ pos 65536) = omega (arith, ints) in
    let h = simp to_z-of_z at c.norm_long.ensures.normal.below in
    rw c.saturating_sub.ensures (scale_fits (unsigned_abs c.args.top) c.norm_long.result (rw (unsigned_abs-mul c.args.top (pos 65536)) at h))
