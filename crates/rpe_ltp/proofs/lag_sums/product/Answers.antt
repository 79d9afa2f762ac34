use Rattle.std.proofs.Common.{refl, ◌*ℤ◌, FitsSigned, w32}
use Rattle.std.proofs.lemmas.Int.{to_z-of_z}
use Rattle.rpe_ltp.proofs.LagLaws.{product_fits}
use Rattle.rpe_ltp.proofs.lag_sums.product.Goals as goal

pub returns : goal.returns
returns c =
    let w : FitsSigned w32 c.args.w = c.ranges.w in
    let x : FitsSigned w32 c.args.x = c.ranges.x in
    let product : FitsSigned w32 (c.args.w *ℤ c.args.x) = product_fits c.args.w c.args.x c.requires.scaled c.requires.word in
    simp to_z-of_z refl
