use Rattle.std.proofs.Common.{rules, arith, sym, ◌≡◌, ◌-ℤ◌, FitsSigned, w16, w32}
use Rattle.std.proofs.lemmas.Int.{to_z-of_z, ints}
use Rattle.fr_encoder.proofs.OffsetLaws.{offset, next_is}
use Rattle.fr_encoder.proofs.preprocessing.Preprocessing.step.Goals as goal

pub returns-clause-next : goal.returns-clause-next
returns-clause-next c =
    let x : FitsSigned w16 c.args.x = c.ranges.x in
    let so : FitsSigned w32 c.downscale-so.result = search rules in
    let z : FitsSigned w32 c.keep-z.result = search rules in
    let mp : FitsSigned w32 c.middle-mp.result = search rules in
    let difference : FitsSigned w32 (c.downscale-so.result -ℤ c.self.inside.so) = omega (arith, ints, c.downscale-so.ensures.small, c.self.invariant.0) in
    let held : FitsSigned w32 c.self.inside.so = search rules in
    let kept : FitsSigned w32 c.self.inside.z = search rules in
    let view : offset c.self.inside.so c.self.inside.z c.self.inside.mp ≡ c.args.self.now = c.self.view_is in
    let so_is = simp to_z-of_z at c.downscale-so.ensures.value in
    let z_is = simp to_z-of_z at c.keep-z.ensures in
    let mp_is = simp to_z-of_z at c.middle-mp.ensures.value in
    simp to_z-of_z (rw (sym view) (next_is (offset c.self.inside.so c.self.inside.z c.self.inside.mp) c.args.x c.downscale-so.result c.keep-z.result c.middle-mp.result so_is z_is mp_is))
