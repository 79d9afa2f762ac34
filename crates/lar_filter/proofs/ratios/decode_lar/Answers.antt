use Rattle.std.proofs.Common.{rules, arith, refl, ◌∙◌, ◌≡◌, pos, ◌+ℤ◌, ◌*ℤ◌, FitsSigned, w16}
use Rattle.std.proofs.lemmas.Int.{to_z-of_z, ints}
use Rattle.lar_filter.specs.Ratios.{ratio_of}
use Rattle.lar_filter.proofs.ratios.decode_lar.Goals as goal

pub returns : goal.returns
unfolding ratio_of
returns c =
    let code : c.from.result ≡ pos c.args.code = c.from.ensures in
    let wide : FitsSigned w16 c.from.result = search rules in
    let least : FitsSigned w16 c.args.least = c.ranges.least in
    let offset : FitsSigned w16 c.args.offset = c.ranges.offset in
    let factor : FitsSigned w16 c.args.inverse_factor = c.ranges.inverse_factor in
    let sum : FitsSigned w16 (c.from.result +ℤ c.args.least) = rw code (omega (arith, ints)) in
    let product : FitsSigned w16 ((c.from.result +ℤ c.args.least) *ℤ pos 1024) = rw code (omega (arith, ints)) in
    let double : FitsSigned w16 (c.args.offset *ℤ pos 2) = omega (arith, ints) in
    let step : FitsSigned w16 c.sub.result = search rules in
    let half : FitsSigned w16 c.mult_r-half.result = search rules in
    let ratio : FitsSigned w16 c.add.result = search rules in
    let difference = simp to_z-of_z at c.sub.ensures in
    let scaled = simp to_z-of_z at c.mult_r-half.ensures in
    let doubled = simp to_z-of_z at c.add.ensures in
    simp to_z-of_z (doubled ∙ (rw (scaled, difference, code) refl))
