use Rattle.std.proofs.Common.{rules, arith, refl, ◌≡◌, pos, ◌-ℤ◌, ◌*ℤ◌, FitsSigned, w16, get_or}
use Rattle.std.specs.Int.{int_shr}
use Rattle.std.proofs.lemmas.Int.{to_z-of_z, ints}
use Rattle.rpe_ltp.specs.Pulses.{pulse_of, factors}
use Rattle.rpe_ltp.proofs.PulseLaws.{word_at}
use Rattle.fixed_arith.specs.WordLaws.{word_from_shift}
use Rattle.rpe_ltp.proofs.pulses.pulse.Goals as goal

pub returns : goal.returns
unfolding pulse_of
returns c =
    let code : c.from.result ≡ pos c.args.code = c.from.ensures in
    let wide : FitsSigned w16 c.from.result = search rules in
    let factor : FitsSigned w16 (get_or factors c.args.mantissa (pos 0)) = word_at factors refl c.args.mantissa in
    let twice : FitsSigned w16 (pos 2 *ℤ c.from.result) = rw code (omega (arith, ints)) in
    let middle : FitsSigned w16 (pos 2 *ℤ c.from.result -ℤ pos 7) = rw code (omega (arith, ints)) in
    let step : FitsSigned w16 ((pos 2 *ℤ c.from.result -ℤ pos 7) *ℤ pos 4096) = rw code (omega (arith, ints)) in
    let scaled : FitsSigned w16 c.mult_r-scaled.result = search rules in
    let half : FitsSigned w16 c.half.result = search rules in
    let sum : FitsSigned w16 c.add.result = search rules in
    let shifted : FitsSigned w16 (int_shr c.add.result c.args.shift) = word_from_shift _ c.args.shift sum in
    let product = simp to_z-of_z at c.mult_r-scaled.ensures in
    let total = simp to_z-of_z at c.add.ensures in
    simp to_z-of_z (rw (total, product, c.half.ensures, code) refl)
