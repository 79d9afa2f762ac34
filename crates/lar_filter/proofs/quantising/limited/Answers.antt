use Rattle.std.proofs.Common.{rules, arith, refl, pos, ◌-ℤ◌, ◌≤ℤ◌, ◌<◌, FitsSigned, w16}
use Rattle.std.specs.Prelude.{unsigned_abs}
use Rattle.std.proofs.lemmas.Int.{to_z-of_z, ints}
use Rattle.lar_filter.proofs.LimitLaws.{byte_cast, limit_low, limit_high}
use Rattle.lar_filter.proofs.quantising.limited.Goals as goal

pub overflow_cast-result : goal.overflow_cast-result
overflow_cast-result c =
    let q : FitsSigned w16 c.args.q = c.ranges.q in
    let least : FitsSigned w16 c.args.least = c.ranges.least in
    let most : FitsSigned w16 c.args.most = c.ranges.most in
    let top : FitsSigned w16 c.max.result = search rules in
    let value : FitsSigned w16 c.min.result = search rules in
    let top_is = simp to_z-of_z at c.max.ensures.value in
    let value_is = simp to_z-of_z at c.min.ensures.value in
    let low : c.args.least ≤ℤ c.min.result = limit_low c.args.q c.args.least c.args.most c.max.result c.min.result c.requires.between top_is value_is in
    let high : c.min.result ≤ℤ c.args.most = limit_high c.args.q c.args.least c.args.most c.max.result c.min.result value_is in
    let difference : FitsSigned w16 (c.min.result -ℤ c.args.least) = omega (arith, ints, low, high, c.requires.low, c.requires.high) in
    let sign : pos 0 ≤ℤ (c.min.result -ℤ c.args.least) = omega (arith, ints, low) in
    let small : unsigned_abs (c.min.result -ℤ c.args.least) < 256 = omega (arith, ints, low, high, c.requires.low, c.requires.high) in
    simp to_z-of_z (byte_cast (c.min.result -ℤ c.args.least) sign small)

pub returns-clause-value : goal.returns-clause-value
returns-clause-value c =
    let q : FitsSigned w16 c.args.q = c.ranges.q in
    let least : FitsSigned w16 c.args.least = c.ranges.least in
    let most : FitsSigned w16 c.args.most = c.ranges.most in
    let top : FitsSigned w16 c.max.result = search rules in
    let value : FitsSigned w16 c.min.result = search rules in
    let top_is = simp to_z-of_z at c.max.ensures.value in
    let value_is = simp to_z-of_z at c.min.ensures.value in
    let low : c.args.least ≤ℤ c.min.result = limit_low c.args.q c.args.least c.args.most c.max.result c.min.result c.requires.between top_is value_is in
    let high : c.min.result ≤ℤ c.args.most = limit_high c.args.q c.args.least c.args.most c.max.result c.min.result value_is in
    let difference : FitsSigned w16 (c.min.result -ℤ c.args.least) = omega (arith, ints, low, high, c.requires.low, c.requires.high) in
    simp to_z-of_z (rw (value_is, top_is) refl)

pub returns-clause-most : goal.returns-clause-most
returns-clause-most c =
    let q : FitsSigned w16 c.args.q = c.ranges.q in
    let least : FitsSigned w16 c.args.least = c.ranges.least in
    let most : FitsSigned w16 c.args.most = c.ranges.most in
    let top : FitsSigned w16 c.max.result = search rules in
    let value : FitsSigned w16 c.min.result = search rules in
    let top_is = simp to_z-of_z at c.max.ensures.value in
    let value_is = simp to_z-of_z at c.min.ensures.value in
    let low : c.args.least ≤ℤ c.min.result = limit_low c.args.q c.args.least c.args.most c.max.result c.min.result c.requires.between top_is value_is in
    let high : c.min.result ≤ℤ c.args.most = limit_high c.args.q c.args.least c.args.most c.max.result c.min.result value_is in
    let difference : FitsSigned w16 (c.min.result -ℤ c.args.least) = omega (arith, ints, low, high, c.requires.low, c.requires.high) in
    simp to_z-of_z (omega (arith, ints, low, high))
