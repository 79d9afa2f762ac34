use Rattle.std.proofs.Common.{◌≤◌, ◌*◌, ◌+◌, ◌-◌, ◌^◌, arith}
use Rattle.g711_leg.proofs.SegmentLaws.{shifted_most}
use Rattle.g711_leg.proofs.expanding.magnitude.Goals as goal

pub returns-in-A-2-clause-most : goal.returns-in-A-2-clause-most
returns-in-A-2-clause-most c =
    let most : (c.from-step.result * 16 + 264) * 2 ^ (c.from-segment.result - 1) ≤ 504 * 2 ^ 6 =
    shifted_most _ _ 504 6 (omega (arith, c.from-step.ensures)) (omega (arith, c.from-segment.ensures)) in
    omega arith
