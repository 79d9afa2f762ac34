use Rattle.std.proofs.Common.{rules, arith, ◌≡◌, ◌<◌, length, FitsSigned, w16}
use Rattle.std.proofs.lemmas.Int.{to_z-of_z}
use Rattle.fixed_arith.specs.Signal.{at}
use Rattle.fixed_arith.specs.GreatestLaws.{greatest_reaches}
use Rattle.rpe_ltp.proofs.PulseCodeLaws.{widths_fit}
use Rattle.rpe_ltp.proofs.pulse_codes.apcm.Goals as goal

pub code-requires-clause-reach : goal.code-requires-clause-reach
code-requires-clause-reach c =
    let x : FitsSigned w16 (at c.args.xm.now c.loop-i.i) = search rules in
    let top : FitsSigned w16 c.greatest-top.result = search rules in
    let inside : c.loop-i.i < length c.args.xm.now = omega (arith, c.told-xm) in
    simp to_z-of_z (rw c.greatest-top.ensures.value (greatest_reaches c.args.xm.now c.loop-i.i inside))

pub returns-clause-widths : goal.returns-clause-widths
returns-clause-widths c =
    let end : c.loop-i.i ≡ 13 = omega arith in
    widths_fit 13 c.loop-i.xmc c.loop-i.invariant.size (rw end at c.loop-i.invariant.small)
