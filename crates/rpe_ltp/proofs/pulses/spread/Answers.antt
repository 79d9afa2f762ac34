use Rattle.std.proofs.Common.{rules, arith, FitsSigned, w16, ◌≡◌}
use Rattle.std.proofs.lemmas.Int.{to_z-of_z}
use Rattle.fixed_arith.specs.Signal.{at}
use Rattle.rpe_ltp.proofs.PulseLaws.{Spreads, Spreads-start, Spreads-more, spread_is}
use Rattle.rpe_ltp.proofs.pulses.spread.Goals as goal

pub loop-i-init : goal.loop-i-init
loop-i-init c = Spreads-start c.args.grid c.args.pulses.now

pub loop-i-preserved : goal.loop-i-preserved
loop-i-preserved c =
    let value : FitsSigned w16 (at c.args.pulses.now c.loop-i.i) = search rules in
    simp to_z-of_z (Spreads-more c.args.grid c.args.pulses.now c.loop-i.places c.loop-i.i c.requires (omega arith) c.loop-i.invariant)

pub returns : goal.returns
returns c =
    let end : c.loop-i.i ≡ 13 = omega arith in
    let spreads : Spreads c.args.grid c.args.pulses.now c.loop-i.places 13 = rw end at c.loop-i.invariant in
    spread_is c.args.grid c.args.pulses.now c.loop-i.places c.requires c.told-pulses spreads
