use Rattle.std.proofs.Common.{arith, refl, pos}
use Rattle.fixed_arith.specs.ArrayLaws.{Fills-whole}
use Rattle.fixed_arith.specs.Signal.{at}
use Rattle.rpe_ltp.proofs.lag_search.widened.Goals as goal

pub returns-clause-value : goal.returns-clause-value
returns-clause-value c = Fills-whole (pos 0) (at c.args.kept.now) 120 c.loop-i.wide c.args.kept.now c.loop-i.i (omega arith) c.loop-i.invariant.filled c.told-kept (λ j h. refl)
