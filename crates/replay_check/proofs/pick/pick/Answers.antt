use Rattle.std.proofs.Common.{arith, refl, inr}
use Rattle.replay_check.proofs.Places.{none-more}
use Rattle.replay_check.proofs.pick.pick.Goals as goal

pub filers-preserved : goal.filers-preserved
filers-preserved c = none-more _ c.filers.invariant c.in_default-possible.ensures

pub returns-in-Some-possible-2 : goal.returns-in-Some-possible-2
returns-in-Some-possible-2 c =
    let next = c.in-Some-possible-2.ensures in
    (inr (inr (refl, c.in_default.ensures, (c.in-Some-possible-2.call, next.0, next.1), λ k less. c.filers.invariant k (omega arith))), next)

pub returns-in-None : goal.returns-in-None
returns-in-None c = none-more _ (λ k less. c.filers.invariant k (omega arith)) c.in-None.ensures
