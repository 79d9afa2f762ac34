use Rattle.std.proofs.Common.{refl, false, true, ◌≡◌}
use Rattle.replay_check.proofs.Places.{next-some, cannot-none, cannot-possible}
use Rattle.replay_check.proofs.pick.possible.Goals as goal

pub returns-then-is_possible : goal.returns-then-is_possible
returns-then-is_possible c = next-some c.args.line.now _ _ _ _ c.in-Some.ensures (c.if-is_possible.ensures.0 refl)

pub returns-else-is_possible : goal.returns-else-is_possible
returns-else-is_possible c = cannot-possible c.args.line.now _ _ _ _ c.in-Some.ensures (λ h. let no : false ≡ true = c.if-is_possible.ensures.1 h in cc)

pub returns-in-None : goal.returns-in-None
returns-in-None c = cannot-none _ _ _ _ _ c.in-None.ensures
