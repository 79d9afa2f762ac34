use Rattle.ring_core.proofs.AllSteps.{all_fresh}
use Rattle.ring_core.proofs.ring_laws.callers_are_fresh.Goals as goal

pub returns : goal.returns
returns c = all_fresh
