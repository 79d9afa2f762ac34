use Rattle.ring_core.proofs.AllSteps.{all_opens}
use Rattle.ring_core.proofs.ring_laws.opening_meets_the_rule.Goals as goal

pub returns : goal.returns
returns c = all_opens
