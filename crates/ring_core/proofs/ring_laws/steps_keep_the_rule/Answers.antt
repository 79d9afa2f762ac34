use Rattle.ring_core.proofs.AllSteps.{all_steps}
use Rattle.ring_core.proofs.ring_laws.steps_keep_the_rule.Goals as goal

pub returns : goal.returns
returns c = all_steps
