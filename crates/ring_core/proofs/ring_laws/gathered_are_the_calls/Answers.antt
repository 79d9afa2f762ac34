use Rattle.ring_core.proofs.AllSteps.{all_gathered}
use Rattle.ring_core.proofs.ring_laws.gathered_are_the_calls.Goals as goal

pub returns : goal.returns
returns c = all_gathered
