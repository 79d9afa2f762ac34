use Rattle.ring_core.proofs.AllSteps.{all_near}
use Rattle.ring_core.proofs.ring_laws.slots_are_near.Goals as goal

pub returns : goal.returns
returns c = all_near
