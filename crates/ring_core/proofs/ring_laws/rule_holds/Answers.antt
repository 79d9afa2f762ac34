use Rattle.ring_core.proofs.Core.{core_keeps}
use Rattle.ring_core.proofs.ring_laws.rule_holds.Goals as goal

pub returns : goal.returns
returns c = core_keeps
