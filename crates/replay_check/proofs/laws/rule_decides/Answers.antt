use Rattle.replay_check.proofs.Greedy.{decides}
use Rattle.replay_check.proofs.laws.rule_decides.Goals as goal

pub returns : goal.returns
returns c = decides
