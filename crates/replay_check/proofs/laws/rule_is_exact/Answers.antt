use Rattle.replay_check.proofs.Greedy.{exact}
use Rattle.replay_check.proofs.laws.rule_is_exact.Goals as goal

pub returns : goal.returns
returns c = exact
