use Rattle.replay_check.proofs.OneOrder.{one_order}
use Rattle.replay_check.proofs.laws.order_is_one.Goals as goal

pub returns : goal.returns
returns c = one_order
