use Rattle.playout.proofs.OneReply.{replies_are_one}
use Rattle.playout.proofs.laws.replies_are_one.Goals as goal

pub returns : goal.returns
returns c = replies_are_one
