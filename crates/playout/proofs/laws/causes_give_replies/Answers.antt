use Rattle.playout.proofs.Causes.{give_replies}
use Rattle.playout.proofs.laws.causes_give_replies.Goals as goal

pub returns : goal.returns
returns c = give_replies
