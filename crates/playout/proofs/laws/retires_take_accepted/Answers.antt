use Rattle.playout.proofs.AcceptedLaws.{takes_accepted}
use Rattle.playout.proofs.laws.retires_take_accepted.Goals as goal

pub returns : goal.returns
returns c = takes_accepted
