use Rattle.playout.proofs.Once.{accepted_once}
use Rattle.playout.proofs.laws.accepted_once.Goals as goal

pub returns : goal.returns
returns c = accepted_once
