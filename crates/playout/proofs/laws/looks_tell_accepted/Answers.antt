use Rattle.playout.proofs.Causes.{looks_tell}
use Rattle.playout.proofs.laws.looks_tell_accepted.Goals as goal

pub returns : goal.returns
returns c = looks_tell
