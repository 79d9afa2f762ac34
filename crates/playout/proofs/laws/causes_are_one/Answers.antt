use Rattle.playout.proofs.Causes.{just_one}
use Rattle.playout.proofs.laws.causes_are_one.Goals as goal

pub returns : goal.returns
returns c = just_one
