use Rattle.playout.proofs.Causes.{first_held}
use Rattle.playout.proofs.laws.first_is_held.Goals as goal

pub returns : goal.returns
returns c = first_held
