use Rattle.playout.proofs.Causes.{have_causes}
use Rattle.playout.proofs.laws.replies_have_causes.Goals as goal

pub returns : goal.returns
returns c = have_causes
