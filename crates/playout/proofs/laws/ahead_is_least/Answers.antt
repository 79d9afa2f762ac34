use Rattle.playout.proofs.AheadLaws.{least}
use Rattle.playout.proofs.laws.ahead_is_least.Goals as goal

pub returns : goal.returns
returns c = least
