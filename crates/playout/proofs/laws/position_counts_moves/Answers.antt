use Rattle.playout.proofs.AcceptedLaws.{counts_moves}
use Rattle.playout.proofs.laws.position_counts_moves.Goals as goal

pub returns : goal.returns
returns c = counts_moves
