use Rattle.playout.proofs.AcceptedLaws.{plays_accepted}
use Rattle.playout.proofs.laws.ticks_play_accepted.Goals as goal

pub returns : goal.returns
returns c = plays_accepted
