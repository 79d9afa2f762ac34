use Rattle.heard_laws.proofs.Telling.{beats_are_few}
use Rattle.heard_laws.proofs.laws.beats_are_few.Goals as goal

pub returns : goal.returns
returns c = beats_are_few
