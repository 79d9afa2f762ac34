use Rattle.g711_leg.proofs.BackLaws.{back}
use Rattle.g711_leg.proofs.laws.comes_back.Goals as goal

pub returns : goal.returns
returns c = back
