use Rattle.g711_leg.specs.LegLaws as leg
use Rattle.g711_leg.proofs.laws.goes_out.Goals as goal

pub returns : goal.returns
returns g c = leg.goes_out g.O.Sink g.A.Sink g.P.Link
