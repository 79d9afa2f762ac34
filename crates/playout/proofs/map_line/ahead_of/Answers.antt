use Rattle.playout.proofs.AheadLaws.{formula_is_ahead}
use Rattle.playout.proofs.map_line.ahead_of.Goals as goal

pub returns : goal.returns
returns c = record { ahead = formula_is_ahead c.args.slots c.args.position c.args.number c.requires.slots }
