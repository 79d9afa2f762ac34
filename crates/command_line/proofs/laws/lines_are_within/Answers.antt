use Rattle.command_line.proofs.Within.{line_within}
use Rattle.command_line.proofs.laws.lines_are_within.Goals as goal

pub returns : goal.returns
returns c = line_within
