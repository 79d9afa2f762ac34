use Rattle.command_line.proofs.MakeLines.{plain_make}
use Rattle.command_line.proofs.laws.plain_make_lines.Goals as goal

pub returns : goal.returns
returns c = plain_make
