use Rattle.command_line.proofs.ServeLines.{plain_serve}
use Rattle.command_line.proofs.laws.plain_serve_lines.Goals as goal

pub returns : goal.returns
returns c = plain_serve
