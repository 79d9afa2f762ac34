use Rattle.command_line.proofs.DecodeLines.{plain_decode}
use Rattle.command_line.proofs.laws.plain_decode_lines.Goals as goal

pub returns : goal.returns
returns c = plain_decode
