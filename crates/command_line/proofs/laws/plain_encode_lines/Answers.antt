use Rattle.command_line.proofs.DecodeLines.{plain_encode}
use Rattle.command_line.proofs.laws.plain_encode_lines.Goals as goal

pub returns : goal.returns
returns c = plain_encode
