use Rattle.command_line.proofs.VerifyLines.{plain_verify}
use Rattle.command_line.proofs.laws.plain_verify_lines.Goals as goal

pub returns : goal.returns
returns c = plain_verify
