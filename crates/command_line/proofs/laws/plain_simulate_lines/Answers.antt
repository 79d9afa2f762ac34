use Rattle.command_line.proofs.SimulateLines.{plain_simulate}
use Rattle.command_line.proofs.laws.plain_simulate_lines.Goals as goal

pub returns : goal.returns
returns c = plain_simulate
