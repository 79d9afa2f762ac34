use Rattle.command_line.proofs.RenderLines.{plain_render}
use Rattle.command_line.proofs.laws.plain_render_lines.Goals as goal

pub returns : goal.returns
returns c = plain_render
