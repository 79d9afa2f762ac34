use Rattle.std.proofs.lemmas.Result.{IfOk-weaker}
use Rattle.command_line.proofs.table.gate.Goals as goal

pub returns : goal.returns
returns c = IfOk-weaker c.with_command-7.result _ _ (λ r h. h _ _ (c.in_ok-command-6.ensures _ _ (c.in_ok-command-5.ensures _ _ (c.in_ok-command-4.ensures _ _ (c.in_ok-command-3.ensures _ _ (c.in_ok-command-2.ensures _ _ (c.in_ok-command.ensures _ _ c.top-command.ensures c.in_ok-simulate.ensures) c.in_ok-decode.ensures) c.in_ok-encode.ensures) c.in_ok-render.ensures) c.in_ok-verify.ensures) c.in_ok-make.ensures) c.in_ok-serve.ensures) c.with_command-7.ensures
