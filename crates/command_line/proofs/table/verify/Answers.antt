use Rattle.std.proofs.lemmas.Result.{IfOk-weaker}
use Rattle.command_line.proofs.table.verify.Goals as goal

pub returns : goal.returns
returns c = IfOk-weaker c.with_arg-3.result _ _ (λ r h. h _ _ (c.in_ok-command-2.ensures _ _ (c.in_ok-command.ensures _ _ c.command_of-command.ensures c.place_of.ensures.rule) c.place_of-2.ensures.rule) c.places_of.ensures.rule) c.with_arg-3.ensures
