use Rattle.std.proofs.lemmas.Result.{IfOk-weaker}
use Rattle.command_line.proofs.table.serve.Goals as goal

pub returns : goal.returns
returns c = IfOk-weaker c.with_arg-14.result _ _ (λ r h. h _ _ (c.in_ok-command-13.ensures _ _ (c.in_ok-command-12.ensures _ _ (c.in_ok-command-11.ensures _ _ (c.in_ok-command-10.ensures _ _ (c.in_ok-command-9.ensures _ _ (c.in_ok-command-8.ensures _ _ (c.in_ok-command-7.ensures _ _ (c.in_ok-command-6.ensures _ _ (c.in_ok-command-5.ensures _ _ (c.in_ok-command-4.ensures _ _ (c.in_ok-command-3.ensures _ _ (c.in_ok-command-2.ensures _ _ (c.in_ok-command.ensures _ _ c.command_of-command.ensures c.option_of.ensures.rule) c.option_of-2.ensures.rule) c.option_of-3.ensures.rule) c.option_of-4.ensures.rule) c.option_of-5.ensures.rule) c.option_of-6.ensures.rule) c.option_of-7.ensures.rule) c.option_of-8.ensures.rule) c.option_of-9.ensures.rule) c.option_of-10.ensures.rule) c.option_of-11.ensures.rule) c.option_of-12.ensures.rule) c.option_of-13.ensures.rule) c.places_of.ensures.rule) c.with_arg-14.ensures
