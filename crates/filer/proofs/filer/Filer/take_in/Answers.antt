use Rattle.std.proofs.Common.{sym, ◌∙◌}
use Rattle.filer.proofs.Texts.{gave}
use Rattle.filer.proofs.filer.Filer.take_in.Goals as goal

pub returns-in-Err-clause-took : goal.returns-in-Err-clause-took
returns-in-Err-clause-took g c =
    let sent = rw (c.own.ensures, c.due.ensures.due) at c.in-Err.ensures.sent in (
      c.take_one-outcome.result,
      c.take_one-outcome.ensures.taken,
      c.take_one-outcome.ensures.calls,
      sent,
      gave _ _ c.write_outcome.result _ (sym c.is_err.ensures.value ∙ c.if-is_err.false) c.write_outcome.ensures.given,
    )
