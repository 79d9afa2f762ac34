use Rattle.std.proofs.Common.{inr, sym, ◌∙◌}
use Rattle.filer.specs.Turns.{standing}
use Rattle.filer.proofs.Ending.{unmarked}
use Rattle.filer.proofs.Texts.{gave_part}
use Rattle.filer.proofs.filer.Filer.run.Goals as goal

pub returns-then-is_err-clause-ran : goal.returns-then-is_err-clause-ran
returns-then-is_err-clause-ran g c =
    let part = gave_part (g.J.Sink.given c.run_on.new.journal) (g.J.Sink.given c.write_end.new.sink) c.write_end.result _ (sym c.is_err.ensures.value ∙ c.if-is_err.true) c.write_end.ensures.given in
    inr (unmarked g.S.FilerSide.did (standing c.args.self.now c.args.side.now (g.P.Link.log c.args.link.now) (g.J.Sink.given c.args.journal.now))
    (standing c.run_on.new.self c.run_on.new.side (g.P.Link.log c.run_on.new.link) (g.J.Sink.given c.run_on.new.journal)) (g.J.Sink.given c.write_end.new.sink) c.in-Ended.ensures.stopped part)
