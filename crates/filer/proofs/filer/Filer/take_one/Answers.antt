use Rattle.std.proofs.Common.{◌≡◌, ◌∙◌, ap, sym, subst}
use Rattle.recorder.specs.declared.tally.Tally.{Tally}
use Rattle.filer.specs.Reporting.{Reports}
use Rattle.filer.specs.Takes.{Known, IsTaken, settled, with_counted}
use Rattle.filer.proofs.Cases.{taken_is}
use Rattle.filer.proofs.filer.Filer.take_one.Goals as goal

pub returns-clause-taken : goal.returns-clause-taken
returns-clause-taken g c =
    let was = c.self.inside in
    let is = c.self-2.inside in
    let known : Known = record { delay = was.delay; own = was.own; source = was.source; clock = was.clock; reports = was.reports; tally = was.tally } in
    let later : Known = record { delay = is.delay; own = is.own; source = is.source; clock = is.clock; reports = is.reports; tally = is.tally } in
    let from : Known = record known { reports = c.settle.new.self } in
    let e : from ≡ settled c.args.self.now = ap (λ (r : Reports). record known { reports = r }) c.settle.ensures ∙ ap settled c.self.view_is in
    let counted : record later { tally = c.count_end.new.tally } ≡ with_counted c.judge-outcome.new.self c.judge-outcome.result.end =
    ap (λ (t : Tally). record later { tally = t }) c.count_end.ensures ∙ ap (λ (k : Known). with_counted k c.judge-outcome.result.end) c.self-2.view_is in
    subst (IsTaken c.args.self.now c.args.datagram.now c.args.at c.judge-outcome.result) (sym counted)
    (taken_is c.args.self.now from c.judge-outcome.new.self c.args.datagram.now c.args.at c.judge-outcome.result e c.judge-outcome.ensures.outcome c.judge-outcome.ensures.after c.judge-outcome.ensures.all)
