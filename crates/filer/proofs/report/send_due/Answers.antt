use Rattle.std.proofs.Common.{List, [], ◌∷◌, ℕ, Option, sym, subst}
use Rattle.rtcp_stats.specs.declared.block.ReportBlock.{ReportBlock}
use Rattle.filer.specs.Turns.{SendsDue, report_datagrams}
use Rattle.filer.proofs.Turning.{sends-one}
use Rattle.filer.proofs.report.send_due.Goals as goal

pub returns-clause-sent : goal.returns-clause-sent
returns-clause-sent g c =
    let one = sends-one (g.P.Link.log c.args.link.now) (g.P.Link.log c.send.new.self) c.send.result c.write_report.new.into c.send.ensures.sent in
    let written = subst (λ (o : List ℕ). SendsDue (g.P.Link.log c.args.link.now) (g.P.Link.log c.send.new.self) c.send.result (o ∷ [])) c.write_report.ensures one in
    subst (λ (d : Option ReportBlock). SendsDue (g.P.Link.log c.args.link.now) (g.P.Link.log c.send.new.self) c.send.result (report_datagrams c.args.own d)) (sym c.in-Some.is) written
