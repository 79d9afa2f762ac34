use Rattle.std.proofs.Common.{rules, ◌≡◌, refl, ap, ◌∙◌}
use Rattle.slot_ring.specs.Seen.{PassView}
use Rattle.line_run.specs.Seen.{link_seen, sink_seen}
use Rattle.line_run.proofs.CameSo.{went_on}
use Rattle.line_run.proofs.caller.run_one.Goals as goal

pub returns : goal.returns
returns g c =
    let l = c.args.plan.now in let r = c.requires in let ran = c.run_over-pass in
    let link = link_seen g.P.Link in let sink = sink_seen g.J.Sink in
    let same : c.in-Some.pass ≡ r.pass = search rules in
    record {
      pass = ran.result.0;
      has = refl;
      of_ring = ran.ensures.pass.0 ∙ (ap (λ (x : PassView). x.ring) same ∙ r.of_ring);
      who = ran.ensures.pass.1 ∙ (ap (λ (x : PassView). x.who) same ∙ r.who);
      came = went_on l.filers l.options c.args.caller.now.number (link c.args.link.now) (link ran.new.link) (sink c.args.journal.now) (sink c.write_filer_head.new.sink) (sink ran.new.journal) c.write_filer_head.result c.head.result c.filer-filer.result ran.new.filer ran.result.0.list ran.result.1 c.tally-caller.result
          c.write_filer_head.ensures.given c.write_filer_head.ensures.cause (search rules) c.head.ensures c.filer-filer.ensures ran.ensures.ran (search rules)
          ran.ensures.ended ran.ensures.link_later ran.ensures.link_fault ran.ensures.journal_later ran.ensures.journal_fault;
      journal = g.met.J.Sink.kin_after c.args.journal.now c.write_filer_head.new.sink ran.new.journal c.write_filer_head.ensures.kin ran.ensures.kin;
    }
