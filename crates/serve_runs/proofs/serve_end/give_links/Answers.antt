use Rattle.std.proofs.Common.{sym, subst, arith}
use Rattle.std.specs.Io.KnownBytes.{Appends}
use Rattle.std.proofs.KnownBytes.{Appends-trans}
use Rattle.serve_runs.proofs.LinkLines.{links-broken, links-more}
use Rattle.serve_runs.proofs.serve_end.give_links.Goals as goal

pub returns-in-Err-clause-given : goal.returns-in-Err-clause-given
returns-in-Err-clause-given g c =
    let given = g.E.Sink.given in
    links-broken (given c.args.notes.now) (given c.filers.notes) (given c.give_link.new.notes) c.filers.k c.args.filers.now c.get.result.now c.get.ensures c.filers.invariant.given c.in-Err.ensures.given

pub filers-preserved : goal.filers-preserved
filers-preserved g c =
    let given = g.E.Sink.given in
    record {
      given = subst (Appends (given c.args.notes.now) (given c.give_link.new.notes)) (sym (links-more c.filers.k c.args.filers.now c.get.result.now c.get.ensures))
          (Appends-trans (given c.args.notes.now) (given c.filers.notes) (given c.give_link.new.notes) _ _ c.filers.invariant.given c.in-Ok.ensures.given);
      later = omega (arith, c.filers.invariant.later, c.give_link.ensures.cause.later);
      kin = g.met.E.Sink.kin_after c.args.notes.now c.filers.notes c.give_link.new.notes c.filers.invariant.kin c.give_link.ensures.kin;
    }
