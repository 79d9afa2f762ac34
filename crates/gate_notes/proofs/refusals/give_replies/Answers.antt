use Rattle.std.proofs.Common.{sym, subst, arith}
use Rattle.std.specs.Io.KnownBytes.{Appends}
use Rattle.std.proofs.KnownBytes.{Appends-trans}
use Rattle.gate_notes.proofs.Replies.{lines-broken, lines-more}
use Rattle.gate_notes.proofs.refusals.give_replies.Goals as goal

pub returns-in-Err-clause-given : goal.returns-in-Err-clause-given
returns-in-Err-clause-given g c =
    let given = g.E.Sink.given in
    lines-broken (given c.args.notes.now) (given c.replies.notes) (given c.give_reply.new.notes) c.args.caller c.args.first c.replies.i c.args.replies.now c.get.result.now c.get.ensures c.replies.invariant.given
    c.in-Err.ensures.given

pub replies-preserved : goal.replies-preserved
replies-preserved g c =
    let given = g.E.Sink.given in
    record {
      given = subst (Appends (given c.args.notes.now) (given c.give_reply.new.notes)) (sym (lines-more c.args.caller c.args.first c.replies.i c.args.replies.now c.get.result.now c.get.ensures))
          (Appends-trans (given c.args.notes.now) (given c.replies.notes) (given c.give_reply.new.notes) _ _ c.replies.invariant.given c.in-Ok.ensures.given);
      later = omega (arith, c.replies.invariant.later, c.give_reply.ensures.cause.later);
      kin = g.met.E.Sink.kin_after c.args.notes.now c.replies.notes c.give_reply.new.notes c.replies.invariant.kin c.give_reply.ensures.kin;
    }
