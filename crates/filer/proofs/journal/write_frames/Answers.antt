use Rattle.std.proofs.Common.{◌<◌, ◌/◌, ◌≤◌, length, arith, sym, ◌∙◌}
use Rattle.filer.proofs.Texts.{gave, gave_part}
use Rattle.filer.proofs.Writing.{writing-fits, writing-more, writing-part}
use Rattle.filer.proofs.journal.write_frames.Goals as goal

pub write_file-requires-clause-reply : goal.write_file-requires-clause-reply
write_file-requires-clause-reply g c =
    rw c.from.ensures
    (writing-fits (g.J.Sink.given c.args.journal.now) (g.J.Sink.given c.loop-i.journal) c.args.first c.args.view.now.payload c.args.replies.now c.loop-i.i c.get-reply.result.now c.loop-i.invariant.0 c.get-reply.ensures)

pub returns-then-is_err-clause-given : goal.returns-then-is_err-clause-given
returns-then-is_err-clause-given g c =
    let few : c.loop-i.i < length c.args.view.now.payload / 33 = omega (arith, c.count-i-end.ensures.count, c.loop-i-test.true) in
    let given = rw (c.from.ensures, c.frame.ensures) at c.write_file.ensures.given in
    let part = gave_part (g.J.Sink.given c.loop-i.journal) (g.J.Sink.given c.write_file.new.journal) c.write_file.result _ (sym c.is_err.ensures.value ∙ c.if-is_err.true) given in
    writing-part (g.J.Sink.given c.args.journal.now) (g.J.Sink.given c.loop-i.journal) (g.J.Sink.given c.write_file.new.journal) c.args.first c.args.view.now.payload c.args.replies.now c.loop-i.i c.get-reply.result.now
    c.loop-i.invariant.0 few c.get-reply.ensures part

pub loop-i-preserved : goal.loop-i-preserved
loop-i-preserved g c =
    let few : c.loop-i.i < length c.args.view.now.payload / 33 = omega (arith, c.count-i-end.ensures.count, c.loop-i-test.true) in
    let given = rw (c.from.ensures, c.frame.ensures) at c.write_file.ensures.given in
    let whole = gave (g.J.Sink.given c.loop-i.journal) (g.J.Sink.given c.write_file.new.journal) c.write_file.result _ (sym c.is_err.ensures.value ∙ c.if-is_err.false) given in
    let later : g.J.Sink.faults c.args.journal.now ≤ g.J.Sink.faults c.write_file.new.journal = omega (arith, c.loop-i.invariant.1, c.write_file.ensures.cause.later) in (
      writing-more (g.J.Sink.given c.args.journal.now) (g.J.Sink.given c.loop-i.journal) (g.J.Sink.given c.write_file.new.journal) c.args.first c.args.view.now.payload c.args.replies.now c.loop-i.i c.get-reply.result.now
          c.loop-i.invariant.0 few c.get-reply.ensures whole,
      later,
      g.met.J.Sink.kin_after c.args.journal.now c.loop-i.journal c.write_file.new.journal c.loop-i.invariant.2 c.write_file.ensures.kin,
    )
