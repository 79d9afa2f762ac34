use Rattle.std.proofs.Common.{sym}
use Rattle.player.proofs.CallLists.{told-front}
use Rattle.player.proofs.calls.write_calls.Goals as goal

pub returns-in-Err-clause-given : goal.returns-in-Err-clause-given
returns-in-Err-clause-given g c =
    let given = g.J.Sink.given in
    rw (sym c.as_slice-call-items.ensures.value)
    (told-front (given c.args.journal.now) (given c.loop-call.journal) (given c.write_call.new.journal) c.as_slice-call-items.result.now c.loop-call.call-index c.call-item.result
    c.loop-call-test.true c.call-item.is c.loop-call.invariant.given c.in-Err.ensures.given)
