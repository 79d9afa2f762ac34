use Rattle.std.proofs.Common.{subst, sym}
use Rattle.player.specs.Beats.{GivesOne}
use Rattle.player.proofs.CallLists.{first-item}
use Rattle.player.proofs.calls.item_of_beat.Goals as goal

pub returns-in-Some : goal.returns-in-Some
returns-in-Some c =
    rw (sym c.as_slice-call-items.ensures.value)
    (first-item c.as_slice-call-items.result.now c.loop-call.call-index c.call-item.result c.in-Some.item c.loop-call-test.true c.call-item.is c.loop-call.invariant
    c.in-Some.ensures (subst GivesOne (sym c.as_slice-call-items.ensures.value) c.requires))
