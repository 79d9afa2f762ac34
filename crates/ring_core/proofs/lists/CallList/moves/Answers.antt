use Rattle.std.proofs.Common.{ap, ◌∙◌, arith, take_all}
use Rattle.playout.specs.History.{moves}
use Rattle.ring_core.proofs.Counted.{moves_more}
use Rattle.ring_core.proofs.lists.CallList.moves.Goals as goal

pub loop-call-preserved : goal.loop-call-preserved
loop-call-preserved c =
    let more = moves_more c.deref-call-items.result.now c.loop-call.call-index c.call-item.result c.loop-call-test.true c.call-item.is in
    (omega (arith, more, c.loop-call.invariant.0, c.move_weight-count.ensures.weight), omega (arith, c.loop-call.invariant.1, c.move_weight-count.ensures.few))

pub returns-clause-count : goal.returns-clause-count
returns-clause-count c =
    c.loop-call.invariant.0 ∙ ap moves (take_all c.loop-call.call-index c.deref-call-items.result.now c.loop-call-test.false ∙ (c.deref-call-items.ensures.value ∙ c.self.view_is))

pub returns-clause-few : goal.returns-clause-few
returns-clause-few c =
    let items = c.self.inside.items in
    omega (arith, c.loop-call.invariant.1, c.loop-call.auto.call-index-end, c.deref-call-items.ensures.len, items.ok.1, items.small)
