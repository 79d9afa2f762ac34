use Rattle.std.proofs.Common.{ap, sym, ◌∙◌}
use Rattle.ring_core.specs.Core.{no_lists}
use Rattle.ring_core.proofs.Counted.{no_lists_more, listed}
use Rattle.ring_core.proofs.lists.Gathered.is_empty.Goals as goal

pub returns-then-is_some : goal.returns-then-is_some
returns-then-is_some c =
    sym (sym (ap no_lists (c.deref-list-items.ensures.value ∙ c.self.view_is)) ∙ listed c.deref-list-items.result.now c.loop-list.list-index c.list-item.result c.loop-list-test.true c.list-item.is (sym c.is_some.ensures ∙ c.if-is_some.true))

pub loop-list-preserved : goal.loop-list-preserved
loop-list-preserved c =
    no_lists_more c.deref-list-items.result.now c.loop-list.list-index c.list-item.result c.loop-list-test.true c.list-item.is c.loop-list.invariant (sym c.is_some.ensures ∙ c.if-is_some.false)
