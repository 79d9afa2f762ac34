use Rattle.ring_core.proofs.Elements.{at_index, beyond}
use Rattle.ring_core.proofs.element.found.Goals as goal

pub returns-then-at-list : goal.returns-then-at-list
returns-then-at-list g c = at_index c.args.list.now c.args.at c.index-list-at.result c.if-at-list.true c.index-list-at.is

pub returns-else-at-list : goal.returns-else-at-list
returns-else-at-list g c = beyond c.args.list.now c.args.at c.if-at-list.false
