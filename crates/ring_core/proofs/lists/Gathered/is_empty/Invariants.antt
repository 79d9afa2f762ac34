use Rattle.std.proofs.Common.{◌≡◌, true, take}
use Rattle.ring_core.specs.Core.{no_lists}
use Rattle.ring_core.proofs.lists.Gathered.is_empty.Given as goal

abbrev pub invariant-loop-list : goal.invariant-loop-list
invariant-loop-list l = no_lists (take l.list-index l.list-items) ≡ true
