use Rattle.std.proofs.Common.{◌≡◌, ◌≤◌, length}
use Rattle.line_run.specs.Callers.{AreNumbered, HasLists, Lists}
use Rattle.line_run.proofs.gathering.gather_filers.Given as goal

abbrev pub invariant-loop-caller : goal.invariant-loop-caller
invariant-loop-caller g l = record {
  numbered : AreNumbered l.fn.ring l.callers.items;
  ring : l.gather.ring ≡ l.fn.ring;
  room : length l.callers.items ≤ length l.gather.lists;
  goes_on : (after : Lists) → HasLists l.callers.items l.gather.lists after → HasLists l.fn.callers.items l.fn.gather.lists after;
}

abbrev pub decreases-loop-caller : goal.decreases-loop-caller
decreases-loop-caller g l = length l.callers.items
