use Rattle.std.proofs.Common.{◌-◌, ◌≤◌}
use Rattle.ring_core.specs.declared.views.Shape.{Shape}
use Rattle.step_table.specs.Packed.{IsOpening}
use Rattle.step_table.proofs.opening.shape_of.Given as goal

abbrev pub invariant-loop-g : goal.invariant-loop-g
invariant-loop-g l = (k : Shape) → IsOpening k l.fn.words l.fn.cells → l.g ≤ k.g

abbrev pub decreases-loop-g : goal.decreases-loop-g
decreases-loop-g l = 10 - l.g
