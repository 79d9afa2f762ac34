use Rattle.std.proofs.Common.{◌≡◌, ◌-◌, ◌≤◌, length}
use Rattle.line_run.specs.Callers.{AreNew, HasRightsFrom}
use Rattle.line_run.proofs.opening.enlist_filers.Given as goal

abbrev pub invariant-loop-who : goal.invariant-loop-who
invariant-loop-who g l = record {
  ring : l.blank.ring ≡ l.fn.ring;
  rights : HasRightsFrom l.who l.fn.filers l.blank.rights;
  new : AreNew l.fn.plan l.fn.ring l.callers.items;
  many : length l.callers.items ≡ l.who;
  low : l.who ≤ l.fn.filers;
}

abbrev pub decreases-loop-who : goal.decreases-loop-who
decreases-loop-who g l = l.fn.filers - l.who
