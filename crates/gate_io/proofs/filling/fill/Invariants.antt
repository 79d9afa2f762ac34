use Rattle.std.proofs.Common.{length, take, ◌-◌, ◌≤◌}
use Rattle.std.specs.Io.KnownBytes.{Consumes}
use Rattle.gate_io.proofs.filling.fill.Given as goal

abbrev pub invariant-loop-count : goal.invariant-loop-count
invariant-loop-count g l =
    let left = g.I.Source.left in
    let faults = g.I.Source.faults in
    record {
      room : l.count ≤ length l.into;
      taken : Consumes (left l.fn.source) (left l.source) (take l.count l.into);
      cause : faults l.fn.source ≤ faults l.source;
    }

abbrev pub decreases-loop-count : goal.decreases-loop-count
decreases-loop-count g l = length l.initial.into - l.count
