use Rattle.std.proofs.Common.{◌≤◌}
use Rattle.filer.proofs.Writing.{Writing}
use Rattle.filer.proofs.journal.write_frames.Given as goal

abbrev pub invariant-loop-i : goal.invariant-loop-i
invariant-loop-i g l =
    Writing (g.J.Sink.given l.fn.journal) (g.J.Sink.given l.journal) l.first l.view.payload l.replies l.i
    × (g.J.Sink.faults l.fn.journal ≤ g.J.Sink.faults l.journal) × g.J.Sink.kin l.fn.journal l.journal
