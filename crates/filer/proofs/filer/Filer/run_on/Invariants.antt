use Rattle.std.proofs.Common.{◌≤◌}
use Rattle.filer.specs.Turns.{standing}
use Rattle.filer.proofs.Ending.{Goes}
use Rattle.filer.proofs.filer.Filer.run_on.Given as goal

abbrev pub invariant-loop : goal.invariant-loop
invariant-loop g l =
    Goes g.S.FilerSide.did
    (standing l.fn.self l.fn.side (g.P.Link.log l.fn.link) (g.J.Sink.given l.fn.journal))
    (standing l.self l.side (g.P.Link.log l.link) (g.J.Sink.given l.journal))
    × (g.P.Link.faults l.fn.link ≤ g.P.Link.faults l.link) × (g.J.Sink.faults l.fn.journal ≤ g.J.Sink.faults l.journal) × g.J.Sink.kin l.fn.journal l.journal
