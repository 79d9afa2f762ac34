use Rattle.std.proofs.Common.{◌≤◌, take}
use Rattle.std.specs.Io.KnownBytes.{Appends}
use Rattle.serve_runs.specs.Serve.{link_lines}
use Rattle.serve_runs.proofs.serve_end.give_links.Given as goal

abbrev pub invariant-filers : goal.invariant-filers
invariant-filers g l =
    let given = g.E.Sink.given in
    record {
      given : Appends (given l.fn.notes) (given l.notes) (link_lines 0 (take l.k l.filers));
      later : g.E.Sink.faults l.fn.notes ≤ g.E.Sink.faults l.notes;
      kin : g.E.Sink.kin l.fn.notes l.notes;
    }
