use Rattle.std.proofs.Common.{◌≤◌}
use Rattle.journal_runs.proofs.OrderLines.{Written}
use Rattle.journal_runs.proofs.order_lines.give_order.Given as goal

abbrev pub invariant-calls : goal.invariant-calls
invariant-calls g l =
    let given = g.O.Sink.given in
    record {
      sofar : Written l.filers l.order l.i (given l.fn.output) (given l.output) l.page;
      later : g.O.Sink.faults l.fn.output ≤ g.O.Sink.faults l.output;
      kin : g.O.Sink.kin l.fn.output l.output;
    }
