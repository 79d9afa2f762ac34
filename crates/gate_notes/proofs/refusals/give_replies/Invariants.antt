use Rattle.std.proofs.Common.{◌≤◌, take}
use Rattle.std.specs.Io.KnownBytes.{Appends}
use Rattle.gate_notes.specs.Outcomes.{filed_lines}
use Rattle.gate_notes.proofs.refusals.give_replies.Given as goal

abbrev pub invariant-replies : goal.invariant-replies
invariant-replies g l =
    let given = g.E.Sink.given in
    record {
      given : Appends (given l.fn.notes) (given l.notes) (filed_lines l.caller l.first (take l.i l.replies));
      later : g.E.Sink.faults l.fn.notes ≤ g.E.Sink.faults l.notes;
      kin : g.E.Sink.kin l.fn.notes l.notes;
    }
