use Rattle.std.proofs.Common.{◌≤◌, take}
use Rattle.std.specs.List.{flat_map}
use Rattle.std.specs.Io.KnownBytes.{Appends}
use Rattle.recorder.specs.Play.{call_text}
use Rattle.player.proofs.calls.write_calls.Given as goal

abbrev pub invariant-loop-call : goal.invariant-loop-call
invariant-loop-call g l =
    let given = g.J.Sink.given in
    record {
      given : Appends (given l.fn.journal) (given l.journal) (flat_map call_text (take l.call-index l.call-items));
      later : g.J.Sink.faults l.fn.journal ≤ g.J.Sink.faults l.journal;
      kin : g.J.Sink.kin l.fn.journal l.journal;
    }
