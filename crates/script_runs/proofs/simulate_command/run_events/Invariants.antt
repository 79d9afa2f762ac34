use Rattle.std.proofs.Common.{◌≤◌, ◌-◌, List}
use Rattle.recorder.specs.declared.events.ScriptEvent.{ScriptEvent}
use Rattle.script_runs.specs.Calls.{Turn}
use Rattle.script_runs.proofs.Sofar.{Sofar}
use Rattle.script_runs.proofs.simulate_command.run_events.Given as goal

abbrev pub invariant-events : goal.invariant-events
invariant-events g l =
    let left = g.I.Source.left in
    let given = g.O.Sink.given in
    let noted = g.E.Sink.given in
    record {
      sofar : (events : List ScriptEvent) × (turns : List Turn)
          × Sofar l.head l.fn.playback l.playback l.reader l.run (left l.fn.input) (left l.input) (given l.fn.output) (given l.output) (noted l.fn.notes) (noted l.notes) events turns;
      read : g.I.Source.faults l.fn.input ≤ g.I.Source.faults l.input;
      written : g.O.Sink.faults l.fn.output ≤ g.O.Sink.faults l.output;
      counted : g.E.Sink.faults l.fn.notes ≤ g.E.Sink.faults l.notes;
      output_kin : g.O.Sink.kin l.fn.output l.output;
      notes_kin : g.E.Sink.kin l.fn.notes l.notes;
    }

abbrev pub decreases-events : goal.decreases-events
decreases-events g l = 16777216 - l.reader.count
