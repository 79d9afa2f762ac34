use Rattle.std.proofs.Common.{◌≤◌, ◌-◌, List}
use Rattle.std.specs.Prelude.{ℤ}
use Rattle.recorder.specs.declared.events.PlayEvent.{PlayEvent}
use Rattle.replay_check.proofs.Playing.{Playing}
use Rattle.replay_check.proofs.rendering.play_events.Given as goal

abbrev pub invariant-events : goal.invariant-events
invariant-events g l =
    let left = g.I.Source.left in
    let given = g.O.Sink.given in
    record {
      playing : (events : List PlayEvent) × (samples : List ℤ)
          × Playing l.fn.seed l.head l.reader l.voice l.tally (left l.fn.journal) (left l.journal) (given l.fn.pcm) (given l.pcm) events samples;
      read : g.I.Source.faults l.fn.journal ≤ g.I.Source.faults l.journal;
      written : g.O.Sink.faults l.fn.pcm ≤ g.O.Sink.faults l.pcm;
      kin : g.O.Sink.kin l.fn.pcm l.pcm;
    }

abbrev pub decreases-events : goal.decreases-events
decreases-events g l = 16777216 - l.reader.reading.count
