use Rattle.std.proofs.Common.{◌≡◌, ◌≤◌, ◌*◌, List}
use Rattle.playout.specs.History.{Entry}
use Rattle.replay_check.specs.Generator.{seed_key}
use Rattle.replay_check.proofs.MadeSofar.{Sofar}
use Rattle.replay_check.proofs.make.make_script.Given as goal

abbrev pub invariant-rounds : goal.invariant-rounds
invariant-rounds g l = record {
  sofar : (history : List Entry) × Sofar (seed_key l.seed) l.filers l.r l.played (g.O.Sink.given l.fn.sink) (g.O.Sink.given l.sink) history;
  key : l.words.key ≡ seed_key l.seed;
  place : l.words.place ≡ 9 * l.r;
  later : g.O.Sink.faults l.fn.sink ≤ g.O.Sink.faults l.sink;
  kin : g.O.Sink.kin l.fn.sink l.sink;
}
