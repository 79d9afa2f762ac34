use Rattle.std.proofs.Common.{List, ℕ, subst}
use Rattle.gate_io.specs.Flow.{Gives}
use Rattle.script_runs.proofs.playback.speak.Goals as goal

pub returns-clause-spoken : goal.returns-clause-spoken
returns-clause-spoken g c =
    let given = g.O.Sink.given in (
      c.play.new.out,
      subst (λ (l : List ℕ). Gives (given c.args.output.now) (given c.give.new.self) c.give.result l) c.write_i16_into.ensures c.give.ensures.given,
      c.play.ensures.goes_on,
    )
