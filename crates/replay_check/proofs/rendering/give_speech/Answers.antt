use Rattle.std.proofs.Common.{ℕ, List, subst}
use Rattle.gate_io.specs.Flow.{Gives}
use Rattle.replay_check.proofs.rendering.give_speech.Goals as goal

pub returns-clause-played : goal.returns-clause-played
returns-clause-played g c =
    let given = g.O.Sink.given in (
      c.play.new.out,
      c.play.ensures.goes_on,
      subst (λ (l : List ℕ). Gives (given c.args.pcm.now) (given c.give.new.self) c.give.result l) c.write_i16_into.ensures c.give.ensures.given,
    )
