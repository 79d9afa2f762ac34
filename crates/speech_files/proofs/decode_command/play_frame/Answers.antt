use Rattle.std.proofs.Common.{List, ℕ, subst}
use Rattle.gate_io.specs.Flow.{Gives}
use Rattle.speech_files.proofs.decode_command.play_frame.Goals as goal

pub returns-clause-played : goal.returns-clause-played
returns-clause-played g c =
    let given = g.O.Sink.given in (
      c.unpack.result,
      c.decode.new.out,
      c.unpack.ensures.spelled,
      c.unpack.ensures.widths,
      c.decode.ensures.goes_on,
      subst (λ (l : List ℕ). Gives (given c.args.output.now) (given c.give.new.self) c.give.result l) c.write_i16_into.ensures c.give.ensures.given,
    )
