use Rattle.std.proofs.Common.{List, ℕ, subst}
use Rattle.gate_io.specs.Flow.{Gives}
use Rattle.speech_files.proofs.encode_command.code_piece.Goals as goal

pub returns-clause-coded : goal.returns-clause-coded
returns-clause-coded g c =
    let given = g.O.Sink.given in (
      c.pack-frame.result,
      c.encode.result,
      c.pack-frame.ensures.frame,
      c.pack-frame.ensures.spelled,
      c.pack-frame.ensures.widths,
      c.encode.ensures.goes_on,
      subst (λ (l : List ℕ). Gives (given c.args.output.now) (given c.give.new.self) c.give.result l) c.octets.ensures.octets c.give.ensures.given,
    )
