use Rattle.std.proofs.Common.{◌∷◌, [], ◌++◌, List, subst, ap, ◌∙◌}
use Rattle.std.specs.Prelude.{ℤ}
use Rattle.frame_codec.specs.Frame.{Fields}
use Rattle.fr_encoder.specs.Coding.{Encodes}
use Rattle.player.specs.Returning.{Stream, next_packet}
use Rattle.player.proofs.return_stream.ReturnStream.next.Goals as goal

pub returns-clause-packet : goal.returns-clause-packet
returns-clause-packet c =
    let goes : (before : List ℤ) (frames : List Fields) → Encodes before frames c.self.inside.encoder → Encodes (before ++ c.args.samples.now) (frames ++ c.encode.result ∷ []) c.encode.new.self = c.encode.ensures.goes_on in (
      c.pack-frame.result,
      c.encode.result,
      c.pack-frame.ensures.frame,
      c.pack-frame.ensures.spelled,
      c.packet_of-octets.ensures ∙ ap (λ (s : Stream). next_packet s c.pack-frame.result) c.self.view_is,
      subst (λ (s : Stream). (before : List ℤ) (frames : List Fields) → Encodes before frames s.encoder → Encodes (before ++ c.args.samples.now) (frames ++ c.encode.result ∷ []) c.encode.new.self) c.self.view_is goes,
    )
