use Rattle.std.proofs.Common.{◌∙◌, sym}
use Rattle.frame_codec.proofs.FrameLaws.{same_frames}
use Rattle.frame_codec.proofs.laws.frames_are_one.Goals as goal

pub returns : goal.returns
returns c = λ octets again p frame frame_again spelled spelled_again. same_frames again octets frame_again frame (spelled_again ∙ sym spelled)
