use Rattle.std.proofs.Common.{◌∙◌, sym}
use Rattle.frame_codec.proofs.FrameLaws.{same_fields}
use Rattle.frame_codec.proofs.laws.fields_are_one.Goals as goal

pub returns : goal.returns
returns c = λ octets p again fit fit_again spelled spelled_again. same_fields again p fit_again fit (sym spelled_again ∙ spelled)
