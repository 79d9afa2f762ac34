-- What is coded is one.
use Rattle.std.specs.Prelude.{◌≡◌, ℤ, List}
use Rattle.frame_codec.specs.Frame.{Fields}
use Rattle.fr_encoder.specs.Coding.{IsCoded}

-- two lists of frames that are coded speech of the same samples are the same
abbrev pub CodingIsOne : Type 0
CodingIsOne = (samples : List ℤ) (a b : List Fields) → IsCoded samples a → IsCoded samples b → a ≡ b
