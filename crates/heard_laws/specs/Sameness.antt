-- What is decoded and what is heard is one.
use Rattle.std.specs.Prelude.{ℕ, ◌≡◌, ℤ, List}
use Rattle.frame_codec.specs.declared.item.Item.{Item}
use Rattle.frame_codec.specs.Frame.{Fields}
use Rattle.fr_decoder.specs.Speech.{IsSpeech}
use Rattle.substitution.specs.Heard.{IsHeard}

-- two lists of samples that are decoded speech of the same frames are the same
abbrev pub SpeechIsOne : Type 0
SpeechIsOne = (frames : List Fields) (a b : List ℤ) → IsSpeech frames a → IsSpeech frames b → a ≡ b

-- two lists of samples that are heard of the same items, with the same seed, are the same
abbrev pub HeardIsOne : Type 0
HeardIsOne = (seed : List ℕ) (items : List Item) (a b : List ℤ) → IsHeard seed items a → IsHeard seed items b → a ≡ b
