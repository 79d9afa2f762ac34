-- Heard PCM: the speech that a list of items plays.
use Rattle.std.specs.Prelude.{ℕ, ◌≡◌, ℤ, pos, List, [], ◌∷◌, ◌++◌, take, drop, replicate}
use Rattle.std.specs.List.{flat_map}
use Rattle.std.specs.Int.{w16, cast_unsigned}
use Rattle.byteorder.specs.Endian.{little_bytes}
use Rattle.frame_codec.specs.declared.item.Item.{Item}
use Rattle.frame_codec.specs.Frame.{Fields}
use Rattle.fr_decoder.specs.Speech.{IsSpeech}
use Rattle.fr_decoder.specs.Decoding as decoding
use Rattle.substitution.specs.declared.heard.Heard.{Heard}
use Rattle.substitution.specs.declared.heard.Heard.TheVariants.{Nothing, Speech}
use Rattle.substitution.specs.Masking.{IsMasking, Kept, Masks}

-- the fields that are decoded, in the order of time
abbrev pub spoken : List Heard → List Fields
spoken [] = []
spoken (Nothing ∷ heard) = spoken heard
spoken (Speech p ∷ heard) = p ∷ spoken heard

-- 160 samples for each place: zeros where nothing is decoded, and the next of the speech elsewhere
abbrev pub laid_out : List Heard → List ℤ → List ℤ
laid_out [] speech = []
laid_out (Nothing ∷ heard) speech = replicate 160 (pos 0) ++ laid_out heard speech
laid_out (Speech p ∷ heard) speech = take 160 speech ++ laid_out heard (drop 160 speech)

-- The samples are what is heard of a list of items: decoded speech of its masking, and zeros where the line is idle, which take no time of the decoder.
pub record IsHeard (seed : List ℕ) (items : List Item) (samples : List ℤ) : Type 0 where
  pub heard : List Heard
  pub masking : IsMasking seed items heard
  pub speech : List ℤ
  pub decoded : IsSpeech (spoken heard) speech
  pub laid : samples ≡ laid_out heard speech

-- the octets of samples, two for each, the low octet first
abbrev pub sample_octets : List ℤ → List ℕ
sample_octets samples = flat_map (λ sample. little_bytes 2 (cast_unsigned w16 sample)) samples

-- heard PCM: the octets of what is heard
pub record IsHeardPcm (seed : List ℕ) (items : List Item) (octets : List ℕ) : Type 0 where
  pub samples : List ℤ
  pub heard : IsHeard seed items samples
  pub written : octets ≡ sample_octets samples

-- what a voice keeps between items
pub record Sounding : Type 0 where
  pub masker : Kept
  pub decoder : decoding.Kept

-- A voice stands after a list of items: the samples that it gave are what is heard of them, and it keeps what the next item needs.
pub record Voices (seed : List ℕ) (items : List Item) (samples : List ℤ) (voice : Sounding) : Type 0 where
  pub heard : IsHeard seed items samples
  pub masks : Masks seed items heard.heard voice.masker
  pub decodes : decoding.Decodes (spoken heard.heard) heard.speech voice.decoder
