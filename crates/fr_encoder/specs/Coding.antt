-- Coded speech: one set of equations over the sample time of a whole list of pieces (a profile of GSM 06.10 section 5.2).
-- Time t counts samples from 0. A piece has 160 of them, and becomes a frame of four sub-frames.
use Rattle.std.specs.Prelude.{◌≡◌, ℕ, ◌*◌, ◌<◌, ℤ, List, All, length, map, flat_map}
use Rattle.frame_codec.specs.declared.params.SubParams.{SubParams}
use Rattle.frame_codec.specs.Frame.{Fields, IsWithinWidths}
use Rattle.rpe_ltp.specs.LongTerm.{sub_at, IsLongTerm, Memory}
use Rattle.fr_encoder.specs.ShortTerm.{IsShortTerm}
use Rattle.fr_encoder.specs.Fronting.{Kept, Fronts}
use Rattle.fr_encoder.specs.Excitation.{IsExcitation, Excites}

-- the codes of the log area ratios of each frame
abbrev pub ratio_codes : List Fields → List (List ℕ)
ratio_codes frames = map (λ frame. frame.larc) frames

-- the sub-frames of all frames, in the order of time
abbrev pub sub_frames : List Fields → List SubParams
sub_frames frames = flat_map (λ frame. frame.sub) frames

-- The frames are the coded speech of the samples: d is the short-term residual, and dp what a decoder reconstructs of it from the frames.
pub record IsCoded (samples : List ℤ) (frames : List Fields) : Type 0 where
  pub d : List ℤ
  pub dp : List ℤ
  pub widths : All IsWithinWidths frames
  pub count : length (sub_frames frames) ≡ 4 * length frames
  pub short_term : IsShortTerm samples (ratio_codes frames) d
  pub excitation : (j : ℕ) → j < 4 * length frames → IsExcitation d dp (40 * j) (sub_at (sub_frames frames) j)
  pub long_term : IsLongTerm (sub_frames frames) dp

-- what is kept between pieces: of the front, and of the long-term part
pub record Held : Type 0 where
  pub front : Kept
  pub long_term : Memory

-- After the samples stand the front, which gave the residual, and the sub-frames that were made of it.
pub record Holds (samples : List ℤ) (frames : List Fields) (held : Held) : Type 0 where
  pub d : List ℤ
  pub front : Fronts samples (ratio_codes frames) d held.front
  pub excites : Excites d (sub_frames frames) held.long_term

-- An encoder stands after a list of pieces, whose samples these are: it gave their frames, and it keeps what the next piece needs.
pub record Encodes (samples : List ℤ) (frames : List Fields) (held : Held) : Type 0 where
  pub speech : IsCoded samples frames
  pub carried : Holds samples frames held
