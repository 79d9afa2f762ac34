-- What a decoder keeps between frames, and how it stands after a whole list of them.
use Rattle.std.specs.Prelude.{◌≡◌, ℕ, ◌+◌, ◌*◌, ◌<◌, ℤ, pos, List, ◌++◌, length, replicate}
use Rattle.fixed_arith.specs.Signal.{at, past}
use Rattle.frame_codec.specs.Frame.{Fields}
use Rattle.lar_filter.specs.Parts.{IsFed}
use Rattle.lar_filter.specs.Runs.{Runs}
use Rattle.lar_filter.specs.Lattice.{StepsTo}
use Rattle.rpe_ltp.specs.LongTerm.{Memory, Remembers}
use Rattle.fr_decoder.specs.Deemphasis.{emphasis_after, output_of}
use Rattle.fr_decoder.specs.Speech.{sub_frames, ratio, coefficient, IsSpeech}

-- what is kept between frames: of the long-term part, the ratios of the last frame, of the filter, and the last de-emphasised value
pub record Kept : Type 0 where
  pub long_term : Memory
  pub ratios : List ℤ
  pub filter : List ℤ
  pub emphasis : ℤ

-- After the frames, values of the long-term part went through the filter from rest, and were de-emphasised; the last of each are kept.
pub record Carries (frames : List Fields) (samples : List ℤ) (kept : Kept) : Type 0 where
  pub residual : List ℤ
  pub inputs : List (List ℤ × ℤ)
  pub filtered : List ℤ
  pub size : length residual ≡ 160 * length frames
  pub long_term : Remembers (sub_frames frames) residual kept.long_term
  pub fed : IsFed (coefficient frames) 0 residual inputs
  pub run : Runs StepsTo (replicate 8 (pos 0)) inputs filtered kept.filter
  pub filtered_size : length filtered ≡ 160 * length frames
  pub ratios : (i : ℕ) → i < 8 → at kept.ratios i ≡ past (ratio frames i) (length frames) 1
  pub emphasis : kept.emphasis ≡ emphasis_after (pos 0) filtered (160 * length frames)
  pub count : length samples ≡ 160 * length frames
  pub output : (t : ℕ) → t < 160 * length frames → at samples t ≡ output_of (emphasis_after (pos 0) filtered (t + 1))

-- A decoder stands after a list of frames: the samples that it gave are their decoded speech, and it keeps what the next frame needs.
pub record Decodes (frames : List Fields) (samples : List ℤ) (kept : Kept) : Type 0 where
  pub speech : IsSpeech frames samples
  pub carried : Carries frames samples kept
