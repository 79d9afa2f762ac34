-- Decoded speech: one set of equations over the sample time of a whole list of frames (GSM 06.10 section 5.3).
-- Time t counts samples from 0. A frame has 160 of them, in four sub-frames of 40. Each value before time 0 is 0.
use Rattle.std.specs.Prelude.{◌≡◌, ℕ, ◌+◌, ◌*◌, ◌/◌, ◌%◌, ◌<◌, ℤ, pos, List, [], length, get_or, flat_map, nat_lt, if◌then◌else◌}
use Rattle.fixed_arith.specs.Word.{add_words, sub_words, mult_r_words}
use Rattle.fixed_arith.specs.Signal.{at, past}
use Rattle.frame_codec.specs.declared.params.SubParams.{SubParams}
use Rattle.frame_codec.specs.Frame.{Fields}
use Rattle.lar_filter.specs.Ratios.{ratios_of}
use Rattle.lar_filter.specs.Coefficients.{between, coefficient_of}
use Rattle.lar_filter.specs.Parts.{part_of}
use Rattle.rpe_ltp.specs.LongTerm.{residual_at, gain_at, lag_at}
use Rattle.fr_decoder.specs.Deemphasis.{output_of}

-- the f-th frame
abbrev pub frame_at : List Fields → ℕ → Fields
frame_at frames f = get_or frames f (record { larc = []; sub = [] })

-- the sub-frames of all frames, in the order of time
abbrev pub sub_frames : List Fields → List SubParams
sub_frames frames = flat_map (λ frame. frame.sub) frames

-- the log area ratio i + 1 of the f-th frame (LARpp)
unfoldable pub ratio : List Fields → ℕ → ℕ → ℤ
ratio frames i f = at (ratios_of (frame_at frames f).larc) i

-- the reflection coefficient i + 1 at time t (rp): of the ratio between that of the frame before, which is 0 before the first, and that of this frame (LARp)
unfoldable pub coefficient : List Fields → ℕ → ℕ → ℤ
coefficient frames i t = coefficient_of (between (part_of (t % 160)) (past (ratio frames i) (t / 160) 1) (ratio frames i (t / 160)))

-- The samples are the decoded speech of the frames: some values solve the equations at each time, and give the samples.
pub record IsSpeech (frames : List Fields) (samples : List ℤ) : Type 0 where
  pub drp : ℕ → ℤ
  pub s : ℕ → ℕ → ℤ
  pub v : ℕ → ℕ → ℤ
  pub m : ℕ → ℤ
  pub long_term : (t : ℕ) → t < 160 * length frames
      → drp t ≡ add_words (residual_at (sub_frames frames) t) (mult_r_words (gain_at (sub_frames frames) (t / 40)) (past drp t (lag_at (sub_frames frames) (t / 40))))
  pub top : (t : ℕ) → t < 160 * length frames → s 8 t ≡ drp t
  pub down : (i t : ℕ) → i < 8 → t < 160 * length frames → s i t ≡ sub_words (s (i + 1) t) (mult_r_words (coefficient frames i t) (past (v i) t 1))
  pub up : (i t : ℕ) → i < 8 → t < 160 * length frames → v (i + 1) t ≡ add_words (past (v i) t 1) (mult_r_words (coefficient frames i t) (s i t))
  pub foot : (t : ℕ) → t < 160 * length frames → v 0 t ≡ s 0 t
  pub emphasis : (t : ℕ) → t < 160 * length frames → m t ≡ add_words (s 0 t) (mult_r_words (past m t 1) (pos 28180))
  pub count : length samples ≡ 160 * length frames
  pub output : (t : ℕ) → t < 160 * length frames → at samples t ≡ output_of (m t)
