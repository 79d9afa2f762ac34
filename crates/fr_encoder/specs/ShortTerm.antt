-- The short-term part of coded speech: one set of equations over the sample time of a whole list of pieces (GSM 06.10 sections 5.2.1 to 5.2.10).
-- Time t counts samples from 0. A piece has 160 of them. Each value before time 0 is 0.
use Rattle.std.specs.Prelude.{◌≡◌, ℕ, ◌+◌, ◌*◌, ◌/◌, ◌%◌, ◌<◌, ℤ, ◌-ℤ◌, List, [], length, get_or, take, drop, nat_lt, if◌then◌else◌}
use Rattle.fixed_arith.specs.Word.{add_words, mult_r_words}
use Rattle.fixed_arith.specs.Signal.{at, past}
use Rattle.lar_filter.specs.Ratios.{ratios_of}
use Rattle.lar_filter.specs.Coefficients.{between, coefficient_of}
use Rattle.lar_filter.specs.Parts.{part_of}
use Rattle.lar_filter.specs.Autocorrelation.{scaled, correlation, onward}
use Rattle.lar_filter.specs.Reflections.{reflections}
use Rattle.lar_filter.specs.Quantising.{codes_from}
use Rattle.fr_encoder.specs.Preprocessing.{offset_word, kept_long, middle_long, emphasised}

-- the values of the f-th piece
unfoldable pub piece_at : List ℤ → ℕ → List ℤ
piece_at values f = take 160 (drop (160 * f) values)

-- the codes of the log area ratios of a piece that was preprocessed (LARc)
unfoldable pub codes_of_piece : List ℤ → List ℕ
codes_of_piece values = codes_from (reflections (correlation (scaled values)))

-- the codes of the f-th piece
abbrev pub codes_at : List (List ℕ) → ℕ → List ℕ
codes_at codes f = get_or codes f []

-- the log area ratio i + 1 that the codes of the f-th piece stand for (LARpp)
unfoldable pub ratio : List (List ℕ) → ℕ → ℕ → ℤ
ratio codes i f = at (ratios_of (codes_at codes f)) i

-- the reflection coefficient i + 1 at time t (rp): of the ratio between that of the piece before, which is 0 before the first, and that of this piece (LARp)
unfoldable pub coefficient : List (List ℕ) → ℕ → ℕ → ℤ
coefficient codes i t = coefficient_of (between (part_of (t % 160)) (past (ratio codes i) (t / 160) 1) (ratio codes i (t / 160)))

-- The codes and the residual are those of the samples: some values solve the equations at each time, and give both.
-- s are the preprocessed samples, d and w the values of the lattice's two ways.
pub record IsShortTerm (samples : List ℤ) (codes : List (List ℕ)) (residual : List ℤ) : Type 0 where
  pub so : ℕ → ℤ
  pub z : ℕ → ℤ
  pub mp : ℕ → ℤ
  pub s : List ℤ
  pub d : ℕ → ℕ → ℤ
  pub w : ℕ → ℕ → ℤ
  pub whole : length samples ≡ 160 * length codes
  pub downscaled : (t : ℕ) → t < 160 * length codes → so t ≡ offset_word (at samples t)
  pub compensated : (t : ℕ) → t < 160 * length codes → z t ≡ kept_long (past z t 1) (so t -ℤ past so t 1)
  pub middle : (t : ℕ) → t < 160 * length codes → mp t ≡ middle_long (z t)
  pub size : length s ≡ 160 * length codes
  pub emphasis : (t : ℕ) → t < 160 * length codes → at s t ≡ emphasised (mp t) (past mp t 1)
  pub coded : (f : ℕ) → f < length codes → codes_at codes f ≡ codes_of_piece (piece_at s f)
  pub d_foot : (t : ℕ) → t < 160 * length codes → d 0 t ≡ at (onward (piece_at s (t / 160))) (t % 160)
  pub w_foot : (t : ℕ) → t < 160 * length codes → w 0 t ≡ at (onward (piece_at s (t / 160))) (t % 160)
  pub d_up : (i t : ℕ) → i < 8 → t < 160 * length codes → d (i + 1) t ≡ add_words (d i t) (mult_r_words (coefficient codes i t) (past (w i) t 1))
  pub w_up : (i t : ℕ) → i < 8 → t < 160 * length codes → w (i + 1) t ≡ add_words (past (w i) t 1) (mult_r_words (coefficient codes i t) (d i t))
  pub count : length residual ≡ 160 * length codes
  pub output : (t : ℕ) → t < 160 * length codes → at residual t ≡ d 8 t
