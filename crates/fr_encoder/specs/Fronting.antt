-- What the front keeps between pieces, and how it stands after a whole list of them.
use Rattle.std.specs.Prelude.{◌≡◌, ℕ, ◌+◌, ◌*◌, ◌/◌, ◌%◌, ◌<◌, ℤ, pos, List, [], ◌∷◌, ◌++◌, length, replicate}
use Rattle.fixed_arith.specs.Signal.{at, past}
use Rattle.lar_filter.specs.Autocorrelation.{onward}
use Rattle.lar_filter.specs.Runs.{Runs}
use Rattle.lar_filter.specs.Rising.{RisesTo}
use Rattle.lar_filter.specs.Parts.{IsFed}
use Rattle.fr_encoder.specs.Preprocessing.{Offset, at_rest, offset_after, preprocessed}
use Rattle.fr_encoder.specs.ShortTerm.{piece_at, codes_of_piece, codes_at, ratio, coefficient, IsShortTerm}

-- what is kept between pieces: of the preprocessing, the ratios of the last piece, and of the filter
pub record Kept : Type 0 where
  pub offset : Offset
  pub ratios : List ℤ
  pub filter : List ℤ

-- After the samples, each piece was preprocessed, coded and scaled, and went through the filter from rest; the last of each are kept.
pub record Carries (samples : List ℤ) (codes : List (List ℕ)) (residual : List ℤ) (kept : Kept) : Type 0 where
  pub s : List ℤ
  pub values : List ℤ
  pub inputs : List (List ℤ × ℤ)
  pub whole : length samples ≡ 160 * length codes
  pub size : length s ≡ 160 * length codes
  pub offset : kept.offset ≡ offset_after at_rest samples (160 * length codes)
  pub emphasis : (t : ℕ) → t < 160 * length codes → at s t ≡ preprocessed at_rest samples t
  pub coded : (f : ℕ) → f < length codes → codes_at codes f ≡ codes_of_piece (piece_at s f)
  pub values_size : length values ≡ 160 * length codes
  pub values_are : (t : ℕ) → t < 160 * length codes → at values t ≡ at (onward (piece_at s (t / 160))) (t % 160)
  pub fed : IsFed (coefficient codes) 0 values inputs
  pub run : Runs RisesTo (replicate 8 (pos 0)) inputs residual kept.filter
  pub ratios : (i : ℕ) → i < 8 → at kept.ratios i ≡ past (ratio codes i) (length codes) 1
  pub count : length residual ≡ 160 * length codes

-- The front stands after a list of pieces, whose samples these are: it gave their codes and their residual, and it keeps what the next piece needs.
pub record Fronts (samples : List ℤ) (codes : List (List ℕ)) (residual : List ℤ) (kept : Kept) : Type 0 where
  pub short_term : IsShortTerm samples codes residual
  pub carried : Carries samples codes residual kept

-- After any pieces, the samples of one more gave these codes of its ratios, and this residual.
abbrev pub FrontsOn : Kept → Kept → List ℤ → List ℕ → List ℤ → Type 0
FrontsOn old new piece larc d =
    (before : List ℤ) (codes : List (List ℕ)) (residual : List ℤ) → Fronts before codes residual old → Fronts (before ++ piece) (codes ++ larc ∷ []) (residual ++ d) new
