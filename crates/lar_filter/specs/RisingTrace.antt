-- The analysis filter as equations in two indices, the stage and the time: GSM 06.10 section 5.2.10.
use Rattle.std.specs.Prelude.{◌≡◌, ℕ, ◌+◌, ◌<◌, ℤ, List, length}
use Rattle.fixed_arith.specs.Word.{add_words, mult_r_words}
use Rattle.fixed_arith.specs.Signal.{at}
use Rattle.lar_filter.specs.Trace.{since, coefficients_at, sample_at}

-- Some d(i,t) and w(i,t) solve the equations at each time of the inputs, and give the outputs and what is kept.
pub record RisesOver (before : List ℤ) (inputs : List (List ℤ × ℤ)) (ys after : List ℤ) : Type 0 where
  pub d : ℕ → ℕ → ℤ
  pub w : ℕ → ℕ → ℤ
  pub d_foot : (t : ℕ) → t < length inputs → d 0 t ≡ sample_at inputs t
  pub w_foot : (t : ℕ) → t < length inputs → w 0 t ≡ sample_at inputs t
  pub d_up : (i t : ℕ) → i < 8 → t < length inputs
      → d (i + 1) t ≡ add_words (d i t) (mult_r_words (at (coefficients_at inputs t) i) (since (at before i) (w i) t))
  pub w_up : (i t : ℕ) → i < 8 → t < length inputs
      → w (i + 1) t ≡ add_words (since (at before i) (w i) t) (mult_r_words (at (coefficients_at inputs t) i) (d i t))
  pub count : length ys ≡ length inputs
  pub output : (t : ℕ) → t < length inputs → at ys t ≡ d 8 t
  pub kept : (i : ℕ) → i < 8 → at after i ≡ since (at before i) (w i) (length inputs)
