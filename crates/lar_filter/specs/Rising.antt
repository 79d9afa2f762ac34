-- One sample in the lattice of the analysis filter: GSM 06.10 section 5.2.10.
use Rattle.std.specs.Prelude.{◌≡◌, ℕ, ◌+◌, ◌<◌, ℤ, List}
use Rattle.fixed_arith.specs.Word.{add_words, mult_r_words}
use Rattle.fixed_arith.specs.Signal.{at}

-- d(0) to d(8) and w(0) to w(8) at a sample x, with the coefficients rp(1) to rp(8) and the w(0) to w(7) of the sample before
pub record IsRising (rp before : List ℤ) (x : ℤ) (d w : ℕ → ℤ) : Type 0 where
  pub d_foot : d 0 ≡ x
  pub w_foot : w 0 ≡ x
  pub w_up : (i : ℕ) → i < 8 → w (i + 1) ≡ add_words (at before i) (mult_r_words (at rp i) (d i))
  pub d_up : (i : ℕ) → i < 8 → d (i + 1) ≡ add_words (d i) (mult_r_words (at rp i) (at before i))

-- a sample x goes in, y comes out, and w(0) to w(7) are kept
pub record RisesTo (rp before : List ℤ) (x y : ℤ) (after : List ℤ) : Type 0 where
  pub d : ℕ → ℤ
  pub w : ℕ → ℤ
  pub lattice : IsRising rp before x d w
  pub output : y ≡ d 8
  pub kept : (i : ℕ) → i < 8 → at after i ≡ w i
