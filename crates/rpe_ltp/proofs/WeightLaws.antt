-- Bounds of the weighting and of the grid.
use Rattle.std.proofs.Common.{◌≡◌, ℕ, zero, suc, ◌+◌, ◌*◌, ◌^◌, ◌<◌, ◌≤◌, ℤ, pos, ◌+ℤ◌, ◌*ℤ◌, List, refl, arith, FitsSigned, w16, w32, inl, inr}
use Rattle.std.specs.Prelude.{unsigned_abs}
use Rattle.std.specs.Int.{int_shr}
use Rattle.std.proofs.lemmas.Bool.{cases_lt}
use Rattle.std.proofs.lemmas.Int.{ints, unsigned_abs-mul, fits_signed_from_abs}
use Rattle.std.proofs.Math.Nat.{mul-le-mul, mul-le-mul_left}
use Rattle.fixed_arith.specs.Sums.{sum_below}
use Rattle.fixed_arith.specs.SumLaws.{abs_add_le, sum_abs_le, sum_same}
use Rattle.fixed_arith.specs.Signal.{at}
use Rattle.rpe_ltp.specs.Weighting.{response, weighted}
use Rattle.rpe_ltp.proofs.LagLaws.{shr_small}

-- the sum of the first magnitudes
unfoldable pub reach : List ℤ → ℕ → ℕ
reach hs zero = 0
reach hs (suc n) = reach hs n + unsigned_abs (at hs n)

taps_small : (hs : List ℤ) (f : ℕ → ℤ) (b n : ℕ) → ((i : ℕ) → unsigned_abs (f i) ≤ b) → unsigned_abs (sum_below (λ i. at hs i *ℤ f i) n) ≤ reach hs n * b
unfolding reach sum_below
taps_small hs f b zero small = omega arith
taps_small hs f b (suc n) small =
    let term : unsigned_abs (at hs n) * unsigned_abs (f n) ≤ unsigned_abs (at hs n) * b = mul-le-mul_left (unsigned_abs (at hs n)) (small n) in
    omega (arith, abs_add_le (sum_below (λ i. at hs i *ℤ f i) n) (at hs n *ℤ f n), taps_small hs f b n small, unsigned_abs-mul (at hs n) (f n), term)

reach_le : (hs : List ℤ) (m n : ℕ) → m ≤ n → reach hs m ≤ reach hs n
unfolding reach
reach_le hs m zero le = let e : m ≡ 0 = omega arith in rw e (omega arith)
reach_le hs m (suc n) le = elim (cases_lt m (suc n)) [
  | inl below ↦ let inside : m ≤ n = omega arith in omega (arith, reach_le hs m n inside)
  | inr same ↦ let e : m ≡ suc n = omega arith in rw e (omega arith)
]

reach_whole : reach response 11 ≡ 24798
unfolding reach
reach_whole = refl

pub taps_below : (f : ℕ → ℤ) (n : ℕ) → ((i : ℕ) → unsigned_abs (f i) ≤ 2 ^ 15) → n ≤ 11 → unsigned_abs (sum_below (λ i. at response i *ℤ f i) n) ≤ 24798 * 2 ^ 15
taps_below f n small most =
    let bound : reach response n ≤ 24798 = rw reach_whole at (reach_le response n 11 most) in
    omega (arith, taps_small response f (2 ^ 15) n small, bound)

pub taps_fit : (f : ℕ → ℤ) (n : ℕ) → ((i : ℕ) → unsigned_abs (f i) ≤ 2 ^ 15) → n ≤ 11 → FitsSigned w32 (sum_below (λ i. at response i *ℤ f i) n)
taps_fit f n small most = fits_signed_from_abs w32 _ (omega (arith, taps_below f n small most))

pub rounded_fits : (z : ℤ) → unsigned_abs z ≤ 24798 * 2 ^ 15 → FitsSigned w32 (z +ℤ pos 4096)
rounded_fits z small = fits_signed_from_abs w32 (z +ℤ pos 4096) (omega (arith, ints))

pub quarter_square : (x : ℤ) → FitsSigned w16 x → unsigned_abs (int_shr x 2 *ℤ int_shr x 2) ≤ 2 ^ 26
quarter_square x fits =
    let whole : unsigned_abs x ≤ 2 ^ 13 * 2 ^ 2 = omega (arith, ints, fits) in
    let shifted : unsigned_abs (int_shr x 2) ≤ 2 ^ 13 = shr_small x 2 (2 ^ 13) whole in
    omega (arith, unsigned_abs-mul (int_shr x 2) (int_shr x 2), mul-le-mul shifted shifted)

pub weighted_same : (f g : ℕ → ℤ) → ((i : ℕ) → i < 11 → f i ≡ g i) → weighted f ≡ weighted g
unfolding weighted
weighted_same f g same = rw (sum_same (λ i. at response i *ℤ f i) (λ i. at response i *ℤ g i) 11 (λ i h. rw (same i h) refl)) refl

pub quarters_fit : (x : List ℤ) (m n : ℕ) → ((j : ℕ) → unsigned_abs (int_shr (at x j) 2 *ℤ int_shr (at x j) 2) ≤ 2 ^ 26) → n ≤ 13
    → FitsSigned w32 (sum_below (λ i. int_shr (at x (m + 3 * i)) 2 *ℤ int_shr (at x (m + 3 * i)) 2) n)
quarters_fit x m n small most =
    fits_signed_from_abs w32 _ (omega (arith, sum_abs_le (λ i. int_shr (at x (m + 3 * i)) 2 *ℤ int_shr (at x (m + 3 * i)) 2) (2 ^ 26) n (λ i h. small (m + 3 * i))))
