-- Sums of the search for a lag: bounds, and the scan.
use Rattle.std.proofs.Common.{◌≡◌, ℕ, zero, suc, ◌+◌, ◌-◌, ◌*◌, ◌^◌, ◌<◌, ◌≤◌, ℤ, pos, negsuc, ◌*ℤ◌, ◌<ℤ◌, List, refl, ap, sym, arith, FitsSigned, w32, inl, inr}
use Rattle.std.specs.Prelude.{unsigned_abs, ◌⊎◌}
use Rattle.std.specs.Int.{int_shr}
use Rattle.std.proofs.lemmas.Int.{unsigned_abs-mul, fits_signed_from_abs}
use Rattle.std.proofs.lemmas.Nat.{div_below, pow_pos}
use Rattle.std.proofs.Math.Nat.{pow-le-pow_right, mul-le-mul_left, mul-le-mul, div-le_of_le-mul, mul_comm}
use Rattle.fixed_arith.specs.Sums.{sum_below}
use Rattle.fixed_arith.specs.SumLaws.{sum_abs_le, sum_same}
use Rattle.fixed_arith.specs.Signal.{at}
use Rattle.rpe_ltp.specs.History.{back_at}
use Rattle.rpe_ltp.specs.LagSearch.{lag_sum, sum_by_place, IsFirstGreatest, lag_power}

sixty_four_le : (n : ℕ) → 6 ≤ n → 64 ≤ 2 ^ n
sixty_four_le n h = pow-le-pow_right {n = 2} (omega arith) h

pub scale_fits : (t n : ℕ) → t * 65536 * 2 ^ n < 2 ^ 31 → t < 2 ^ (9 + (6 - n))
scale_fits t zero h = omega arith
scale_fits t (suc zero) h = omega arith
scale_fits t (suc (suc zero)) h = omega arith
scale_fits t (suc (suc (suc zero))) h = omega arith
scale_fits t (suc (suc (suc (suc zero)))) h = omega arith
scale_fits t (suc (suc (suc (suc (suc zero))))) h = omega arith
scale_fits t (suc (suc (suc (suc (suc (suc n)))))) h =
    let none : 6 - suc (suc (suc (suc (suc (suc n))))) ≡ 0 = omega arith in
    let power : 64 ≤ 2 ^ suc (suc (suc (suc (suc (suc n))))) = sixty_four_le (suc (suc (suc (suc (suc (suc n)))))) (omega arith) in
    let more : t * 65536 * 64 ≤ t * 65536 * 2 ^ suc (suc (suc (suc (suc (suc n))))) = mul-le-mul_left (t * 65536) power in
    rw none (omega arith)

-- a value below a bound shifted left, shifted right again
pub shr_small : (x : ℤ) (n b : ℕ) → unsigned_abs x ≤ b * 2 ^ n → unsigned_abs (int_shr x n) ≤ b
shr_small (pos a) n b le = div-le_of_le-mul (2 ^ n) (rw (mul_comm (2 ^ n) b) le)
shr_small (negsuc a) n b le = let h : a < b * 2 ^ n = omega arith in omega (arith, div_below a (2 ^ n) b (pow_pos n) h)

pub product_small : (a b : ℤ) → unsigned_abs a ≤ 2 ^ 9 → unsigned_abs b ≤ 2 ^ 15 → unsigned_abs (a *ℤ b) ≤ 2 ^ 24
product_small a b am bn = omega (arith, unsigned_abs-mul a b, mul-le-mul am bn)

-- so far the sum is below 2 ^ 30
pub place_small : (ws kept : List ℤ) (i n : ℕ) → ((k : ℕ) → unsigned_abs (at ws k) ≤ 2 ^ 9) → ((k : ℕ) → unsigned_abs (at kept k) ≤ 2 ^ 15)
    → unsigned_abs (sum_below (λ k. at ws k *ℤ at kept (i + k)) n) ≤ n * 2 ^ 24
place_small ws kept i n scaled words =
    sum_abs_le (λ k. at ws k *ℤ at kept (i + k)) (2 ^ 24) n (λ k h. product_small (at ws k) (at kept (i + k)) (scaled k) (words (i + k)))

pub place_fits : (ws kept : List ℤ) (i n : ℕ) → ((k : ℕ) → unsigned_abs (at ws k) ≤ 2 ^ 9) → ((k : ℕ) → unsigned_abs (at kept k) ≤ 2 ^ 15)
    → n ≤ 40 → FitsSigned w32 (sum_below (λ k. at ws k *ℤ at kept (i + k)) n)
place_fits ws kept i n scaled words most = fits_signed_from_abs w32 _ (omega (arith, place_small ws kept i n scaled words))

-- by lag or by place
pub place_of_lag : (ws kept : List ℤ) (lag : ℕ) → 40 ≤ lag → lag ≤ 120 → sum_by_place ws kept (120 - lag) ≡ lag_sum ws kept lag
unfolding sum_by_place lag_sum
place_of_lag ws kept lag least most =
    sum_same (λ k. at ws k *ℤ at kept (120 - lag + k)) (λ k. at ws k *ℤ back_at kept (lag - k)) 40
    (λ k h. let place : 120 - lag + k ≡ 120 - (lag - k) = omega arith in rw place refl)

-- the sums by lag in place of those by place
pub scan_same : (f g : ℕ → ℤ) (lag : ℕ) (best : ℤ) → ((l : ℕ) → 40 ≤ l → l ≤ 120 → f l ≡ g l) → IsFirstGreatest f 121 lag best → IsFirstGreatest g 121 lag best
scan_same f g lag best same scan = record {
  least = scan.least;
  most = scan.most;
  greatest = λ l low h. rw (sym (same l low (omega arith))) (scan.greatest l low h);
  first = λ l low h. let within : l ≤ 120 = omega (arith, scan.most) in rw (sym (same l low within)) (scan.first l low h);
  value = rw (sym (same lag scan.least scan.most)) scan.value;
}

-- the best sum is one of the sums, or 0
best_abs : (at_lag best : ℤ) (lag b : ℕ) → ((best ≡ at_lag) × (pos 0 <ℤ best)) ⊎ ((best ≡ pos 0) × (lag ≡ 40)) → unsigned_abs at_lag ≤ b → unsigned_abs best ≤ b
best_abs at_lag best lag b (inl some) le = rw some.0 le
best_abs at_lag best lag b (inr none) le = rw none.0 (omega arith)

pub best_small : (f : ℕ → ℤ) (lag : ℕ) (best : ℤ) (b : ℕ) → IsFirstGreatest f 121 lag best → unsigned_abs (f lag) ≤ b → unsigned_abs best ≤ b
best_small f lag best b scan le = best_abs (f lag) best lag b scan.value le

pub product_fits : (a b : ℤ) → unsigned_abs a ≤ 2 ^ 9 → unsigned_abs b ≤ 2 ^ 15 → FitsSigned w32 (a *ℤ b)
product_fits a b am bn = fits_signed_from_abs w32 (a *ℤ b) (omega (arith, product_small a b am bn))

-- the power
square_small : (x : ℤ) → unsigned_abs x ≤ 2 ^ 15 → unsigned_abs (int_shr x 3 *ℤ int_shr x 3) ≤ 2 ^ 24
square_small x small =
    let shifted : unsigned_abs (int_shr x 3) ≤ 2 ^ 12 = shr_small x 3 (2 ^ 12) (omega arith) in
    omega (arith, unsigned_abs-mul (int_shr x 3) (int_shr x 3), mul-le-mul shifted shifted)

squares_small : (kept : List ℤ) (i n : ℕ) → ((k : ℕ) → unsigned_abs (at kept k) ≤ 2 ^ 15) → unsigned_abs (sum_below (λ k. int_shr (at kept (i + k)) 3 *ℤ int_shr (at kept (i + k)) 3) n) ≤ n * 2 ^ 24
squares_small kept i n words = sum_abs_le (λ k. int_shr (at kept (i + k)) 3 *ℤ int_shr (at kept (i + k)) 3) (2 ^ 24) n (λ k h. square_small (at kept (i + k)) (words (i + k)))

pub square_fits : (kept : List ℤ) (i n : ℕ) → ((k : ℕ) → unsigned_abs (at kept k) ≤ 2 ^ 15) → n ≤ 40 → FitsSigned w32 (sum_below (λ k. int_shr (at kept (i + k)) 3 *ℤ int_shr (at kept (i + k)) 3) n)
square_fits kept i n words most = fits_signed_from_abs w32 _ (omega (arith, squares_small kept i n words))

pub square_fits_twice : (kept : List ℤ) (i n : ℕ) → ((k : ℕ) → unsigned_abs (at kept k) ≤ 2 ^ 15) → n ≤ 40 → FitsSigned w32 (sum_below (λ k. int_shr (at kept (i + k)) 3 *ℤ int_shr (at kept (i + k)) 3) n *ℤ pos 2)
square_fits_twice kept i n words most =
    fits_signed_from_abs w32 _ (omega (arith, unsigned_abs-mul (sum_below (λ k. int_shr (at kept (i + k)) 3 *ℤ int_shr (at kept (i + k)) 3) n) (pos 2), squares_small kept i n words))

pub power_is : (kept : List ℤ) (lag : ℕ) → 40 ≤ lag → lag ≤ 120 → sum_below (λ k. int_shr (at kept (120 - lag + k)) 3 *ℤ int_shr (at kept (120 - lag + k)) 3) 40 *ℤ pos 2 ≡ lag_power kept lag
unfolding lag_power
power_is kept lag least most =
    ap (λ z. z *ℤ pos 2) (sum_same (λ k. int_shr (at kept (120 - lag + k)) 3 *ℤ int_shr (at kept (120 - lag + k)) 3) (λ k. int_shr (back_at kept (lag - k)) 3 *ℤ int_shr (back_at kept (lag - k)) 3) 40
    (λ k h. let place : 120 - lag + k ≡ 120 - (lag - k) = omega arith in rw place refl))

pub by_place_small : (ws kept : List ℤ) (i : ℕ) → ((k : ℕ) → unsigned_abs (at ws k) ≤ 2 ^ 9) → ((k : ℕ) → unsigned_abs (at kept k) ≤ 2 ^ 15) → unsigned_abs (sum_by_place ws kept i) ≤ 40 * 2 ^ 24
unfolding sum_by_place
by_place_small ws kept i scaled words = place_small ws kept i 40 scaled words

pub twice_fits : (z : ℤ) → unsigned_abs z ≤ 40 * 2 ^ 24 → FitsSigned w32 (z *ℤ pos 2)
twice_fits z small = fits_signed_from_abs w32 (z *ℤ pos 2) (omega (arith, unsigned_abs-mul z (pos 2)))
