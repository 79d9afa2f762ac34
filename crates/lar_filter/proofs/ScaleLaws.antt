-- How far a frame is scaled, and what is left of a sample.
use Rattle.std.proofs.Common.{◌≡◌, ℕ, zero, suc, ◌+◌, ◌-◌, ◌*◌, ◌^◌, ◌<◌, ◌≤◌, ℤ, pos, negsuc, ◌+ℤ◌, ◌*ℤ◌, ◌≤ℤ◌, List, refl, ap, ◌∙◌, arith, FitsSigned, w32}
use Rattle.std.specs.Prelude.{unsigned_abs}
use Rattle.std.specs.Int.{int_shr}
use Rattle.std.proofs.lemmas.Int.{ints, unsigned_abs-mul, fits_signed_from_abs}
use Rattle.std.proofs.Math.Nat.{pow-le-pow_right, mul-le-mul_left, mul-le-mul}
use Rattle.fixed_arith.specs.Word.{clip_word, mult_r_words}
use Rattle.fixed_arith.specs.Sums.{sum_below}
use Rattle.fixed_arith.specs.SumLaws.{sum_abs_le, energy, lagged_le, sum_squares, sum_same}
use Rattle.fixed_arith.specs.Signal.{at}
use Rattle.lar_filter.specs.Autocorrelation.{scaled_word, correlation}

sixteen_le : (n : ℕ) → 4 ≤ n → 16 ≤ 2 ^ n
sixteen_le n h = pow-le-pow_right {n = 2} (omega arith) h

pub scale_fits : (t n : ℕ) → t * 65536 * 2 ^ n < 2 ^ 31 → t < 2 ^ (11 + (4 - n))
scale_fits t zero h = omega arith
scale_fits t (suc zero) h = omega arith
scale_fits t (suc (suc zero)) h = omega arith
scale_fits t (suc (suc (suc zero))) h = omega arith
scale_fits t (suc (suc (suc (suc n)))) h =
    let none : 4 - suc (suc (suc (suc n))) ≡ 0 = omega arith in
    let power : 16 ≤ 2 ^ suc (suc (suc (suc n))) = sixteen_le (suc (suc (suc (suc n)))) (omega arith) in
    let more : t * 65536 * 16 ≤ t * 65536 * 2 ^ suc (suc (suc (suc n))) = mul-le-mul_left (t * 65536) power in
    rw none (omega arith)

shr_between : (z : ℤ) (m : ℕ) → z ≤ℤ pos (m * 32768 + 16384) → pos 0 ≤ℤ (z +ℤ pos (m * 32768)) → unsigned_abs (int_shr z 15) ≤ m
shr_between (pos q) m up low = omega (arith, ints)
shr_between (negsuc q) m up low = omega (arith, ints)

clip_abs_le : (z : ℤ) → unsigned_abs (clip_word z) ≤ unsigned_abs z
unfolding clip_word
clip_abs_le (pos n) = omega arith
clip_abs_le (negsuc n) = omega arith

rounded_between : (z : ℤ) (m : ℕ) → unsigned_abs z ≤ m * 32768 → unsigned_abs (int_shr (z +ℤ pos 16384) 15) ≤ m
rounded_between z m le = shr_between (z +ℤ pos 16384) m (omega (arith, ints)) (omega (arith, ints))

-- the product of small numbers
pub product_small : (a b : ℤ) (m n : ℕ) → unsigned_abs a ≤ m → unsigned_abs b ≤ n → unsigned_abs (a *ℤ b) ≤ m * n
product_small a b m n am bn = omega (arith, unsigned_abs-mul a b, mul-le-mul am bn)

pub mult_r_small : (x : ℤ) (f b m : ℕ) → unsigned_abs x ≤ b → b * f ≡ m * 32768 → unsigned_abs (mult_r_words x (pos f)) ≤ m
unfolding mult_r_words
mult_r_small x f b m small whole =
    let product : unsigned_abs (x *ℤ pos f) ≤ b * f = product_small x (pos f) b f small (omega arith) in
    omega (arith, clip_abs_le (int_shr (x *ℤ pos f +ℤ pos 16384) 15), rounded_between (x *ℤ pos f) m (omega arith))

pub scaled_small : (x : ℤ) (n : ℕ) → n ≤ 4 → unsigned_abs x ≤ 2 ^ (11 + n) → unsigned_abs (scaled_word n x) ≤ 2048
unfolding scaled_word
scaled_small x zero most le = omega arith
scaled_small x (suc zero) most le = mult_r_small x 16384 4096 2048 (omega arith) refl
scaled_small x (suc (suc zero)) most le = mult_r_small x 8192 8192 2048 (omega arith) refl
scaled_small x (suc (suc (suc zero))) most le = mult_r_small x 4096 16384 2048 (omega arith) refl
scaled_small x (suc (suc (suc (suc zero)))) most le = mult_r_small x 2048 32768 2048 (omega arith) refl
scaled_small x (suc (suc (suc (suc (suc n))))) most le = absurd (omega arith)

-- what the sum of such products can reach
pub lagged_small : (xs : List ℤ) (k n : ℕ) → ((i : ℕ) → unsigned_abs (at xs i) ≤ 2048) → unsigned_abs (sum_below (λ i. at xs (i + k) *ℤ at xs i) n) ≤ n * (2048 * 2048)
lagged_small xs k n small = sum_abs_le (λ i. at xs (i + k) *ℤ at xs i) (2048 * 2048) n (λ i h. product_small (at xs (i + k)) (at xs i) 2048 2048 (small (i + k)) (small i))

pub lagged_fits : (xs : List ℤ) (k n : ℕ) → ((i : ℕ) → unsigned_abs (at xs i) ≤ 2048) → n ≤ 160 → FitsSigned w32 (sum_below (λ i. at xs (i + k) *ℤ at xs i) n)
lagged_fits xs k n small most = fits_signed_from_abs w32 _ (omega (arith, lagged_small xs k n small))

pub lagged_fits_twice : (xs : List ℤ) (k n : ℕ) → ((i : ℕ) → unsigned_abs (at xs i) ≤ 2048) → n ≤ 160 → FitsSigned w32 (sum_below (λ i. at xs (i + k) *ℤ at xs i) n *ℤ pos 2)
lagged_fits_twice xs k n small most =
    fits_signed_from_abs w32 _ (omega (arith, unsigned_abs-mul (sum_below (λ i. at xs (i + k) *ℤ at xs i) n) (pos 2), lagged_small xs k n small))

-- the first value is the energy
first_is : (xs : List ℤ) → correlation xs 0 ≡ pos (energy (at xs) 160) *ℤ pos 2
unfolding correlation
first_is xs =
    let same : sum_below (λ i. at xs (i + 0) *ℤ at xs i) 160 ≡ sum_below (λ i. at xs i *ℤ at xs i) 160 =
    sum_same (λ i. at xs (i + 0) *ℤ at xs i) (λ i. at xs i *ℤ at xs i) 160 (λ i h. let e : i + 0 ≡ i = omega arith in rw e refl) in
    ap (λ z. z *ℤ pos 2) (same ∙ sum_squares (at xs) 160)

pub correlation_le_first : (xs : List ℤ) (k : ℕ) → k ≤ 8 → unsigned_abs (correlation xs k) ≤ unsigned_abs (correlation xs 0)
unfolding correlation
correlation_le_first xs k most =
    let whole : 160 - k + k ≡ 160 = omega arith in
    let first : unsigned_abs (correlation xs 0) ≡ energy (at xs) 160 * 2 = ap unsigned_abs (first_is xs) in
    let lagged = rw whole at (lagged_le (at xs) (160 - k) k) in
    rw first (omega (arith, lagged, unsigned_abs-mul (sum_below (λ i. at xs (i + k) *ℤ at xs i) (160 - k)) (pos 2)))

pub first_sign : (xs : List ℤ) → pos 0 ≤ℤ correlation xs 0
first_sign xs = rw (first_is xs) (omega (arith, ints))
