-- Bounds on words, their products and their shifts.
use Rattle.std.proofs.Common.{◌≡◌, ℕ, suc, ◌+◌, ◌*◌, ◌%◌, ◌^◌, ◌<◌, ◌≤◌, ℤ, pos, negsuc, ◌+ℤ◌, ◌*ℤ◌, ◌<ℤ◌, FitsSigned, to_z, of_z, w16, w32, ◌∙◌, ap, arith, inl, inr}
use Rattle.std.specs.Prelude.{unsigned_abs}
use Rattle.std.specs.Int.{int_shr, leading_zeros}
use Rattle.std.proofs.lemmas.Bool.{cases_lt}
use Rattle.std.proofs.lemmas.Int.{ints, fits_signed_mul, unsigned_abs-mul, int_wrap_fits, wrapping_mul-bits, to_z-of_z, to_z_pos}
use Rattle.std.proofs.lemmas.Nat.{leading_top, pow-add, pow_pos, mul-le, shr_le}
use Rattle.std.proofs.Math.Nat.{pow-le-pow_right, mul-le-mul_right, mul-lt-mul_of_pos_right}
use Rattle.fixed_arith.specs.Word.{IsNorm}

-- a word is a long word
pub long_from_word : (a : ℤ) → FitsSigned w16 a → FitsSigned w32 a
long_from_word a fits = record { sfits = omega arith }

-- the magnitude of a word is at most 2 ^ 15
pub abs_of_word_le : (a : ℤ) → FitsSigned w16 a → unsigned_abs a ≤ 32768
abs_of_word_le (pos n) fits = omega arith
abs_of_word_le (negsuc n) fits = omega arith

-- the magnitude of a product of words is at most 2 ^ 30
pub product_abs_le : (a b : ℤ) → FitsSigned w16 a → FitsSigned w16 b → unsigned_abs (a *ℤ b) ≤ 32768 * 32768
product_abs_le a b fa fb = omega (arith, unsigned_abs-mul a b, mul-le (unsigned_abs a) (unsigned_abs b) 32768 32768 (abs_of_word_le a fa) (abs_of_word_le b fb))

long_from_abs : (z : ℤ) → unsigned_abs z ≤ 32768 * 32768 → FitsSigned w32 z
long_from_abs (pos n) h = record { sfits = omega arith }
long_from_abs (negsuc n) h = record { sfits = omega arith }

-- a product of words is a long word
pub long_from_product : (a b : ℤ) → FitsSigned w16 a → FitsSigned w16 b → FitsSigned w32 (a *ℤ b)
long_from_product a b fa fb = long_from_abs (a *ℤ b) (product_abs_le a b fa fb)

long_from_rounded : (z : ℤ) → unsigned_abs z ≤ 32768 * 32768 → FitsSigned w32 (z +ℤ pos 16384)
long_from_rounded (pos n) h = record { sfits = omega arith }
long_from_rounded (negsuc n) h = omega (arith, ints)

-- a product of words is a long word with the term that rounds it too
pub long_from_rounded_product : (a b : ℤ) → FitsSigned w16 a → FitsSigned w16 b → FitsSigned w32 (a *ℤ b +ℤ pos 16384)
long_from_rounded_product a b fa fb = long_from_rounded (a *ℤ b) (product_abs_le a b fa fb)

-- a long word stays a long word when it is shifted right
pub long_from_shift : (z : ℤ) (k : ℕ) → FitsSigned w32 z → FitsSigned w32 (int_shr z k)
long_from_shift (pos a) k fits = record { sfits = omega (arith, shr_le a k) }
long_from_shift (negsuc a) k fits = record { sfits = omega (arith, shr_le a k) }

-- a word shifted left by at most 15 is a long word
pub long_from_left_shift : (a : ℤ) (n : ℕ) → FitsSigned w16 a → n ≤ 15 → FitsSigned w32 (a *ℤ pos (2 ^ n))
long_from_left_shift a n fits le =
    fits_signed_mul w32 a (pos (2 ^ n)) 32768 32768 (abs_of_word_le a fits) (pow-le-pow_right {n = 2} (omega arith) le) (omega arith)

-- what the code's shift to the left gives
pub shl_word : (a : ℤ) (n : ℕ) → FitsSigned w16 a → n ≤ 15 → to_z w32 ((of_z w32 a * 2 ^ n) % 2 ^ 32) ≡ a *ℤ pos (2 ^ n)
shl_word a n fits le =
    let long : FitsSigned w32 a = long_from_word a fits in
    let power : 2 ^ n ≤ 2 ^ 15 = pow-le-pow_right {n = 2} (omega arith) le in
    let first : to_z w32 (of_z w32 a) ≡ a = to_z-of_z w32 a long in
    let second : to_z w32 (2 ^ n) ≡ pos (2 ^ n) = to_z_pos w32 (2 ^ n) (omega arith) in
    wrapping_mul-bits w32 (of_z w32 a) (2 ^ n) (omega (arith, ints)) (omega arith)
    ∙ (rw (first, second) (int_wrap_fits w32 (a *ℤ pos (2 ^ n)) (long_from_left_shift a n fits le)))

-- with its highest digit at place j, a number takes 30 - j shifts
pub normal : (a n j : ℕ) → j + n ≡ 30 → 2 ^ j ≤ a → a < 2 ^ suc j → IsNorm a n
normal a n j places low high =
    let above : suc j + n ≡ 31 = omega arith in
    record {
      at_least = omega (arith, pow-add 2 j n, ap (λ (k : ℕ). 2 ^ k) places, mul-le-mul_right (2 ^ n) low);
      below = omega (arith, pow-add 2 (suc j) n, ap (λ (k : ℕ). 2 ^ k) above, mul-lt-mul_of_pos_right high (pow_pos n));
    }

-- where the highest digit of a long word above 0 is
pub record HighestDigit (a clear : ℕ) : Type 0 where
  pub place : ℕ
  pub count : place + clear ≡ 31
  pub within : place < 31
  pub low : 2 ^ place ≤ a
  pub high : a < 2 ^ suc place

digit_of : (a clear : ℕ) → a < 2 ^ 31 → (j : ℕ) × (clear + suc j ≡ 32) × (2 ^ j ≤ a) × (a < 2 ^ suc j) → HighestDigit a clear
digit_of a clear top found = record {
  place = found.0;
  count = omega (arith, found.1);
  within = elim (cases_lt found.0 31) [
    | inl below ↦ below
    | inr above ↦ absurd (omega (arith, pow-le-pow_right {n = 2} (omega arith) above, found.2))
  ];
  low = found.2;
  high = found.3;
}

-- the zeros in front of a long word above 0 tell where its highest digit is
pub highest_digit : (a : ℤ) → FitsSigned w32 a → pos 0 <ℤ a → HighestDigit (unsigned_abs a) (leading_zeros w32 (of_z w32 a))
highest_digit (pos n) fits above = digit_of n (leading_zeros w32 n) (omega arith) (leading_top 32 n (omega (arith, ints)) (omega arith))
highest_digit (negsuc n) fits above = absurd (omega (arith, ints))

-- a word stays a word when it is shifted right
pub word_from_shift : (z : ℤ) (k : ℕ) → FitsSigned w16 z → FitsSigned w16 (int_shr z k)
word_from_shift (pos a) k fits = record { sfits = omega (arith, shr_le a k) }
word_from_shift (negsuc a) k fits = record { sfits = omega (arith, shr_le a k) }
