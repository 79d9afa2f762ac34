-- Bounds on long words that are shifted, and on quotients.
use Rattle.std.proofs.Common.{◌≡◌, ℕ, zero, suc, ◌*◌, ◌%◌, ◌^◌, ◌<◌, ◌≤◌, ℤ, pos, negsuc, ◌*ℤ◌, ◌≤ℤ◌, FitsSigned, to_z, of_z, w16, w32, ◌∙◌, arith}
use Rattle.std.specs.Prelude.{unsigned_abs}
use Rattle.std.specs.Int.{int_shr}
use Rattle.std.proofs.lemmas.Int.{ints, clamps, unsigned_abs-mul, int_wrap_fits, wrapping_mul-bits, to_z-of_z, to_z_pos, fits_signed_from_abs}
use Rattle.std.proofs.lemmas.Nat.{pow_below}
use Rattle.std.proofs.Math.Nat.{mul-le-mul_right}
use Rattle.fixed_arith.specs.Word.{IsNorm, div_words}

-- a quotient of words that are not negative is not negative
pub div_words_sign : (a b : ℤ) → pos 0 ≤ℤ a → pos 0 ≤ℤ b → pos 0 ≤ℤ div_words a b
unfolding div_words
div_words_sign (pos zero) b low high = omega (arith, ints)
div_words_sign (pos (suc a)) (pos b) low high = omega (arith, ints, clamps)
div_words_sign (pos (suc a)) (negsuc b) low high = absurd (omega (arith, ints))
div_words_sign (negsuc a) b low high = absurd (omega (arith, ints))

-- what the code's shift of a long word to the left gives
pub shl_long : (a : ℤ) (n : ℕ) → FitsSigned w32 a → n ≤ 30 → FitsSigned w32 (a *ℤ pos (2 ^ n)) → to_z w32 ((of_z w32 a * 2 ^ n) % 2 ^ 32) ≡ a *ℤ pos (2 ^ n)
shl_long a n fits most product =
    let first : to_z w32 (of_z w32 a) ≡ a = to_z-of_z w32 a fits in
    let power : 2 ^ n < 2 ^ 31 = pow_below n 31 (omega arith) in
    let second : to_z w32 (2 ^ n) ≡ pos (2 ^ n) = to_z_pos w32 (2 ^ n) power in
    wrapping_mul-bits w32 (of_z w32 a) (2 ^ n) (omega (arith, ints)) (omega arith)
    ∙ (rw (first, second) (int_wrap_fits w32 (a *ℤ pos (2 ^ n)) product))

-- a value that is not above the first in magnitude fits when it is shifted as the first is
pub normal_fits : (first x : ℤ) (n : ℕ) → pos (unsigned_abs x) ≤ℤ first → IsNorm (unsigned_abs first) n → FitsSigned w32 (x *ℤ pos (2 ^ n))
normal_fits first x n le normal =
    let bound : unsigned_abs x ≤ unsigned_abs first = omega (arith, ints) in
    fits_signed_from_abs w32 (x *ℤ pos (2 ^ n)) (omega (arith, unsigned_abs-mul x (pos (2 ^ n)), mul-le-mul_right (2 ^ n) bound, normal.below))

-- the high half of a long word is a word
pub word_from_long : (z : ℤ) → FitsSigned w32 z → FitsSigned w16 (int_shr z 16)
word_from_long (pos a) fits = record { sfits = omega arith }
word_from_long (negsuc a) fits = record { sfits = omega arith }
