-- Word arithmetic on whole numbers that have no width (GSM 06.10 section 5.1): words have 16 bits, long words 32, two's complement.
use Rattle.std.specs.Prelude.{ℕ, zero, ◌-◌, ◌*◌, ◌^◌, ◌≤◌, ◌<◌, ℤ, pos, ◌+ℤ◌, ◌-ℤ◌, ◌*ℤ◌, unsigned_abs, int_div}
use Rattle.std.specs.Int.{w32, int_shr, int_min, saturate_to_bits, leading_zeros}

-- x limited to the words, from -32768 to 32767
unfoldable pub clip_word : ℤ → ℤ
clip_word x = saturate_to_bits 15 x

-- x limited to the long words, from -2147483648 to 2147483647
unfoldable pub clip_long : ℤ → ℤ
clip_long x = saturate_to_bits 31 x

-- the sum of words, limited
unfoldable pub add_words : ℤ → ℤ → ℤ
add_words a b = clip_word (a +ℤ b)

-- the difference of words, limited
unfoldable pub sub_words : ℤ → ℤ → ℤ
sub_words a b = clip_word (a -ℤ b)

-- the sum of long words, limited
unfoldable pub add_longs : ℤ → ℤ → ℤ
add_longs a b = clip_long (a +ℤ b)

-- the difference of long words, limited
unfoldable pub sub_longs : ℤ → ℤ → ℤ
sub_longs a b = clip_long (a -ℤ b)

-- the product of words over 2 ^ 15, rounded down: only that of -32768 with itself has to be limited
unfoldable pub mult_words : ℤ → ℤ → ℤ
mult_words a b = clip_word (int_shr (a *ℤ b) 15)

-- the product of words over 2 ^ 15, rounded to the nearest, and limited
unfoldable pub mult_r_words : ℤ → ℤ → ℤ
mult_r_words a b = clip_word (int_shr (a *ℤ b +ℤ pos 16384) 15)

-- the magnitude, limited to the words
unfoldable pub abs_of_word : ℤ → ℤ
abs_of_word a = clip_word (pos (unsigned_abs a))

-- a / b in units of 1 / 32768 for 0 <= a <= b, rounded down and limited, and 0 where a is 0
unfoldable pub div_words : ℤ → ℤ → ℤ
div_words (pos zero) b = pos 0
div_words a b = int_min (int_div (a *ℤ pos 32768) b) (pos 32767)

-- n left shifts bring a to at least 2 ^ 30 and below 2 ^ 31
pub record IsNorm (a n : ℕ) : Type 0 where
  pub at_least : 2 ^ 30 ≤ a * 2 ^ n
  pub below : a * 2 ^ n < 2 ^ 31

-- the number of left shifts that IsNorm speaks of, by the zeros in front of the highest digit of 32
unfoldable pub norm_of : ℕ → ℕ
norm_of a = leading_zeros w32 a - 1

-- a word shifted left by n places, limited
unfoldable pub shift_word_left : ℤ → ℕ → ℤ
shift_word_left a n = clip_word (a *ℤ pos (2 ^ n))
