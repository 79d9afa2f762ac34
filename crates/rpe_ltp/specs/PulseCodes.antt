-- The codes of a sub-frame's level and of its thirteen pulses: GSM 06.10 section 5.2.15.
use Rattle.std.specs.Prelude.{◌≡◌, ℕ, ◌+◌, ◌-◌, ◌*◌, ◌/◌, ◌^◌, ◌<◌, ◌≤◌, ℤ, pos, ◌+ℤ◌, ◌*ℤ◌, unsigned_abs, List, [], ◌∷◌, length, slice_index}
use Rattle.std.specs.Int.{int_shr}
use Rattle.fixed_arith.specs.Word.{mult_words}
use Rattle.fixed_arith.specs.Sums.{greatest_of}
use Rattle.fixed_arith.specs.Signal.{at}
use Rattle.rpe_ltp.specs.Pulses.{Level, level_of}

-- the number of binary digits of n, 0 for 0
pub record HasDigits (n digits : ℕ) : Type 0 where
  pub below : n < 2 ^ digits
  pub least : 0 < digits → 2 ^ (digits - 1) ≤ n

-- The code of a greatest magnitude: with the number of digits of top / 512 as its exponent, the leading digits and eight times the exponent (xmaxc).
pub record IsLevelCode (top code : ℕ) : Type 0 where
  pub digits : ℕ
  pub number : HasDigits (top / 512) digits
  pub value : code ≡ top / 2 ^ (digits + 5) + 8 * digits

-- the reciprocal of each mantissa, in units of 1 / 32768 (NRFAC)
abbrev pub reciprocals : List ℤ
reciprocals = pos 29128 ∷ pos 26215 ∷ pos 23832 ∷ pos 21846 ∷ pos 20165 ∷ pos 18725 ∷ pos 17476 ∷ pos 16384 ∷ []

-- the code of a pulse at a level: shifted up by 6 less the exponent, over the mantissa, in eight steps from the least to the greatest
unfoldable pub pulse_code : Level → ℤ → ℤ
pulse_code level x = int_shr (mult_words (x *ℤ pos (2 ^ level.shift)) (at reciprocals level.mantissa)) 12 +ℤ pos 4

-- the codes of a level and its pulses (xmaxc and xMc)
pub record IsApcm (xm : List ℤ) (xmaxc : ℕ) (xmc : List ℕ) : Type 0 where
  pub level : IsLevelCode (unsigned_abs (greatest_of xm)) xmaxc
  pub count : length xmc ≡ length xm
  pub each : (i : ℕ) → i < length xm → pos (slice_index xmc i) ≡ pulse_code (level_of xmaxc) (at xm i)
