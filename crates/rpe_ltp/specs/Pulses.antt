-- The level of a sub-frame and its pulses: GSM 06.10 sections 5.2.15 to 5.2.17.
use Rattle.std.specs.Prelude.{ℕ, zero, suc, ◌+◌, ◌-◌, ◌*◌, ◌/◌, ◌%◌, ◌^◌, ℤ, pos, ◌-ℤ◌, ◌*ℤ◌, List, [], ◌∷◌, map, if◌then◌else◌, nat_le, ◌==◌, ◌&&◌}
use Rattle.std.specs.Int.{int_shr}
use Rattle.fixed_arith.specs.Word.{add_words, mult_r_words}
use Rattle.fixed_arith.specs.Signal.{at}
use Rattle.frame_codec.specs.declared.params.SubParams.{SubParams}

-- an exponent and a mantissa; 6 less the exponent is kept as the shift, since the exponent may be below 0
pub record Level : Type 0 where
  pub shift : ℕ
  pub mantissa : ℕ

-- the mantissa m becomes 2 m + 1 until it is above 7, at most three times, and the exponent falls each time; then the mantissa falls by 8
abbrev pub doubled : ℕ → ℕ → ℕ → Level
doubled zero shift mantissa = record { shift = shift; mantissa = mantissa - 8 }
doubled (suc more) shift mantissa = if nat_le mantissa 7 then doubled more (shift + 1) (2 * mantissa + 1) else record { shift = shift; mantissa = mantissa - 8 }

-- the level of a code of 6 bits
unfoldable pub level_of : ℕ → Level
level_of code =
    if code == 0 then record { shift = 10; mantissa = 7 }
    else if nat_le 16 code then record { shift = 7 - code / 8; mantissa = code - (code / 8 - 1) * 8 - 8 }
    else doubled 3 6 code

-- the factor of each mantissa, in units of 1 / 32768 (FAC)
abbrev pub factors : List ℤ
factors = pos 18431 ∷ pos 20479 ∷ pos 22527 ∷ pos 24575 ∷ pos 26623 ∷ pos 28671 ∷ pos 30719 ∷ pos 32767 ∷ []

-- half a step at a shift, and 0 at no shift
abbrev pub half_of : ℕ → ℕ
half_of zero = 0
half_of (suc n) = 2 ^ n

-- the value of a pulse's code of 3 bits
unfoldable pub pulse_of : Level → ℕ → ℤ
pulse_of level code =
    int_shr (add_words (mult_r_words (at factors level.mantissa) ((pos (2 * code) -ℤ pos 7) *ℤ pos 4096)) (pos (half_of level.shift))) level.shift

-- values on every third place from a grid position on, and 0 elsewhere
unfoldable pub spread_at : ℕ → List ℤ → ℕ → ℤ
spread_at grid values k = if nat_le grid k && ((k - grid) % 3 == 0) then at values ((k - grid) / 3) else pos 0

-- the long-term residual of a sub-frame at its k-th place: thirteen pulses on the grid, and 0 elsewhere
abbrev pub excitation_at : SubParams → ℕ → ℤ
excitation_at sub k = spread_at sub.mc (map (pulse_of (level_of sub.xmaxc)) sub.xmc) k
