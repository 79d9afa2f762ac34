-- What the codes of ITU-T G.711 stand for, in samples of 16 bits, and which code a sample has.
use Rattle.std.specs.Prelude.{◌≡◌, ◌⊎◌, ℕ, ◌+◌, ◌-◌, ◌*◌, ◌/◌, ◌%◌, ◌^◌, ◌==◌, ◌<◌, ◌≤◌, Bool, not, if◌then◌else◌, ℤ, pos, ◌-ℤ◌, unsigned_abs}
use Rattle.std.specs.Prelude.{neg_ℤ}
use Rattle.std.specs.Int.Bits.{bit_xor}
use Rattle.g711_leg.specs.declared.law.Law.{Law}
use Rattle.g711_leg.specs.declared.law.Law.TheVariants.{Mu, A}

-- the bits of a code are the sign, three bits of segment and four bits of step
abbrev pub segment : ℕ → ℕ
segment u = u / 16 % 8

abbrev pub step : ℕ → ℕ
step u = u % 16

-- mu-law sends the complement of the bits, A-law inverts the even ones
unfoldable pub bits_of : Law → ℕ → ℕ
bits_of Mu code = 255 - code
bits_of A code = bit_xor code 85

-- the magnitude by the bits of segment and step
unfoldable pub magnitude_of : Law → ℕ → ℕ
magnitude_of Mu u = (step u * 8 + 132) * 2 ^ segment u - 132
magnitude_of A u = if segment u == 0 then step u * 16 + 8 else (step u * 16 + 264) * 2 ^ (segment u - 1)

-- the bit of sign is set for a negative value in mu-law, for a positive one in A-law
abbrev pub is_negative : Law → ℕ → Bool
is_negative Mu u = u / 128 == 1
is_negative A u = not (u / 128 == 1)

-- the sample of a code
unfoldable pub value_of : Law → ℕ → ℤ
value_of law code =
    let size = pos (magnitude_of law (bits_of law code)) in
    if is_negative law (bits_of law code) then neg_ℤ size else size

-- how far the sample of a code is away from this sample
abbrev pub distance : Law → ℤ → ℕ → ℕ
distance law sample code = unsigned_abs (sample -ℤ value_of law code)

-- c is nearer than d; or as near, and of the smaller magnitude; or as near and of the same magnitude, and no smaller a code
abbrev pub IsAsGood : Law → ℤ → ℕ → ℕ → Type 0
IsAsGood law sample c d =
    (distance law sample c < distance law sample d)
    ⊎ ((distance law sample c ≡ distance law sample d)
    × ((unsigned_abs (value_of law c) < unsigned_abs (value_of law d))
    ⊎ ((unsigned_abs (value_of law c) ≡ unsigned_abs (value_of law d)) × (d ≤ c))))

-- no code is better for the sample
abbrev pub IsCompressed : Law → ℤ → ℕ → Type 0
IsCompressed law sample code = (code < 256) × ((d : ℕ) → d < 256 → IsAsGood law sample code d)

-- the code that a code's sample is compressed to: in mu-law the 0 with the sign of negative values gives the other 0
abbrev pub back_of : Law → ℕ → ℕ
back_of Mu code = if code == 127 then 255 else code
back_of A code = code

-- what is expanded and compressed
abbrev pub ComesBack : Type 0
ComesBack = (law : Law) (code c : ℕ) → code < 256 → IsCompressed law (value_of law code) c → c ≡ back_of law code
