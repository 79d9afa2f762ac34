-- The one code that is best for a sample, as a function.
use Rattle.std.specs.Prelude.{ℕ, zero, suc, ◌==◌, ◌&&◌, ◌||◌, Bool, nat_lt, nat_le, if◌then◌else◌, ℤ, unsigned_abs}
use Rattle.g711_leg.specs.declared.law.Law.{Law}
use Rattle.g711_leg.specs.Codes.{distance, value_of}

-- the code c is nearer than d, or as near and of no greater magnitude
abbrev pub is_better : Law → ℤ → ℕ → ℕ → Bool
is_better law sample c d =
    nat_lt (distance law sample c) (distance law sample d)
    || (distance law sample c == distance law sample d && nat_le (unsigned_abs (value_of law c)) (unsigned_abs (value_of law d)))

-- of the codes up to n the best, and of equally good ones the largest
unfoldable pub best_to : Law → ℤ → ℕ → ℕ
best_to law sample zero = 0
best_to law sample (suc n) = if is_better law sample (suc n) (best_to law sample n) then suc n else best_to law sample n

-- of all codes: the one that `IsCompressed` tells
unfoldable pub code_of : Law → ℤ → ℕ
code_of law sample = best_to law sample 255
