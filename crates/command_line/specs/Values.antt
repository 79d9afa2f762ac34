-- The values of a command line.
use Rattle.std.specs.Prelude.{ℕ, ◌&&◌, Bool, List, length, replicate, Option, Some, None, Result, Ok, Err, if◌then◌else◌, nat_le, nat_lt}
use Rattle.std.specs.List.{list_all}
use Rattle.std.specs.Char.{digit_value}
use Rattle.std.specs.Str.Parse.{digits_value}
use Rattle.hex.specs.Hex.{decode_sized}

-- one decimal digit or more, and nothing else
abbrev pub is_number : List ℕ → Bool
is_number digits = nat_lt 0 (length digits) && list_all (λ d. nat_lt (digit_value d) 10) digits

-- the number that is written, where it is in the range
abbrev pub number_in : ℕ → ℕ → List ℕ → Option ℕ
number_in low high digits =
    if is_number digits && (nat_le low (digits_value 10 digits) && nat_le (digits_value 10 digits) high) then Some (digits_value 10 digits) else None

-- the number that is written, or where none is said the default
abbrev pub number_or : ℕ → ℕ → ℕ → Option (List ℕ) → Option ℕ
number_or low high default None = Some default
number_or low high default (Some digits) = number_in low high digits

abbrev pub read_well : {A E : Type 0} → Result A E → Option A
read_well (Ok x) = Some x
read_well (Err e) = None

-- the 32 octets that 64 hexadecimal digits write
abbrev pub seed_of : List ℕ → Option (List ℕ)
seed_of text = read_well (decode_sized text 32)

-- the seed of a line that says none
abbrev pub no_seed : List ℕ
no_seed = replicate 32 0

-- the seed that is written, or where none is said 32 zero octets
abbrev pub seed_or : Option (List ℕ) → Option (List ℕ)
seed_or None = Some no_seed
seed_or (Some text) = seed_of text
