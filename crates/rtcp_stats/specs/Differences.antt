-- Numbers of 32 bits that wrap.
use Rattle.std.specs.Prelude.{ℕ, ◌+◌, ◌-◌, ◌%◌, ◌^◌, nat_lt, if◌then◌else◌}

-- a - b, modulo 2 ^ 32
abbrev pub difference : ℕ → ℕ → ℕ
difference a b = (a + (2 ^ 32 - b)) % 2 ^ 32

-- the magnitude of a number of 32 bits that is read with its sign
abbrev pub magnitude : ℕ → ℕ
magnitude d = if nat_lt d (2 ^ 31) then d else 2 ^ 32 - d
