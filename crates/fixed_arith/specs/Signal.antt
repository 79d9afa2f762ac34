-- Signals: values by place, and values back in time.
use Rattle.std.specs.Prelude.{ℕ, ◌-◌, ℤ, pos, List, get_or, cond, nat_le}

-- the value at a place, and 0 past the end
abbrev pub at : List ℤ → ℕ → ℤ
at values i = get_or values i (pos 0)

-- the value this many places before time t, which is 0 before time 0
abbrev pub past : (ℕ → ℤ) → ℕ → ℕ → ℤ
past f t back = cond (nat_le back t) (f (t - back)) (pos 0)
