-- The last 120 values, the oldest first.
use Rattle.std.specs.Prelude.{ℕ, ◌-◌, ℤ, List}
use Rattle.fixed_arith.specs.Signal.{at}

-- the value this many places back, where 1 is the last
abbrev pub back_at : List ℤ → ℕ → ℤ
back_at kept back = at kept (120 - back)
