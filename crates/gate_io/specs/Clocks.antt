-- What the answers of a clock do to what it tells.
use Rattle.std.specs.Prelude.{◌≡◌, ℕ, ◌+◌, Bool, true}
use Rattle.gate_io.specs.declared.tick_clock.TickNext.{TickNext}
use Rattle.gate_io.specs.declared.tick_clock.TickNext.TheVariants as tick_next

-- a tick counts as one, and only the answer that it ended ends a clock
abbrev pub Waits : ℕ → ℕ → Bool → Bool → TickNext → Type 0
Waits old new was_ended is_ended tick_next.Tick = (new ≡ old + 1) × (is_ended ≡ was_ended)
Waits old new was_ended is_ended tick_next.Ended = (new ≡ old) × (is_ended ≡ true)

-- what contracts see of the clock in memory: the ticks that it gave, those that are still to come, and whether it has ended
pub record ClockState : Type 0 where
  pub ticks : ℕ
  pub left : ℕ
  pub ended : Bool
