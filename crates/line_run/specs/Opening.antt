-- A line before its callers run.
use Rattle.std.specs.Prelude.{◌≡◌, ◌⊎◌, ℕ, ◌-◌, ◌^◌, ◌≤◌}
use Rattle.recorder.specs.Heads.{Heading}
use Rattle.line_run.specs.declared.options.LineOptions.{LineOptions}

-- the values are in their ranges
pub record AreOptions (o : LineOptions) : Type 0 where
  pub ring : o.g ≤ 10
  pub delay : o.delay ≤ 2 ^ o.g - 1
  pub some_ticks : 1 ≤ o.ticks
  pub most_ticks : o.ticks ≤ 16000000
  pub some_report : 1 ≤ o.report
  pub most_report : o.report ≤ 65535
  pub most_elastic : o.elastic ≤ 15
  pub slots : (o.elastic ≡ 0) ⊎ (1 ≤ o.g)

-- what is seen of a line: how many filers it has, and its options
pub record LineSeen : Type 0 where
  pub filers : ℕ
  pub options : LineOptions

-- the head of the line's journals
abbrev pub heading : ℕ → LineOptions → Heading
heading filers o = record { filers = filers; g = o.g; delay = o.delay }
