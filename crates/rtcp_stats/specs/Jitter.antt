-- Interarrival jitter, in 16ths of a unit of the timestamp (RFC 3550 section 6.4.1, appendix A.8).
use Rattle.std.specs.Prelude.{ℕ, ◌+◌, ◌-◌, ◌/◌, ◌≤◌, Option, Some, None}
use Rattle.rtcp_stats.specs.Differences.{difference, magnitude}

-- the jitter after a valid packet; the first one has none before it
abbrev pub smoothed : Option ℕ → ℕ → ℕ → ℕ
smoothed None transit jitter = jitter
smoothed (Some before) transit jitter = jitter + magnitude (difference transit before) - (jitter + 8) / 16

-- what holds of each receiver: the jitter has no more bits than these
abbrev pub IsSmooth : ℕ → Type 0
IsSmooth jitter = jitter ≤ 34359738360
