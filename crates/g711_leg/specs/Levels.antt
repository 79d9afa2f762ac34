-- The levels, 0 to 127, are the codes' bits without the sign; their magnitudes rise.
use Rattle.std.specs.Prelude.{ℕ, ◌+◌, ◌-◌, ◌*◌, ◌^◌, ◌<◌, ◌≤◌}
use Rattle.g711_leg.specs.Codes.{segment, step}

-- a magnitude raised by 132 in mu-law, and as it is in A-law above its lowest segment
unfoldable pub raised_of : ℕ → ℕ
raised_of u = (step u * 8 + 132) * 2 ^ segment u

-- the segment in which a raised magnitude is, where those above the highest count as in it
pub record IsSegment (raised s : ℕ) : Type 0 where
  pub few : s < 8
  pub low : 128 * 2 ^ s ≤ raised
  pub high : s < 7 → raised < 256 * 2 ^ s

-- this level is the nearest one to the size, or the next above it
pub record IsAbout (magnitude : ℕ → ℕ) (size level : ℕ) : Type 0 where
  pub few : level < 128
  pub low : 0 < level → magnitude (level - 1) ≤ size
  pub high : level < 127 → 2 * size < magnitude level + magnitude (level + 1)

-- the size is above the middle between the level below and this one, and not above the middle between this one and the next
pub record IsNearest (magnitude : ℕ → ℕ) (size level : ℕ) : Type 0 where
  pub few : level < 128
  pub low : 0 < level → magnitude (level - 1) + magnitude level < 2 * size
  pub high : level < 127 → 2 * size ≤ magnitude level + magnitude (level + 1)
