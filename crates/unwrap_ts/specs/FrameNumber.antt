-- The number of a packet's first frame, by the packet's timestamp.
use Rattle.std.specs.Prelude.{◌≡◌, ℕ, ◌+◌, ◌*◌, ◌^◌, ◌≤◌, ◌<◌, ℤ, pos, ◌+ℤ◌, ◌-ℤ◌, ◌*ℤ◌, ◌≤ℤ◌, ◌<ℤ◌, unsigned_abs}
use Rattle.std.specs.Int.{int_div_euclid, int_rem_euclid}

-- the timestamp that counts as 0, the delay in frames, and the extended timestamp of the last packet that was accepted
pub record Unwrap : Type 0 where
  pub base : ℕ
  pub delay : ℕ
  pub reference : ℤ

-- before any packet was accepted the reference is 0
abbrev pub fresh : ℕ → ℕ → Unwrap
fresh base delay = record { base = base; delay = delay; reference = pos 0 }

-- x is ts - base modulo 2 ^ 32, and lies within half of that about the reference
pub record IsExtended (u : Unwrap) (ts : ℕ) (x : ℤ) : Type 0 where
  pub congruent : (k : ℤ) × (x ≡ (pos ts -ℤ pos u.base) +ℤ (k *ℤ pos (2 ^ 32)))
  pub low : u.reference ≤ℤ (x +ℤ pos (2 ^ 31))
  pub high : x <ℤ (u.reference +ℤ pos (2 ^ 31))

-- the one extended timestamp
abbrev pub extended : Unwrap → ℕ → ℤ
extended u ts =
    let ahead = int_rem_euclid (((pos ts -ℤ pos u.base) -ℤ u.reference) +ℤ pos (2 ^ 31)) (pos (2 ^ 32)) in
    (u.reference +ℤ ahead) -ℤ pos (2 ^ 31)

-- 160 samples are a frame, counted from the delay after 2 ^ 32; a quotient is rounded down
abbrev pub first_number : Unwrap → ℕ → ℤ
first_number u ts = pos (2 ^ 32 + u.delay) +ℤ int_div_euclid (extended u ts) (pos 160)

-- the same without its sign, which is never minus for an `Unwrapper`
abbrev pub frame_number : Unwrap → ℕ → ℕ
frame_number u ts = unsigned_abs (first_number u ts)

-- what holds of each `Unwrapper`
pub record IsUnwrap (u : Unwrap) : Type 0 where
  pub base : u.base < 2 ^ 32
  pub delay : u.delay ≤ 1023
  pub low : pos 0 ≤ℤ (u.reference +ℤ pos (160 * 1039))
  pub high : u.reference <ℤ pos (160 * (2 ^ 32 + 2048))

-- whatever the reference is, just one number is the extended timestamp
abbrev pub IsOnlyExtended : Type 0
IsOnlyExtended = (u : Unwrap) (ts : ℕ) → IsExtended u ts (extended u ts) × ((x : ℤ) → IsExtended u ts x → x ≡ extended u ts)
