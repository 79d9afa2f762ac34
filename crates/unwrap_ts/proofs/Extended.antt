-- The one extended timestamp.
use Rattle.std.proofs.Common.{◌≡◌, ℕ, ◌/◌, ◌^◌, ℤ, pos, negsuc, ◌+ℤ◌, ◌-ℤ◌, ◌*ℤ◌, ◌≤ℤ◌, ◌<ℤ◌, arith}
use Rattle.std.proofs.lemmas.Int.{ints}
use Rattle.std.specs.Int.{int_rem_euclid}
use Rattle.std.specs.Prelude.{neg_ℤ}
use Rattle.unwrap_ts.specs.FrameNumber.{IsExtended, IsOnlyExtended, extended}

-- a number is its remainder and a multiple
record IsRest (z r : ℤ) : Type 0 where
  times : ℤ
  whole : z ≡ r +ℤ (times *ℤ pos (2 ^ 32))
  low : pos 0 ≤ℤ r
  high : r <ℤ pos (2 ^ 32)

rest_of : (z : ℤ) → IsRest z (int_rem_euclid z (pos (2 ^ 32)))
rest_of (pos a) = record { times = pos (a / 2 ^ 32); whole = omega (arith, ints); low = omega (arith, ints); high = omega (arith, ints) }
rest_of (negsuc a) = record { times = negsuc (a / 2 ^ 32); whole = omega (arith, ints); low = omega (arith, ints); high = omega (arith, ints) }

fits : (base : ℕ) (ref : ℤ) (ts : ℕ) (r : ℤ) → IsRest (((pos ts -ℤ pos base) -ℤ ref) +ℤ pos (2 ^ 31)) r
    → IsExtended (record { base = base; delay = 0; reference = ref }) ts ((ref +ℤ r) -ℤ pos (2 ^ 31))
fits base ref ts r h = record {
  congruent = (neg_ℤ h.times, omega (arith, ints));
  low = omega (arith, ints);
  high = omega (arith, ints);
}

same : (d ref x y j k : ℤ) → x ≡ d +ℤ (j *ℤ pos (2 ^ 32)) → y ≡ d +ℤ (k *ℤ pos (2 ^ 32))
    → ref ≤ℤ (x +ℤ pos (2 ^ 31)) → x <ℤ (ref +ℤ pos (2 ^ 31)) → ref ≤ℤ (y +ℤ pos (2 ^ 31)) → y <ℤ (ref +ℤ pos (2 ^ 31)) → x ≡ y
same d ref x y j k p q a b e f = omega (arith, ints)

pub only : IsOnlyExtended
only u ts =
    let h : IsExtended u ts (extended u ts) =
    let f = fits u.base u.reference ts _ (rest_of (((pos ts -ℤ pos u.base) -ℤ u.reference) +ℤ pos (2 ^ 31))) in
    record { congruent = f.congruent; low = f.low; high = f.high } in
    (h, λ x p. same (pos ts -ℤ pos u.base) u.reference x (extended u ts) p.congruent.0 h.congruent.0 p.congruent.1 h.congruent.1 p.low p.high h.low h.high)
