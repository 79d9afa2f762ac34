-- The segment and the step of a magnitude.
use Rattle.std.proofs.Common.{◌≡◌, ℕ, zero, suc, ◌+◌, ◌-◌, ◌*◌, ◌/◌, ◌%◌, ◌^◌, ◌<◌, ◌≤◌, refl, arith, inl, inr, subst}
use Rattle.std.specs.Prelude.{min}
use Rattle.std.proofs.lemmas.Bool.{cases_lt}
use Rattle.std.proofs.lemmas.Nat.{leading_top, mul-le, pow-add, pow_pos}
use Rattle.std.proofs.Math.Nat.{pow-le-pow_right}
use Rattle.std.specs.Int.Count.{count_leading_zeros}
use Rattle.g711_leg.specs.Levels.{IsAbout, IsSegment, raised_of}

-- where the highest digit is
record HighestDigit (raised clear : ℕ) : Type 0 where
  pub place : ℕ
  pub count : clear + place ≡ 31
  pub low : 2 ^ place ≤ raised
  pub high : raised < 2 ^ suc place

digit_of : (raised clear : ℕ) → (j : ℕ) × (clear + suc j ≡ 32) × (2 ^ j ≤ raised) × (raised < 2 ^ suc j) → HighestDigit raised clear
digit_of raised clear found = record { place = found.0; count = omega (arith, found.1); low = found.2; high = found.3 }

highest_digit : (raised : ℕ) → 128 ≤ raised → raised ≤ 32900 → HighestDigit raised (count_leading_zeros 32 raised)
highest_digit raised low high = digit_of raised _ (leading_top 32 raised (omega arith) (omega arith))

place_low : (j raised : ℕ) → 128 ≤ raised → raised < 2 ^ suc j → 7 ≤ j
place_low j raised low high = elim (cases_lt j 7) [
  | inl below ↦ absurd (omega (arith, pow-le-pow_right {n = 2} (omega arith) (le j below)))
  | inr above ↦ above
]
  where
    le : (j : ℕ) → j < 7 → suc j ≤ 7
    le j h = omega arith

pub clear_most : (raised : ℕ) → 128 ≤ raised → raised ≤ 32900 → count_leading_zeros 32 raised ≤ 24
clear_most raised low high =
    let digit : HighestDigit raised (count_leading_zeros 32 raised) = highest_digit raised low high in
    omega (arith, place_low digit.place raised low digit.high, digit.count)

-- a product with a power grows with both
pub shifted_most : (a k m n : ℕ) → a ≤ m → k ≤ n → a * 2 ^ k ≤ m * 2 ^ n
shifted_most a k m n le less = mul-le a (2 ^ k) m (2 ^ n) le (pow-le-pow_right {n = 2} (omega arith) less)

segment_low : (raised j clear : ℕ) → clear + j ≡ 31 → 7 ≤ j → 2 ^ j ≤ raised → 128 * 2 ^ min (24 - clear) 7 ≤ raised
segment_low raised j clear count seven low =
    let le : 7 + min (24 - clear) 7 ≤ j = omega arith in
    omega (arith, pow-add 2 7 (min (24 - clear) 7), pow-le-pow_right {n = 2} (omega arith) le)

segment_high : (raised j clear : ℕ) → clear + j ≡ 31 → 7 ≤ j → raised < 2 ^ suc j → min (24 - clear) 7 < 7 → raised < 256 * 2 ^ min (24 - clear) 7
segment_high raised j clear count seven high less =
    let e : suc j ≡ 8 + min (24 - clear) 7 = omega arith in
    let h = rw e at high in
    omega (arith, pow-add 2 8 (min (24 - clear) 7))

-- the digits in front tell the segment
pub segment_by_digits : (raised : ℕ) → 128 ≤ raised → raised ≤ 32900 → IsSegment raised (min (24 - count_leading_zeros 32 raised) 7)
segment_by_digits raised low high =
    let digit : HighestDigit raised (count_leading_zeros 32 raised) = highest_digit raised low high in
    let seven : 7 ≤ digit.place = place_low digit.place raised low digit.high in
    record {
      few = omega arith;
      low = segment_low raised digit.place _ digit.count seven digit.low;
      high = segment_high raised digit.place _ digit.count seven digit.high;
    }

-- a raised magnitude by its segment and step
pub raised_at : (s t : ℕ) → s < 8 → t < 16 → raised_of (16 * s + t) ≡ (t * 8 + 132) * 2 ^ s
unfolding raised_of
raised_at s t few less =
    let e : (16 * s + t) / 16 % 8 ≡ s = omega arith in
    let f : (16 * s + t) % 16 ≡ t = omega arith in
    rw (e, f) refl

-- a whole quotient and its rest
record IsQuotient (raised unit q : ℕ) : Type 0 where
  pub low : q * unit ≤ raised
  pub high : raised < (q + 1) * unit

quotient_of : (raised unit : ℕ) → 0 < unit → IsQuotient raised unit (raised / unit)
quotient_of raised unit positive = record { low = omega arith; high = omega arith }

-- the step t of the segment s has this magnitude
record IsStep (raised s t : ℕ) : Type 0 where
  pub segment : s < 8
  pub step : t < 16
  pub low : (t + 16) * (8 * 2 ^ s) ≤ raised
  pub high : t < 15 → raised < (t + 17) * (8 * 2 ^ s)
  pub end : s < 7 → raised < 32 * (8 * 2 ^ s)

step_below : (raised s t : ℕ) → IsStep raised s t → 0 < 16 * s + t → raised_of (16 * s + t - 1) ≤ raised
step_below raised zero zero at positive = absurd (omega arith)
step_below raised (suc s) zero at positive =
    let e : 16 * suc s + 0 - 1 ≡ 16 * s + 15 = omega arith in
    let p : 2 ^ suc s ≡ 2 * 2 ^ s = omega arith in
    rw e (omega (arith, raised_at s 15 (omega (arith, at.segment)) (omega arith), at.low))
step_below raised s (suc t) at positive =
    let e : 16 * s + suc t - 1 ≡ 16 * s + t = omega arith in
    rw e (omega (arith, raised_at s t at.segment (omega (arith, at.step)), at.low))

step_last : (raised s : ℕ) → IsStep raised s 15 → 16 * s + 15 < 127 → 2 * raised < raised_of (16 * s + 15) + raised_of (16 * s + 15 + 1)
step_last raised s at less =
    let e : 16 * s + 15 + 1 ≡ 16 * (s + 1) + 0 = omega arith in
    let p : 2 ^ (s + 1) ≡ 2 * 2 ^ s = omega (arith, pow-add 2 s 1) in
    rw e (omega (arith, raised_at s 15 at.segment (omega arith), raised_at (s + 1) 0 (omega arith) (omega arith), at.end (omega arith)))

step_above : (raised s t : ℕ) → IsStep raised s t → 16 * s + t < 127 → 2 * raised < raised_of (16 * s + t) + raised_of (16 * s + t + 1)
step_above raised s t at less = elim (cases_lt t 15) [
  | inl inside ↦ let e : 16 * s + t + 1 ≡ 16 * s + (t + 1) = omega arith in
      rw e (omega (arith, raised_at s t at.segment at.step, raised_at s (t + 1) at.segment (omega arith), at.high inside))
  | inr above ↦ let f : 15 ≡ t = omega (arith, at.step) in
      subst (λ (u : ℕ). IsStep raised s u → 16 * s + u < 127 → 2 * raised < raised_of (16 * s + u) + raised_of (16 * s + u + 1)) f (step_last raised s) at less
]

about_step : (raised s t : ℕ) → IsStep raised s t → IsAbout raised_of raised (16 * s + t)
about_step raised s t at = record { few = omega (arith, at.segment, at.step); low = step_below raised s t at; high = step_above raised s t at }

-- the quotient by an eighth of the lowest magnitude's unit is 16 at least, and less than 32 below the highest segment
quotient_least : (raised s q : ℕ) → IsSegment raised s → IsQuotient raised (8 * 2 ^ s) q → 16 ≤ q
quotient_least raised s q segment whole = elim (cases_lt q 16) [
  | inl below ↦ absurd (omega (arith, segment.low, whole.high, mul-le (q + 1) (8 * 2 ^ s) 16 (8 * 2 ^ s) (omega arith) (omega arith)))
  | inr above ↦ above
]

quotient_most : (raised s q : ℕ) → IsSegment raised s → IsQuotient raised (8 * 2 ^ s) q → s < 7 → q < 32
quotient_most raised s q segment whole less = elim (cases_lt q 32) [
  | inl below ↦ below
  | inr above ↦ absurd (omega (arith, segment.high less, whole.low, mul-le 32 (8 * 2 ^ s) q (8 * 2 ^ s) above (omega arith)))
]

step_of : (raised s q : ℕ) → IsSegment raised s → raised ≤ 32900 → IsQuotient raised (8 * 2 ^ s) q → IsStep raised s (min (q - 16) 15)
step_of raised s q segment most whole =
    let least : 16 ≤ q = quotient_least raised s q segment whole in
    let le : min (q - 16) 15 + 16 ≤ q = omega arith in
    record {
      segment = segment.few;
      step = omega arith;
      low = omega (arith, whole.low, mul-le (min (q - 16) 15 + 16) (8 * 2 ^ s) q (8 * 2 ^ s) le (omega arith));
      high = λ h. let e : min (q - 16) 15 + 17 ≡ q + 1 = omega arith in rw e whole.high;
      end = λ h. omega (arith, segment.high h);
    }

units : (s : ℕ) → 2 ^ (s + 3) ≡ 8 * 2 ^ s
units s = omega (arith, pow-add 2 s 3)

quotient_is : (raised s : ℕ) → IsQuotient raised (8 * 2 ^ s) (raised / 2 ^ (s + 3))
quotient_is raised s = rw (units s) (quotient_of raised (8 * 2 ^ s) (omega (arith, pow_pos s)))

-- the level that a segment and a step make
pub about_segment : (raised s : ℕ) → IsSegment raised s → raised ≤ 32900 → IsAbout raised_of raised (16 * s + min (raised / 2 ^ (s + 3) - 16) 15)
about_segment raised s segment most = about_step raised s _ (step_of raised s _ segment most (quotient_is raised s))

pub quotient_low : (raised s : ℕ) → IsSegment raised s → 16 ≤ raised / 2 ^ (s + 3)
quotient_low raised s segment = quotient_least raised s _ segment (quotient_is raised s)
