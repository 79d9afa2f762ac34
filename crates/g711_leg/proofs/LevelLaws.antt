-- The levels' magnitudes rise, and the nearest level is found between two neighbours.
use Rattle.std.proofs.Common.{◌≡◌, ℕ, zero, suc, ◌+◌, ◌-◌, ◌*◌, ◌/◌, ◌<◌, ◌≤◌, refl, arith}
use Rattle.g711_leg.specs.declared.law.Law.{Law}
use Rattle.g711_leg.specs.declared.law.Law.TheVariants.{Mu, A}
use Rattle.g711_leg.specs.Codes.{magnitude_of}
use Rattle.g711_leg.specs.Levels.{IsAbout, IsNearest, raised_of}
use Rattle.g711_leg.proofs.Tables.{less_by_table, same_by_table}

rises_once : (law : Law) (k : ℕ) → k < 127 → magnitude_of law k < magnitude_of law (suc k)
unfolding magnitude_of
rises_once Mu = less_by_table (magnitude_of Mu) (λ k. magnitude_of Mu (suc k)) 127 refl
rises_once A = less_by_table (magnitude_of A) (λ k. magnitude_of A (suc k)) 127 refl

rises_by : (law : Law) (j n : ℕ) → j + n < 128 → magnitude_of law j + n ≤ magnitude_of law (j + n)
rises_by law j zero few = let e : j + 0 ≡ j = omega arith in rw e (omega arith)
rises_by law j (suc n) few =
    let e : j + suc n ≡ suc (j + n) = omega arith in
    rw e (omega (arith, rises_by law j n (omega arith), rises_once law (j + n) (omega arith)))

-- a higher level has a greater magnitude
pub rises : (law : Law) (j k : ℕ) → j < k → k < 128 → magnitude_of law j < magnitude_of law k
rises law j k less few =
    let e : j + (k - j) ≡ k = omega arith in
    let h = rw e at (rises_by law j (k - j) (omega arith)) in
    omega arith

-- of a level about the size and the one below it, by one comparison
pub nearest_below : (law : Law) (size above : ℕ) → IsAbout (magnitude_of law) size above → 0 < above
    → 2 * size ≤ magnitude_of law (above - 1) + magnitude_of law above → IsNearest (magnitude_of law) size (above - 1)
nearest_below law size above about positive less =
    let e : above - 1 + 1 ≡ above = omega arith in
    record {
      few = omega (arith, about.few);
      low = λ h. omega (arith, rises law (above - 1 - 1) (above - 1) (omega arith) (omega (arith, about.few)), about.low positive);
      high = λ h. rw e less;
    }

pub nearest_above : (law : Law) (size above : ℕ) → IsAbout (magnitude_of law) size above
    → (0 < above → magnitude_of law (above - 1) + magnitude_of law above < 2 * size) → IsNearest (magnitude_of law) size above
nearest_above law size above about more = record { few = about.few; low = more; high = λ h. omega (arith, about.high h) }

-- in A-law the magnitudes are the raised ones from the second segment on, and go on by 16 up to there
a_raised : (k : ℕ) → k < 112 → magnitude_of A (k + 16) ≡ raised_of (k + 16)
unfolding magnitude_of raised_of
a_raised = same_by_table (λ k. magnitude_of A (k + 16)) (λ k. raised_of (k + 16)) 112 refl

a_below : (k : ℕ) → k < 128 → magnitude_of A k < suc (raised_of k)
unfolding magnitude_of raised_of
a_below = less_by_table (magnitude_of A) (λ k. suc (raised_of k)) 128 refl

a_linear : (k : ℕ) → k < 17 → magnitude_of A k ≡ 16 * k + 8
unfolding magnitude_of
a_linear = same_by_table (magnitude_of A) (λ k. 16 * k + 8) 17 refl

mu_is : (k : ℕ) → magnitude_of Mu k ≡ raised_of k - 132
unfolding magnitude_of raised_of
mu_is k = refl

a_is : (k : ℕ) → 16 ≤ k → k < 128 → magnitude_of A k ≡ raised_of k
a_is k least few = let e : k - 16 + 16 ≡ k = omega arith in let h = a_raised (k - 16) (omega arith) in rw e at h

pub about_mu : (size level : ℕ) → IsAbout raised_of (size + 132) level → IsAbout (magnitude_of Mu) size level
about_mu size level about = record {
  few = about.few;
  low = λ h. omega (arith, mu_is (level - 1), about.low h);
  high = λ h. omega (arith, mu_is level, mu_is (level + 1), about.high h);
}

pub about_a_low : (size : ℕ) → size < 256 → IsAbout (magnitude_of A) size (size / 16)
about_a_low size less = record {
  few = omega arith;
  low = λ h. omega (arith, a_linear (size / 16 - 1) (omega arith));
  high = λ h. omega (arith, a_linear (size / 16) (omega arith), a_linear (size / 16 + 1) (omega arith));
}

pub about_a_high : (size level : ℕ) → IsAbout raised_of size level → 16 ≤ level → IsAbout (magnitude_of A) size level
about_a_high size level about least = record {
  few = about.few;
  low = λ h. omega (arith, a_below (level - 1) (omega (arith, about.few)), about.low h);
  high = λ h. omega (arith, a_is level least about.few, a_is (level + 1) (omega arith) (omega arith), about.high h);
}
