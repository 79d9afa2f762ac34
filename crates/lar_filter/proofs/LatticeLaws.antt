-- The lattice, computed from the top stage down.
use Rattle.std.proofs.Common.{◌≡◌, ◌≢◌, ℕ, zero, suc, ◌+◌, ◌-◌, ◌<◌, ◌≤◌, ℤ, List, length, length-set, set, refl, ◌∙◌, arith, get_or-set_same, get_or-set_other, inl, inr}
use Rattle.std.proofs.lemmas.Bool.{cases_lt}
use Rattle.fixed_arith.specs.Word.{add_words, sub_words, mult_r_words}
use Rattle.fixed_arith.specs.Signal.{at}
use Rattle.lar_filter.specs.Lattice.{StepsTo}

-- what is left of x after j stages: s(8 - j)
unfoldable pub descent : List ℤ → List ℤ → ℤ → ℕ → ℤ
descent rp before x zero = x
descent rp before x (suc j) = sub_words (descent rp before x j) (mult_r_words (at rp (7 - j)) (at before (7 - j)))

-- what goes back up behind stage i: v(i)
ascent : List ℤ → List ℤ → ℤ → ℕ → ℤ
ascent rp before x zero = descent rp before x 8
ascent rp before x (suc i) = add_words (at before i) (mult_r_words (at rp i) (descent rp before x (8 - i)))

-- the stages above k are done, and s is s(k)
pub record Descends (rp before : List ℤ) (x : ℤ) (v : List ℤ) (s : ℤ) (k : ℕ) : Type 0 where
  pub size : length v ≡ 8
  pub value : s ≡ descent rp before x (8 - k)
  pub below : (m : ℕ) → m ≤ k → at v m ≡ at before m
  pub above : (m : ℕ) → k ≤ m → m < 7 → at v (m + 1) ≡ add_words (at before m) (mult_r_words (at rp m) (descent rp before x (8 - m)))

descent_down : (rp before : List ℤ) (x : ℤ) (i : ℕ) → i < 8 → descent rp before x (8 - i) ≡ sub_words (descent rp before x (8 - (i + 1))) (mult_r_words (at rp i) (at before i))
unfolding descent
descent_down rp before x i below =
    let next : 8 - i ≡ suc (8 - (i + 1)) = omega arith in
    let place : 7 - (8 - (i + 1)) ≡ i = omega arith in
    rw (next, place) refl

pub Descends-start : (rp before : List ℤ) (x s : ℤ) → length before ≡ 8 → s ≡ sub_words x (mult_r_words (at rp 7) (at before 7)) → Descends rp before x before s 7
unfolding descent
Descends-start rp before x s size first = record {
  size = size;
  value = first;
  below = λ m h. refl;
  above = λ m h b. absurd (omega arith);
}

pub Descends-more : (rp before : List ℤ) (x : ℤ) (v : List ℤ) (s next kept : ℤ) (i : ℕ) → i < 7 → Descends rp before x v s (i + 1)
    → next ≡ sub_words s (mult_r_words (at rp i) (at v i)) → kept ≡ add_words (at v i) (mult_r_words (at rp i) next) → Descends rp before x (set v (i + 1) kept) next i
Descends-more rp before x v s next kept i inside done next_is kept_is =
    let old : at v i ≡ at before i = done.below i (omega arith) in
    let value : next ≡ descent rp before x (8 - i) = next_is ∙ (rw (done.value, old, descent_down rp before x i (omega arith)) refl) in
    let room : i + 1 < length v = omega (arith, done.size) in
    record {
      size = omega (arith, done.size, length-set v (i + 1) kept);
      value = value;
      below = λ m h. let other : m ≢ i + 1 = omega arith in rw get_or-set_other (done.below m (omega arith));
      above = λ m h b. elim (cases_lt i m) [
        | inl later ↦ let other : m + 1 ≢ i + 1 = omega arith in rw get_or-set_other (done.above m (omega arith) b)
        | inr here ↦ let same : m ≡ i = omega arith in rw (same, get_or-set_same) (kept_is ∙ (rw (old, value) refl))
      ];
    }

kept_is : (rp before : List ℤ) (x : ℤ) (v : List ℤ) (s : ℤ) (i : ℕ) → i < 8 → Descends rp before x v s 0 → at (set v 0 s) i ≡ ascent rp before x i
unfolding ascent
kept_is rp before x v s zero inside done =
    let room : 0 < length v = omega (arith, done.size) in
    rw get_or-set_same done.value
kept_is rp before x v s (suc i) inside done =
    let other : suc i ≢ 0 = omega arith in
    let place : suc i ≡ i + 1 = omega arith in
    rw (get_or-set_other, place) (done.above i (omega arith) (omega arith))

ascent_up : (rp before : List ℤ) (x : ℤ) (i : ℕ) → ascent rp before x (i + 1) ≡ add_words (at before i) (mult_r_words (at rp i) (descent rp before x (8 - i)))
unfolding ascent
ascent_up rp before x i = let place : i + 1 ≡ suc i = omega arith in rw place refl

pub StepsTo-from_descent : (rp before : List ℤ) (x : ℤ) (v : List ℤ) (s : ℤ) → Descends rp before x v s 0 → StepsTo rp before x s (set v 0 s)
unfolding descent ascent
StepsTo-from_descent rp before x v s done = record {
  s = λ i. descent rp before x (8 - i);
  v = ascent rp before x;
  lattice = record {
    top = refl;
    down = descent_down rp before x;
    up = λ i h. ascent_up rp before x i;
    foot = refl;
  };
  output = done.value;
  kept = λ i h. kept_is rp before x v s i h done;
}
