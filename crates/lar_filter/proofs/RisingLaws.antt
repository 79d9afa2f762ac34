-- The stages of the analysis lattice, from the lowest up.
use Rattle.std.proofs.Common.{◌≡◌, ◌≢◌, ℕ, zero, suc, ◌+◌, ◌<◌, ◌≤◌, ℤ, List, length, length-set, set, refl, ◌∙◌, arith, get_or-set_same, get_or-set_other, inl, inr}
use Rattle.std.proofs.lemmas.Bool.{cases_lt}
use Rattle.fixed_arith.specs.Word.{add_words, mult_r_words}
use Rattle.fixed_arith.specs.Signal.{at}
use Rattle.lar_filter.specs.Rising.{RisesTo}

-- d(i), which needs only the values of the sample before
unfoldable pub d_at : List ℤ → List ℤ → ℤ → ℕ → ℤ
d_at rp before x zero = x
d_at rp before x (suc i) = add_words (d_at rp before x i) (mult_r_words (at rp i) (at before i))

unfoldable pub w_at : List ℤ → List ℤ → ℤ → ℕ → ℤ
w_at rp before x zero = x
w_at rp before x (suc i) = add_words (at before i) (mult_r_words (at rp i) (d_at rp before x i))

d_more : (rp before : List ℤ) (x : ℤ) (i : ℕ) → d_at rp before x (i + 1) ≡ add_words (d_at rp before x i) (mult_r_words (at rp i) (at before i))
unfolding d_at
d_more rp before x i = let e : i + 1 ≡ suc i = omega arith in rw e refl

w_more : (rp before : List ℤ) (x : ℤ) (i : ℕ) → w_at rp before x (i + 1) ≡ add_words (at before i) (mult_r_words (at rp i) (d_at rp before x i))
unfolding w_at
w_more rp before x i = let e : i + 1 ≡ suc i = omega arith in rw e refl

-- the stages below i are done
pub record Rises (rp before : List ℤ) (x : ℤ) (u : List ℤ) (d w : ℤ) (i : ℕ) : Type 0 where
  pub size : length u ≡ 8
  pub d_is : d ≡ d_at rp before x i
  pub w_is : w ≡ w_at rp before x i
  pub done : (j : ℕ) → j < i → at u j ≡ w_at rp before x j
  pub rest : (j : ℕ) → i ≤ j → at u j ≡ at before j

pub Rises-start : (rp before : List ℤ) (x : ℤ) → length before ≡ 8 → Rises rp before x before x x 0
unfolding d_at w_at
Rises-start rp before x size = record { size = size; d_is = refl; w_is = refl; done = λ j h. absurd (omega arith); rest = λ j h. refl }

pub Rises-more : (rp before : List ℤ) (x : ℤ) (u : List ℤ) (d w next_d next_w : ℤ) (i : ℕ) → i < 8 → Rises rp before x u d w i
    → next_d ≡ add_words d (mult_r_words (at rp i) (at u i)) → next_w ≡ add_words (at u i) (mult_r_words (at rp i) d) → Rises rp before x (set u i w) next_d next_w (i + 1)
Rises-more rp before x u d w next_d next_w i inside rises d_next w_next =
    let old : at u i ≡ at before i = rises.rest i (omega arith) in
    let room : i < length u = omega (arith, rises.size) in
    record {
      size = length-set u i w ∙ rises.size;
      d_is = d_next ∙ (rw (rises.d_is, old, d_more rp before x i) refl);
      w_is = w_next ∙ (rw (rises.d_is, old, w_more rp before x i) refl);
      done = λ j h. elim (cases_lt j i) [
        | inl before' ↦ let other : j ≢ i = omega arith in rw get_or-set_other (rises.done j before')
        | inr here ↦ let same : j ≡ i = omega arith in rw (same, get_or-set_same) rises.w_is
      ];
      rest = λ j h. let other : j ≢ i = omega arith in rw get_or-set_other (rises.rest j (omega arith));
    }

pub RisesTo-whole : (rp before : List ℤ) (x : ℤ) (u : List ℤ) (d w : ℤ) (i : ℕ) → i ≡ 8 → Rises rp before x u d w i → RisesTo rp before x d u
unfolding d_at w_at
RisesTo-whole rp before x u d w i end rises = record {
  d = d_at rp before x;
  w = w_at rp before x;
  lattice = record { d_foot = refl; w_foot = refl; w_up = λ j h. w_more rp before x j; d_up = λ j h. d_more rp before x j };
  output = rw end at rises.d_is;
  kept = λ j h. rises.done j (omega arith);
}
