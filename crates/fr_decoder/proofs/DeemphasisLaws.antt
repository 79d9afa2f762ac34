-- De-emphasis goes on from where it stood.
use Rattle.std.proofs.Common.{◌≡◌, ◌≢◌, ℕ, zero, suc, ◌+◌, ◌<◌, ◌≤◌, ℤ, List, ◌++◌, length, length-set, set, refl, sym, ◌∙◌, ap, arith, get_or-set_same, get_or-set_other, inl, inr}
use Rattle.std.proofs.lemmas.Bool.{cases_lt}
use Rattle.std.proofs.lemmas.List.{get_or_append_left, get_or-append-add}
use Rattle.fixed_arith.specs.Signal.{at}
use Rattle.fr_decoder.specs.Deemphasis.{emphasis_next, emphasis_after, output_of}

pub emphasis_after-none : (before : ℤ) (xs : List ℤ) → emphasis_after before xs 0 ≡ before
unfolding emphasis_after
emphasis_after-none before xs = refl

pub emphasis_after-more : (before : ℤ) (xs : List ℤ) (n : ℕ) → emphasis_after before xs (n + 1) ≡ emphasis_next (emphasis_after before xs n) (at xs n)
unfolding emphasis_after
emphasis_after-more before xs n = let next : n + 1 ≡ suc n = omega arith in rw next refl

-- values that come later change nothing
pub emphasis_after-front : (before : ℤ) (xs ys : List ℤ) (n : ℕ) → n ≤ length xs → emphasis_after before (xs ++ ys) n ≡ emphasis_after before xs n
unfolding emphasis_after
emphasis_after-front before xs ys zero inside = refl
emphasis_after-front before xs ys (suc n) inside =
    let here : n < length xs = omega arith in
    rw (emphasis_after-front before xs ys n (omega arith), get_or_append_left xs ys _ n here) refl

pub emphasis_after-join : (before : ℤ) (xs ys : List ℤ) (n : ℕ) → emphasis_after before (xs ++ ys) (length xs + n) ≡ emphasis_after (emphasis_after before xs (length xs)) ys n
unfolding emphasis_after
emphasis_after-join before xs ys zero =
    let none : length xs + zero ≡ length xs = omega arith in
    rw none (emphasis_after-front before xs ys (length xs) (omega arith))
emphasis_after-join before xs ys (suc n) =
    let next : length xs + suc n ≡ suc (length xs + n) = omega arith in
    rw (next, emphasis_after-join before xs ys n, get_or-append-add xs ys n) refl

-- the first i values are samples, and the others are as they were
pub record Deemphasises (before : ℤ) (old new : List ℤ) (value : ℤ) (i : ℕ) : Type 0 where
  pub size : length new ≡ length old
  pub now : value ≡ emphasis_after before old i
  pub done : (k : ℕ) → k < i → at new k ≡ output_of (emphasis_after before old (k + 1))
  pub rest : (k : ℕ) → i ≤ k → at new k ≡ at old k

pub Deemphasises-start : (before : ℤ) (old : List ℤ) → Deemphasises before old old before 0
Deemphasises-start before old = record {
  size = refl;
  now = sym (emphasis_after-none before old);
  done = λ k h. absurd (omega arith);
  rest = λ k h. refl;
}

pub Deemphasises-more : (before : ℤ) (old new : List ℤ) (value next y : ℤ) (i : ℕ) → i < length new → Deemphasises before old new value i
    → next ≡ emphasis_next value (at new i) → y ≡ output_of next → Deemphasises before old (set new i y) next (i + 1)
Deemphasises-more before old new value next y i inside done next_is y_is =
    let now : next ≡ emphasis_after before old (i + 1) = next_is ∙ (rw (done.now, done.rest i (omega arith), emphasis_after-more before old i) refl) in
    record {
      size = length-set new i y ∙ done.size;
      now = now;
      done = λ k h. elim (cases_lt k i) [
        | inl earlier ↦ let other : k ≢ i = omega arith in rw get_or-set_other (done.done k earlier)
        | inr here ↦ let same : k ≡ i = omega arith in rw (same, get_or-set_same) (y_is ∙ ap output_of now)
      ];
      rest = λ k h. let other : k ≢ i = omega arith in rw get_or-set_other (done.rest k (omega arith));
    }
