-- Preprocessing goes on from where it stood.
use Rattle.std.proofs.Common.{◌≡◌, ◌≢◌, ℕ, zero, suc, ◌+◌, ◌-◌, ◌<◌, ◌≤◌, ℤ, List, ◌++◌, length, length-set, set, refl, sym, ◌∙◌, ap, arith, get_or-set_same, get_or-set_other, inl, inr}
use Rattle.std.proofs.lemmas.Bool.{cases_lt}
use Rattle.std.proofs.lemmas.List.{get_or_append_left, get_or-append-add, get_or-append_right}
use Rattle.fixed_arith.specs.Signal.{at}
use Rattle.fr_encoder.specs.Preprocessing.{Offset, emphasised, next_offset, offset_after, preprocessed}

pub offset_after-none : (before : Offset) (xs : List ℤ) → offset_after before xs 0 ≡ before
unfolding offset_after
offset_after-none before xs = refl

pub offset_after-more : (before : Offset) (xs : List ℤ) (n : ℕ) → offset_after before xs (n + 1) ≡ next_offset (offset_after before xs n) (at xs n)
unfolding offset_after
offset_after-more before xs n = let next : n + 1 ≡ suc n = omega arith in rw next refl

-- samples that come later change nothing
pub offset_after-front : (before : Offset) (xs ys : List ℤ) (n : ℕ) → n ≤ length xs → offset_after before (xs ++ ys) n ≡ offset_after before xs n
unfolding offset_after
offset_after-front before xs ys zero inside = refl
offset_after-front before xs ys (suc n) inside =
    let here : n < length xs = omega arith in
    rw (offset_after-front before xs ys n (omega arith), get_or_append_left xs ys _ n here) refl

pub offset_after-join : (before : Offset) (xs ys : List ℤ) (n : ℕ) → offset_after before (xs ++ ys) (length xs + n) ≡ offset_after (offset_after before xs (length xs)) ys n
unfolding offset_after
offset_after-join before xs ys zero =
    let none : length xs + zero ≡ length xs = omega arith in
    rw none (offset_after-front before xs ys (length xs) (omega arith))
offset_after-join before xs ys (suc n) =
    let next : length xs + suc n ≡ suc (length xs + n) = omega arith in
    rw (next, offset_after-join before xs ys n, get_or-append-add xs ys n) refl

pub preprocessed-front : (before : Offset) (xs ys : List ℤ) (k : ℕ) → k < length xs → preprocessed before (xs ++ ys) k ≡ preprocessed before xs k
unfolding preprocessed
preprocessed-front before xs ys k inside = rw (offset_after-front before xs ys (k + 1) (omega arith), offset_after-front before xs ys k (omega arith)) refl

pub preprocessed-join : (before : Offset) (xs ys : List ℤ) (k : ℕ) → preprocessed before (xs ++ ys) (length xs + k) ≡ preprocessed (offset_after before xs (length xs)) ys k
unfolding preprocessed
preprocessed-join before xs ys k =
    let place : length xs + k + 1 ≡ length xs + (k + 1) = omega arith in
    rw (place, offset_after-join before xs ys (k + 1), offset_after-join before xs ys k) refl

-- the values of a piece more
pub preprocessed-append : (start middle : Offset) (samples piece s ys : List ℤ) (n : ℕ) → length samples ≡ n → length s ≡ n → middle ≡ offset_after start samples n
    → ((t : ℕ) → t < n → at s t ≡ preprocessed start samples t) → ((k : ℕ) → k < 160 → at ys k ≡ preprocessed middle piece k)
    → (t : ℕ) → t < n + 160 → at (s ++ ys) t ≡ preprocessed start (samples ++ piece) t
preprocessed-append start middle samples piece s ys n whole size is old new t inside = elim (cases_lt t n) [
  | inl early ↦
      let here : t < length s = omega arith in
      let there : t < length samples = omega arith in
      get_or_append_left s ys _ t here ∙ old t early ∙ sym (preprocessed-front start samples piece t there)
  | inr late ↦
      let small : t - n < 160 = omega arith in
      let place : length samples + (t - n) ≡ t = omega arith in
      get_or-append_right s ys n t _ size late ∙ new (t - n) small
      ∙ ap (λ (o : Offset). preprocessed o piece (t - n)) (is ∙ ap (offset_after start samples) (sym whole))
      ∙ sym (preprocessed-join start samples piece (t - n)) ∙ ap (preprocessed start (samples ++ piece)) place
]

-- the first i samples are preprocessed, and the others are as they were
pub record Preprocesses (before : Offset) (old new : List ℤ) (now : Offset) (i : ℕ) : Type 0 where
  pub size : length new ≡ length old
  pub now_is : now ≡ offset_after before old i
  pub done : (k : ℕ) → k < i → at new k ≡ preprocessed before old k
  pub rest : (k : ℕ) → i ≤ k → at new k ≡ at old k

pub Preprocesses-start : (before : Offset) (old : List ℤ) → Preprocesses before old old before 0
Preprocesses-start before old = record {
  size = refl;
  now_is = sym (offset_after-none before old);
  done = λ k h. absurd (omega arith);
  rest = λ k h. refl;
}

value_is : (before : Offset) (old : List ℤ) (now next : Offset) (y : ℤ) (i : ℕ) → now ≡ offset_after before old i → next ≡ offset_after before old (i + 1)
    → y ≡ emphasised next.mp now.mp → y ≡ preprocessed before old i
unfolding preprocessed
value_is before old now next y i now_is next_is y_is = y_is ∙ (rw (now_is, next_is) refl)

pub Preprocesses-more : (before : Offset) (old new : List ℤ) (now next : Offset) (y : ℤ) (i : ℕ) → i < length new → Preprocesses before old new now i
    → next ≡ next_offset now (at new i) → y ≡ emphasised next.mp now.mp → Preprocesses before old (set new i y) next (i + 1)
Preprocesses-more before old new now next y i inside done next_is y_is =
    let later : next ≡ offset_after before old (i + 1) = next_is ∙ (rw (done.now_is, done.rest i (omega arith), offset_after-more before old i) refl) in
    record {
      size = length-set new i y ∙ done.size;
      now_is = later;
      done = λ k h. elim (cases_lt k i) [
        | inl earlier ↦ let other : k ≢ i = omega arith in rw get_or-set_other (done.done k earlier)
        | inr here ↦ let same : k ≡ i = omega arith in rw (same, get_or-set_same) (value_is before old now next y i done.now_is later y_is)
      ];
      rest = λ k h. let other : k ≢ i = omega arith in rw get_or-set_other (done.rest k (omega arith));
    }
