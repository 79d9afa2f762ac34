-- The recursion of Schur: only the first values of its rows decide, and its turns as they are computed in place.
use Rattle.std.proofs.Common.{◌≡◌, ◌≢◌, ℕ, zero, suc, ◌+◌, ◌-◌, ◌<◌, ◌≤◌, ℤ, pos, negsuc, true, false, List, [], ◌∷◌, ◌++◌, take, drop, replicate, length, length-set, length-drop, set, refl, ◌∙◌, ap, sym, arith, take-append-drop, get_or-set_same, get_or-set_other, inl, inr, append_assoc, append-nil}
use Rattle.std.specs.Prelude.{int_lt, neg_ℤ, ◌-ℤ◌}
use Rattle.std.proofs.lemmas.Bool.{cases_lt}
use Rattle.std.proofs.lemmas.Int.{ints}
use Rattle.std.proofs.lemmas.List.{take_more_set, ext_get_or, get_or-drop, get_or_past}
use Rattle.std.proofs.Math.Seq.{take-length}
use Rattle.std.proofs.lemmas.Simd.{length-replicate, get_or-replicate}
use Rattle.fixed_arith.specs.Word.{add_words, mult_r_words, abs_of_word}
use Rattle.fixed_arith.specs.Signal.{at}
use Rattle.lar_filter.specs.Reflections.{next_p, next_k, quotients, quotient_of, normal_word, reflections}

next_p_at : (r : ℤ) (p k : ℕ → ℤ) (m : ℕ) → 1 ≤ m → next_p r p k m ≡ add_words (p (m + 1)) (mult_r_words (k m) r)
unfolding next_p
next_p_at r p k zero some = absurd (omega arith)
next_p_at r p k (suc m) some = refl

next_p_same : (r : ℤ) (turns : ℕ) (p k q l : ℕ → ℤ) → ((m : ℕ) → m ≤ suc turns → p m ≡ q m) → ((m : ℕ) → 1 ≤ m → m ≤ suc turns → k m ≡ l m)
    → (m : ℕ) → m ≤ turns → next_p r p k m ≡ next_p r q l m
unfolding next_p
next_p_same r turns p k q l ps ks zero most = rw (ps 0 (omega arith), ps 1 (omega arith)) refl
next_p_same r turns p k q l ps ks (suc m) most = rw (ps (suc m + 1) (omega arith), ks (suc m) (omega arith) (omega arith)) refl

next_k_same : (r : ℤ) (turns : ℕ) (p k q l : ℕ → ℤ) → ((m : ℕ) → m ≤ suc turns → p m ≡ q m) → ((m : ℕ) → 1 ≤ m → m ≤ suc turns → k m ≡ l m)
    → (m : ℕ) → 1 ≤ m → m ≤ turns → next_k r p k m ≡ next_k r q l m
unfolding next_k
next_k_same r turns p k q l ps ks m some most = rw (ps (m + 1) (omega arith), ks m some (omega arith)) refl

-- rows with the same first values have the same quotients
pub quotients_same : (turns : ℕ) (p k q l : ℕ → ℤ) → ((m : ℕ) → m ≤ turns → p m ≡ q m) → ((m : ℕ) → 1 ≤ m → m ≤ turns → k m ≡ l m) → quotients turns p k ≡ quotients turns q l
unfolding quotients
quotients_same zero p k q l ps ks = refl
quotients_same (suc turns) p k q l ps ks =
    let first : p 0 ≡ q 0 = ps 0 (omega arith) in
    let second : p 1 ≡ q 1 = ps 1 (omega arith) in
    let r = quotient_of (q 0) (q 1) in
    let rest : quotients turns (next_p r p k) (next_k r p k) ≡ quotients turns (next_p r q l) (next_k r q l) =
    quotients_same turns (next_p r p k) (next_k r p k) (next_p r q l) (next_k r q l) (next_p_same r turns p k q l ps ks) (next_k_same r turns p k q l ps ks) in
    rw (first, second, rest) refl

-- the values of the turn as far as m are done
pub record Turning (r : ℤ) (p_old k_old p k : List ℤ) (m : ℕ) : Type 0 where
  pub p_size : length p ≡ 9
  pub k_size : length k ≡ 9
  pub p_done : (j : ℕ) → j < m → at p j ≡ next_p r (at p_old) (at k_old) j
  pub k_done : (j : ℕ) → 1 ≤ j → j < m → at k j ≡ next_k r (at p_old) (at k_old) j
  pub p_rest : (j : ℕ) → m ≤ j → at p j ≡ at p_old j
  pub k_rest : (j : ℕ) → m ≤ j → at k j ≡ at k_old j

-- a turn begins with the first value of p
pub Turning-start : (r : ℤ) (p k : List ℤ) (x : ℤ) → length p ≡ 9 → length k ≡ 9 → x ≡ add_words (at p 0) (mult_r_words (at p 1) r) → Turning r p k (set p 0 x) k 1
unfolding next_p
Turning-start r p k x p_size k_size is =
    let room : 0 < length p = omega arith in
    record {
      p_size = length-set p 0 x ∙ p_size;
      k_size = k_size;
      p_done = λ j h. let first : j ≡ 0 = omega arith in rw (first, get_or-set_same) is;
      k_done = λ j some h. absurd (omega arith);
      p_rest = λ j h. let other : j ≢ 0 = omega arith in rw get_or-set_other refl;
      k_rest = λ j h. refl;
    }

-- one value more of both rows
pub Turning-more : (r : ℤ) (p_old k_old p k : List ℤ) (m : ℕ) (x y : ℤ) → 1 ≤ m → m < 9 → Turning r p_old k_old p k m
    → x ≡ add_words (at p (m + 1)) (mult_r_words (at k m) r) → y ≡ add_words (at k m) (mult_r_words (at p (m + 1)) r) → Turning r p_old k_old (set p m x) (set k m y) (m + 1)
unfolding next_k
Turning-more r p_old k_old p k m x y some most done x_is y_is =
    let p_room : m < length p = omega (arith, done.p_size) in
    let k_room : m < length k = omega (arith, done.k_size) in
    let above : at p (m + 1) ≡ at p_old (m + 1) = done.p_rest (m + 1) (omega arith) in
    let beside : at k m ≡ at k_old m = done.k_rest m (omega arith) in
    record {
      p_size = length-set p m x ∙ done.p_size;
      k_size = length-set k m y ∙ done.k_size;
      p_done = λ j h. elim (cases_lt j m) [
        | inl before ↦ let other : j ≢ m = omega arith in rw get_or-set_other (done.p_done j before)
        | inr here ↦ let same : j ≡ m = omega arith in rw (same, get_or-set_same) (x_is ∙ (rw (above, beside) (sym (next_p_at r (at p_old) (at k_old) m some))))
      ];
      k_done = λ j low h. elim (cases_lt j m) [
        | inl before ↦ let other : j ≢ m = omega arith in rw get_or-set_other (done.k_done j low before)
        | inr here ↦ let same : j ≡ m = omega arith in rw (same, get_or-set_same) (y_is ∙ (rw (above, beside) refl))
      ];
      p_rest = λ j h. let other : j ≢ m = omega arith in rw get_or-set_other (done.p_rest j (omega arith));
      k_rest = λ j h. let other : j ≢ m = omega arith in rw get_or-set_other (done.k_rest j (omega arith));
    }

-- n quotients are there, and those of the turns that are left complete them
pub record Reflects (values p k r : List ℤ) (n : ℕ) : Type 0 where
  pub p_size : length p ≡ 9
  pub k_size : length k ≡ 9
  pub r_size : length r ≡ 8
  pub zeros : (j : ℕ) → n ≤ j → at r j ≡ pos 0
  pub told : take n r ++ quotients (8 - n) (at p) (at k) ≡ quotients 8 (at values) (at values)

quotients_stop : (turns : ℕ) (p k : ℕ → ℤ) → int_lt (p 0) (abs_of_word (p 1)) ≡ true → quotients (suc turns) p k ≡ replicate (suc turns) (pos 0)
unfolding quotients
quotients_stop turns p k low = rw low refl

quotients_more : (turns : ℕ) (p k : ℕ → ℤ) (q : ℤ) → int_lt (p 0) (abs_of_word (p 1)) ≡ false → q ≡ quotient_of (p 0) (p 1)
    → quotients (suc turns) p k ≡ q ∷ quotients turns (next_p q p k) (next_k q p k)
unfolding quotients
quotients_more turns p k q high is = rw (high, is) refl

-- the rest of the coefficients are zeros
zeros_left : (r : List ℤ) (n left : ℕ) → n + left ≡ length r → ((j : ℕ) → n ≤ j → at r j ≡ pos 0) → drop n r ≡ replicate left (pos 0)
zeros_left r n left size zeros =
    let long : length (drop n r) ≡ left = omega (arith, length-drop n r) in
    let same : length (drop n r) ≡ length (replicate left (pos 0)) = long ∙ sym (length-replicate left (pos 0)) in
    ext_get_or (pos 0) (drop n r) (replicate left (pos 0)) same (λ i h.
    let inside : i < left = omega (arith, long) in
    rw (get_or-drop n r i (pos 0), get_or-replicate left i (pos 0) (pos 0) inside) (zeros (n + i) (omega arith)))

-- where p(0) is below the magnitude of p(1), the zeros that are left are the other coefficients
pub Reflects-stop : (values p k r : List ℤ) (n : ℕ) → n < 8 → Reflects values p k r n → int_lt (at p 0) (abs_of_word (at p 1)) ≡ true → r ≡ quotients 8 (at values) (at values)
Reflects-stop values p k r n inside done low =
    let left : 8 - n ≡ suc (7 - n) = omega arith in
    let rest : drop n r ≡ quotients (8 - n) (at p) (at k) =
    rw left (zeros_left r n (suc (7 - n)) (omega (arith, done.r_size)) done.zeros ∙ sym (quotients_stop (7 - n) (at p) (at k) low)) in
    sym (take-append-drop n r) ∙ (rw rest done.told)

-- one quotient more, and the rows of the next turn
pub Reflects-more : (values p k r p_next k_next : List ℤ) (n : ℕ) (q : ℤ) → n < 8 → Reflects values p k r n → int_lt (at p 0) (abs_of_word (at p 1)) ≡ false
    → length p_next ≡ 9 → length k_next ≡ 9 → q ≡ quotient_of (at p 0) (at p 1)
    → ((m : ℕ) → m ≤ 7 - n → at p_next m ≡ next_p q (at p) (at k) m) → ((m : ℕ) → 1 ≤ m → m ≤ 7 - n → at k_next m ≡ next_k q (at p) (at k) m)
    → Reflects values p_next k_next (set r n q) (n + 1)
Reflects-more values p k r p_next k_next n q inside done high p_size k_size is ps ks =
    let left : 8 - n ≡ suc (7 - n) = omega arith in
    let later : 8 - (n + 1) ≡ 7 - n = omega arith in
    let room : n < length r = omega (arith, done.r_size) in
    let now : quotients (8 - n) (at p) (at k) ≡ q ∷ quotients (7 - n) (at p_next) (at k_next) =
    rw left (quotients_more (7 - n) (at p) (at k) q high is
    ∙ ap (λ rest. q ∷ rest) (sym (quotients_same (7 - n) (at p_next) (at k_next) (next_p q (at p) (at k)) (next_k q (at p) (at k)) ps ks))) in
    record {
      p_size = p_size;
      k_size = k_size;
      r_size = length-set r n q ∙ done.r_size;
      zeros = λ j h. let other : j ≢ n = omega arith in rw get_or-set_other (done.zeros j (omega arith));
      told = rw (later, take_more_set r n q room) (append_assoc (take n r) (q ∷ []) (quotients (7 - n) (at p_next) (at k_next)) ∙ (rw (sym now) done.told));
    }

zero_at : (j : ℕ) → at (replicate 8 (pos 0)) j ≡ pos 0
zero_at j = elim (cases_lt j 8) [
  | inl inside ↦ get_or-replicate 8 j (pos 0) (pos 0) inside
  | inr past ↦ get_or_past (replicate 8 (pos 0)) j (pos 0) past
]

quotients_none : (p k : ℕ → ℤ) → quotients 0 p k ≡ []
unfolding quotients
quotients_none p k = refl

-- before the first turn, all coefficients are zeros
pub Reflects-start : (values r : List ℤ) → length values ≡ 9 → r ≡ replicate 8 (pos 0) → Reflects values values values r 0
Reflects-start values r size zeros = record {
  p_size = size;
  k_size = size;
  r_size = rw zeros refl;
  zeros = λ j h. rw zeros (zero_at j);
  told = refl;
}

-- after the eighth turn, all coefficients are there
pub Reflects-whole : (values p k r : List ℤ) (n : ℕ) → n ≡ 8 → Reflects values p k r n → r ≡ quotients 8 (at values) (at values)
Reflects-whole values p k r n end done =
    let none : 8 - n ≡ 0 = omega arith in
    let all : n ≡ length r = omega (arith, done.r_size) in
    let front : take n r ≡ r = rw all (take-length r) in
    sym (append-nil r) ∙ (rw (front, none, quotients_none (at p) (at k)) at done.told)

-- 0 less a value is its negative
pub minus_is : (z : ℤ) → pos 0 -ℤ z ≡ neg_ℤ z
minus_is (pos zero) = refl
minus_is (pos (suc n)) = omega (arith, ints)
minus_is (negsuc n) = omega (arith, ints)

-- where the first value is not above 0, all coefficients are 0
pub reflections_none : (acf : ℕ → ℤ) → int_lt (pos 0) (acf 0) ≡ false → replicate 8 (pos 0) ≡ reflections acf
unfolding reflections
reflections_none acf none = rw none refl

-- where it is, they are the quotients of the rows of normal words
pub reflections_some : (acf values : ℕ → ℤ) → int_lt (pos 0) (acf 0) ≡ true → ((m : ℕ) → m ≤ 8 → values m ≡ normal_word (acf 0) (acf m)) → quotients 8 values values ≡ reflections acf
unfolding reflections
reflections_some acf values some each = rw some (quotients_same 8 values values (λ m. normal_word (acf 0) (acf m)) (λ m. normal_word (acf 0) (acf m)) each (λ m low most. each m most))
