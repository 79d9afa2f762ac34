-- The best code by search is the compressed one.
use Rattle.std.proofs.Common.{◌≡◌, ◌⊎◌, ℕ, zero, suc, ◌<◌, ◌≤◌, Bool, true, false, ◌&&◌, ◌||◌, cond, eqb, leb, ltb, ℤ, refl, subst, arith, inl, inr}
use Rattle.std.specs.Prelude.{unsigned_abs}
use Rattle.std.proofs.lemmas.Bool.{cases_lt}
use Rattle.std.proofs.lemmas.Bool.Decides.{nat_tests}
use Rattle.g711_leg.specs.declared.law.Law.{Law}
use Rattle.g711_leg.specs.Codes.{IsAsGood, IsCompressed, distance, value_of}
use Rattle.g711_leg.specs.Best.{best_to, code_of, is_better}
use Rattle.g711_leg.proofs.BackLaws.{one_code}

-- distance a and magnitude m of c, and those of d
abbrev Good : ℕ → ℕ → ℕ → ℕ → ℕ → ℕ → Type 0
Good a m c b n d = (a < b) ⊎ ((a ≡ b) × ((m < n) ⊎ ((m ≡ n) × (d ≤ c))))

better : (a b m n c d : ℕ) → (ltb a b || (eqb a b && leb m n)) ≡ true → d ≤ c → Good a m c b n d
better a b m n c d test le = elim (cases_lt a b) [
  | inl less ↦ inl less
  | inr high ↦ let e : a ≡ b = grind (arith, nat_tests) in
      let f : m ≤ n = grind (arith, nat_tests) in
      inr (
        e,
        elim (cases_lt m n) [
          | inl small ↦ inl small
          | inr large ↦ inr (omega arith, le)
        ],
      )
]

worse : (a b m n c d : ℕ) → (ltb a b || (eqb a b && leb m n)) ≡ false → Good b n d a m c
worse a b m n c d test = elim (cases_lt b a) [
  | inl less ↦ inl less
  | inr high ↦ let e : b ≡ a = grind (arith, nat_tests) in
      let f : n < m = grind (arith, nat_tests) in
      inr (e, inl f)
]

good_after : (a m c b n d e o f : ℕ) → Good a m c b n d → Good b n d e o f → Good a m c e o f
good_after a m c b n d e o f (inl h) (inl k) = inl (omega arith)
good_after a m c b n d e o f (inl h) (inr (k, l)) = inl (omega arith)
good_after a m c b n d e o f (inr (h, i)) (inl k) = inl (omega arith)
good_after a m c b n d e o f (inr (h, inl i)) (inr (k, inl l)) = inr (omega arith, inl (omega arith))
good_after a m c b n d e o f (inr (h, inl i)) (inr (k, inr (l, le))) = inr (omega arith, inl (omega arith))
good_after a m c b n d e o f (inr (h, inr (i, ge))) (inr (k, inl l)) = inr (omega arith, inl (omega arith))
good_after a m c b n d e o f (inr (h, inr (i, ge))) (inr (k, inr (l, le))) = inr (omega arith, inr (omega arith, omega arith))

-- what is chosen so far is as good as each code up to n
record BestTo (law : Law) (x : ℤ) (n c : ℕ) : Type 0 where
  pub within : c ≤ n
  pub best : (d : ℕ) → d ≤ n → IsAsGood law x c d

good_itself : (law : Law) (x : ℤ) (c : ℕ) → IsAsGood law x c c
good_itself law x c = inr (refl, inr (refl, omega arith))

one_more : (law : Law) (x : ℤ) (n b : ℕ) (test : Bool) → is_better law x (suc n) b ≡ test → BestTo law x n b → BestTo law x (suc n) (cond test (suc n) b)
one_more law x n b true is so_far = record {
  within = omega arith;
  best = λ d le. elim (cases_lt n d) [
    | inl last ↦ let e : suc n ≡ d = omega arith in subst (IsAsGood law x (suc n)) e (good_itself law x (suc n))
    | inr earlier ↦ good_after (distance law x (suc n)) (unsigned_abs (value_of law (suc n))) (suc n) (distance law x b) (unsigned_abs (value_of law b)) b
        (distance law x d) (unsigned_abs (value_of law d)) d
        (better (distance law x (suc n)) (distance law x b) (unsigned_abs (value_of law (suc n))) (unsigned_abs (value_of law b)) (suc n) b is (omega (arith, so_far.within)))
        (so_far.best d earlier)
  ];
}
one_more law x n b false is so_far = record {
  within = omega (arith, so_far.within);
  best = λ d le. elim (cases_lt n d) [
    | inl last ↦ let e : suc n ≡ d = omega arith in subst (IsAsGood law x b) e
        (worse (distance law x (suc n)) (distance law x b) (unsigned_abs (value_of law (suc n))) (unsigned_abs (value_of law b)) (suc n) b is)
    | inr earlier ↦ so_far.best d earlier
  ];
}

best_so_far : (law : Law) (x : ℤ) (n : ℕ) → BestTo law x n (best_to law x n)
unfolding best_to
best_so_far law x zero = record { within = omega arith; best = λ d le. let e : 0 ≡ d = omega arith in subst (IsAsGood law x 0) e (good_itself law x 0) }
best_so_far law x (suc n) = one_more law x n (best_to law x n) (is_better law x (suc n) (best_to law x n)) refl (best_so_far law x n)

compressed_to : (law : Law) (x : ℤ) → IsCompressed law x (code_of law x)
unfolding code_of
compressed_to law x = let b = best_so_far law x 255 in (omega (arith, b.within), λ d few. b.best d (omega arith))

-- a compressed code is the one that the function tells
pub code_is_best : (law : Law) (x : ℤ) (c : ℕ) → IsCompressed law x c → c ≡ code_of law x
code_is_best law x c best = one_code law x c (code_of law x) best (compressed_to law x)
