-- The frames that are left are the machine's, in rising number.
use Rattle.std.proofs.Common.{◌≡◌, ◌≢◌, ◌⊎◌, inl, inr, ℕ, suc, zero, ◌+◌, ◌<◌, ◌≤◌, List, Some, None, Bool, true, false, cond, refl, sym, ap, ◌∙◌, subst, arith}
use Rattle.std.specs.Prelude.{◌&&◌, T}
use native.Mathlib.Decide.{ℕ_discrete}
use Rattle.std.proofs.lemmas.Bool.Decides.{nat_tests}
use Rattle.std.specs.FinMap as finmap
use Rattle.std.specs.FinMap.{gets}
use Rattle.std.specs.FinMap.Entries.{find, below_all, is_sorted}
use Rattle.std.specs.Ordering.{nat_cmp, eq_by_cmp}
use Rattle.std.specs.Cmp.{nat_cmp_total}
use Rattle.playout.specs.Machine.{Frames}
use Rattle.step_table.specs.Packed.{Kept}
use Rattle.slot_ring.specs.Remains.{with_number, pairs_from}

differs : (q n : ℕ) → q ≢ n → eq_by_cmp nat_cmp q n ≡ false
differs q n other = grind (arith, gets, nat_tests)

same : (n : ℕ) → eq_by_cmp nat_cmp n n ≡ true
same n = grind (arith, gets, nat_tests)

find_else : (q n : ℕ) (x : Kept) (rest : List (ℕ × List ℕ)) → q ≢ n → find nat_cmp q (with_number n x rest) ≡ find nat_cmp q rest
find_else q n None rest other = refl
find_else q n (Some f) rest other = ap (λ (b : Bool). cond b (Some f) (find nat_cmp q rest)) (differs q n other)

find_here : (n : ℕ) (x : Kept) (rest : List (ℕ × List ℕ)) → find nat_cmp n rest ≡ None → find nat_cmp n (with_number n x rest) ≡ x
find_here n None rest e = e
find_here n (Some f) rest e = ap (λ (b : Bool). cond b (Some f) (find nat_cmp n rest)) (same n)

module _ (g : ℕ → Kept) where
  find_below : (q a c : ℕ) → q < a → find nat_cmp q (pairs_from g a c) ≡ None
  find_below q a zero low = refl
  find_below q a (suc c) low = find_else q a (g a) (pairs_from g (a + 1) c) (λ e. absurd (omega arith)) ∙ find_below q (a + 1) c (omega arith)

  find_above : (q a c : ℕ) → a + c ≤ q → find nat_cmp q (pairs_from g a c) ≡ None
  find_above q a zero high = refl
  find_above q a (suc c) high = find_else q a (g a) (pairs_from g (a + 1) c) (λ e. absurd (omega arith)) ∙ find_above q (a + 1) c (omega arith)

  find_in : (q a c : ℕ) → a ≤ q → q < a + c → find nat_cmp q (pairs_from g a c) ≡ g q
  find_in q a zero low high = absurd (omega arith)
  find_in q a (suc c) low high =
      elim (ℕ_discrete q a) [
        | yes e ↦ subst (λ (n : ℕ). find nat_cmp n (pairs_from g a (suc c)) ≡ g n) (sym e) (find_here a (g a) (pairs_from g (a + 1) c) (find_below a (a + 1) c (omega arith)))
        | no n ↦ let apart : (q ≡ a → ⊥) = n in find_else q a (g a) (pairs_from g (a + 1) c) n ∙ find_in q (a + 1) c (grind arith) (omega arith)
      ]

  below_with : (x n : ℕ) (y : Kept) (rest : List (ℕ × List ℕ)) → x < n → below_all nat_cmp x rest ≡ true → below_all nat_cmp x (with_number n y rest) ≡ true
  below_with x n None rest low h = h
  below_with x n (Some f) rest low h = grind (arith, gets, nat_tests)

  below : (x a c : ℕ) → x < a → below_all nat_cmp x (pairs_from g a c) ≡ true
  below x a zero low = refl
  below x a (suc c) low = below_with x a (g a) (pairs_from g (a + 1) c) low (below x (a + 1) c (omega arith))

  sorted_with : (n : ℕ) (y : Kept) (rest : List (ℕ × List ℕ)) → below_all nat_cmp n rest ≡ true → is_sorted nat_cmp rest ≡ true → is_sorted nat_cmp (with_number n y rest) ≡ true
  sorted_with n None rest low h = h
  sorted_with n (Some f) rest low h = (λ i. low i && is_sorted nat_cmp rest) ∙ h

  sorted : (a c : ℕ) → is_sorted nat_cmp (pairs_from g a c) ≡ true
  sorted a zero = refl
  sorted a (suc c) = sorted_with a (g a) (pairs_from g (a + 1) c) (below a (a + 1) c (omega arith)) (sorted (a + 1) c)

none_some : {f : List ℕ} → Path Kept None (Some f) → ⊥
none_some e = cc

pub entries_are : (m : Frames) (g : ℕ → Kept) (a c : ℕ) → ((n : ℕ) → g n ≡ finmap.get m n) → ((n : ℕ) (f : List ℕ) → finmap.get m n ≡ Some f → (a ≤ n) × (n < a + c)) → pairs_from g a c ≡ finmap.entries m
entries_are m g a c reads inside =
    let es : List (ℕ × List ℕ) = pairs_from g a c in
    let rises : T (is_sorted nat_cmp es) = subst T (sym (sorted g a c)) tt in
    sym (finmap.entries-from_sorted nat_cmp es rises)
    ∙ ap (finmap.entries {R = nat_cmp}) (finmap.same_map nat_cmp_total finmap.nat_cmp-IsAntisymmetric (finmap.from_sorted {R = nat_cmp} es) m (λ q. finmap.get-from_sorted nat_cmp es q rises ∙ found q))
  where
    cut : (q : ℕ) → (q < a) ⊎ ((a + c ≤ q) ⊎ ((a ≤ q) × (q < a + c)))
    cut q = grind arith

    nothing : (q : ℕ) (o : Kept) → finmap.get m q ≡ o → ((a ≤ q) × (q < a + c) → ⊥) → finmap.get m q ≡ None
    nothing q None e out = e
    nothing q (Some f) e out = absurd (out (inside q f e))

    found : (q : ℕ) → find nat_cmp q (pairs_from g a c) ≡ finmap.get m q
    found q =
        elim (cut q) [
          | inl low ↦ find_below g q a c low ∙ sym (nothing q (finmap.get m q) refl (λ h. let one : a ≤ q = h.0 in absurd (omega arith)))
          | inr rest ↦ elim rest [
            | inl high ↦ find_above g q a c high ∙ sym (nothing q (finmap.get m q) refl (λ h. let one : q < a + c = h.1 in absurd (omega arith)))
            | inr within ↦ find_in g q a c within.0 within.1 ∙ reads q
          ]
        ]
