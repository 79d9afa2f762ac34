-- There is one best code, and a code's sample has that code.
use Rattle.std.proofs.Common.{◌≡◌, ◌⊎◌, ℕ, zero, suc, ◌+◌, ◌-◌, ◌<◌, ◌≤◌, Bool, true, false, eqb, ℤ, pos, refl, sym, ap, ◌∙◌, subst, arith, inl, inr}
use Rattle.std.specs.Prelude.{neg_ℤ, unsigned_abs}
use Rattle.std.proofs.lemmas.Bool.Decides.{nat_tests}
use Rattle.g711_leg.specs.declared.law.Law.{Law}
use Rattle.g711_leg.specs.declared.law.Law.TheVariants.{Mu, A}
use Rattle.g711_leg.specs.Codes.{ComesBack, IsCompressed, back_of, distance, magnitude_of, value_of}
use Rattle.g711_leg.specs.Levels.{IsNearest}
use Rattle.g711_leg.proofs.CodeLaws.{Coded, IsCode, best_above, best_under, code_is, coded, positive_a, positive_mu, zero_magnitude}
use Rattle.g711_leg.proofs.LevelLaws.{rises}

-- both are as good as the other
both_ways : (a b m n c d : ℕ) → (a < b) ⊎ ((a ≡ b) × ((m < n) ⊎ ((m ≡ n) × (d ≤ c)))) → (b < a) ⊎ ((b ≡ a) × ((n < m) ⊎ ((n ≡ m) × (c ≤ d)))) → c ≡ d
both_ways a b m n c d (inl h) (inl k) = omega arith
both_ways a b m n c d (inl h) (inr (k, l)) = omega arith
both_ways a b m n c d (inr (h, i)) (inl k) = omega arith
both_ways a b m n c d (inr (h, inl i)) (inr (k, inl l)) = omega arith
both_ways a b m n c d (inr (h, inl i)) (inr (k, inr (l, le))) = omega arith
both_ways a b m n c d (inr (h, inr (i, ge))) (inr (k, inl l)) = omega arith
both_ways a b m n c d (inr (h, inr (i, ge))) (inr (k, inr (l, le))) = omega arith

-- a sample has one best code
pub one_code : (law : Law) (x : ℤ) (c d : ℕ) → IsCompressed law x c → IsCompressed law x d → c ≡ d
one_code law x c d p q =
    both_ways (distance law x c) (distance law x d) (unsigned_abs (value_of law c)) (unsigned_abs (value_of law d)) c d (p.1 d q.0) (q.1 c p.0)

-- a level's magnitude is nearest to itself
nearest_itself : (law : Law) (k : ℕ) → k < 128 → IsNearest (magnitude_of law) (magnitude_of law k) k
nearest_itself law k few = record {
  few = few;
  low = λ h. omega (arith, rises law (k - 1) k (omega arith) few);
  high = λ h. omega (arith, rises law k (k + 1) (omega arith) (omega arith));
}

back_plain : (law : Law) (code : ℕ) (sign : Bool) (k : ℕ) → IsCode law code sign k → code < 256 → (sign ≡ true → 0 < magnitude_of law k)
    → IsCompressed law (value_of law code) code
back_plain law code false k is few positive =
    subst (λ (x : ℤ). IsCompressed law x code) (sym is.value)
    (few, λ d less. best_above law (magnitude_of law k) k code (nearest_itself law k is.few) is.value is.code d (coded law d less))
back_plain law code true k is few positive =
    subst (λ (x : ℤ). IsCompressed law x code) (sym is.value)
    (few, λ d less. best_under law (magnitude_of law k) k code (nearest_itself law k is.few) is.value (omega (arith, is.code)) (inr (positive refl, positive refl)) d (coded law d less))

back_zero : (code : ℕ) → IsCode Mu code true 0 → IsCompressed Mu (value_of Mu code) 255
back_zero code is =
    subst (λ (x : ℤ). IsCompressed Mu x 255) (sym (is.value ∙ ap (λ (n : ℕ). neg_ℤ (pos n)) zero_magnitude))
    (omega arith, λ d less. best_above Mu 0 0 255 (subst (λ (n : ℕ). IsNearest (magnitude_of Mu) n 0) zero_magnitude (nearest_itself Mu 0 (omega arith))) (code_is Mu false 0 (omega arith)).value refl d (coded Mu d less))

back_code : (law : Law) (code : ℕ) → code < 256 → Coded law code → IsCompressed law (value_of law code) (back_of law code)
back_code Mu code few (false, k, is) =
    let e : eqb code 127 ≡ false = grind (arith, nat_tests, is.code, is.few) in
    rw e (back_plain Mu code false k is few (λ h. absurd (cc)))
back_code Mu code few (true, zero, is) = rw is.code (let h = back_zero code is in rw is.code at h)
back_code Mu code few (true, suc k, is) =
    let e : eqb code 127 ≡ false = grind (arith, nat_tests, is.code, is.few) in
    rw e (back_plain Mu code true (suc k) is few (λ h. positive_mu (suc k) (omega arith) is.few))
back_code A code few (sign, k, is) = back_plain A code sign k is few (λ h. positive_a k is.few)

pub back : ComesBack
back law code c few compressed = one_code law (value_of law code) c (back_of law code) compressed (back_code law code few (coded law code few))
