-- What a test of each number below a bound tells.
use Rattle.std.proofs.Common.{◌≡◌, ℕ, zero, suc, ◌<◌, Bool, true, ◌&&◌, eqb, ltb, ℤ, int_eq, refl}
use Rattle.std.proofs.lemmas.Bool.Decides.{Decides-below_and, Decides-eqb, Decides-int_eq, Decides-ltb}

abbrev pub all_to : (ℕ → Bool) → ℕ → Bool
all_to p zero = true
all_to p (suc n) = p n && all_to p n

pub less_by_table : (f g : ℕ → ℕ) (n : ℕ) → all_to (λ k. ltb (f k) (g k)) n ≡ true → (k : ℕ) → k < n → f k < g k
less_by_table f g n = (Decides-below_and (λ k. ltb (f k) (g k)) (λ k. f k < g k) (all_to (λ k. ltb (f k) (g k))) (λ k. Decides-ltb (f k) (g k)) refl (λ _. refl) n).0

pub same_by_table : (f g : ℕ → ℕ) (n : ℕ) → all_to (λ k. eqb (f k) (g k)) n ≡ true → (k : ℕ) → k < n → f k ≡ g k
same_by_table f g n = (Decides-below_and (λ k. eqb (f k) (g k)) (λ k. f k ≡ g k) (all_to (λ k. eqb (f k) (g k))) (λ k. Decides-eqb (f k) (g k)) refl (λ _. refl) n).0

pub same_int_by_table : (f g : ℕ → ℤ) (n : ℕ) → all_to (λ k. int_eq (f k) (g k)) n ≡ true → (k : ℕ) → k < n → f k ≡ g k
same_int_by_table f g n = (Decides-below_and (λ k. int_eq (f k) (g k)) (λ k. f k ≡ g k) (all_to (λ k. int_eq (f k) (g k))) (λ k. Decides-int_eq (f k) (g k)) refl (λ _. refl) n).0
