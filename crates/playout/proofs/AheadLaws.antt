-- The number that is told ahead: that there is just one, and the formula for it.
use Rattle.std.proofs.Common.{◌≡◌, ℕ, ◌+◌, ◌-◌, ◌*◌, ◌/◌, ◌%◌, ◌<◌, sym, ap, ◌∙◌, inl, inr, arith}
use Rattle.std.proofs.Math.Nat.{add-mul, div-add-mod', mod-eq_of_lt, mod-lt, mul-add-mod_self_right}
use Rattle.std.proofs.lemmas.Bool.{cases_lt}
use Rattle.playout.specs.Machine.{IsAhead}
use Rattle.playout.specs.Plays.{AheadIsLeast}
use Rattle.playout.specs.Turns.{turn_apart}

pub least : AheadIsLeast
least r p n ahead other is low congruent = elim (cases_lt other ahead) [
  | inl below ↦
      let apart = turn_apart other ahead r below (congruent ∙ sym is.congruent) in
      absurd (omega (arith, apart, is.near))
  | inr above ↦ above
]

pub one_ahead : (r p n a b : ℕ) → IsAhead r p n a → IsAhead r p n b → a ≡ b
one_ahead r p n a b one two =
    omega (arith, least r p n a b one two.reached two.congruent, least r p n b a two one.reached one.congruent)

around : (r q a b : ℕ) → a < r → b < r → (q * r + b + (a + r - b) % r) % r ≡ a
around r q a b la lb = elim (cases_lt a b) [
  | inl lt ↦
      let e : (a + r - b) % r ≡ a + r - b = mod-eq_of_lt (omega arith) in
      let more : (q + 1) * r ≡ q * r + 1 * r = add-mul q 1 r in
      let whole : q * r + b + (a + r - b) % r ≡ (q + 1) * r + a = omega (arith, e, more) in
      ap (λ (x : ℕ). x % r) whole ∙ mul-add-mod_self_right (q + 1) r a ∙ mod-eq_of_lt la
  | inr le ↦
      let e : (a + r - b) % r ≡ a - b = ap (λ (x : ℕ). x % r) (let s : a + r - b ≡ 1 * r + (a - b) = omega arith in s) ∙ mul-add-mod_self_right 1 r (a - b) ∙ mod-eq_of_lt (omega arith) in
      let whole : q * r + b + (a + r - b) % r ≡ q * r + a = omega (arith, e) in
      ap (λ (x : ℕ). x % r) whole ∙ mul-add-mod_self_right q r a ∙ mod-eq_of_lt la
]

pub formula_is_ahead : (r p n : ℕ) → 0 < r → IsAhead r p n (p + (n % r + r - p % r) % r)
formula_is_ahead r p n pos =
    let split : p / r * r + p % r ≡ p = div-add-mod' p r in
    record {
      reached = omega arith;
      near = omega (arith, mod-lt (n % r + r - p % r) pos);
      congruent = ap (λ (x : ℕ). (x + (n % r + r - p % r) % r) % r) (sym split) ∙ around r (p / r) (n % r) (p % r) (mod-lt n pos) (mod-lt p pos);
    }
