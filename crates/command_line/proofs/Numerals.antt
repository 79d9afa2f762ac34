-- Numbers in decimal digits.
use Rattle.std.proofs.Common.{◌≡◌, ℕ, ◌<◌, ◌≤◌, ◌==◌, ◌&&◌, nat_lt, nat_le, cond, Bool, true, false, List, [], ◌∷◌, length, drop, slice_index, Some, None, refl, sym, ap, ◌∙◌, arith}
use Rattle.std.proofs.lemmas.Bool.Decides.{nat_tests}
use Rattle.std.specs.List.{list_all}
use Rattle.std.specs.Char.{digit_value}
use Rattle.std.specs.Str.Parse.{AllDigits, IsNumeral, digits_value, without_leading_plus}
use Rattle.command_line.specs.Values.{is_number, number_in}

all_pass : (ds : List ℕ) → AllDigits 10 ds → list_all (λ d. nat_lt (digit_value d) 10) ds ≡ true
all_pass [] h = refl
all_pass (d ∷ ds) h =
    let e : nat_lt (digit_value d) 10 ≡ true = below (digit_value d) 10 h.0 in
    ap (λ (b : Bool). b && list_all (λ d. nat_lt (digit_value d) 10) ds) e ∙ all_pass ds h.1
  where
    below : (m n : ℕ) → m < n → nat_lt m n ≡ true
    below m n h = grind (arith, nat_tests)

both : (a b : Bool) → (a && b) ≡ true → (a ≡ true) × (b ≡ true)
both true b e = (refl, e)
both false b e = cc

lt_is : (m n : ℕ) → nat_lt m n ≡ true → m < n
lt_is m n e = grind (arith, nat_tests)

le_is : (m n : ℕ) → nat_le m n ≡ true → m ≤ n
le_is m n e = grind (arith, nat_tests)

is_lt : (m n : ℕ) → m < n → nat_lt m n ≡ true
is_lt m n e = grind (arith, nat_tests)

is_le : (m n : ℕ) → m ≤ n → nat_le m n ≡ true
is_le m n e = grind (arith, nat_tests)

pass_all : (ds : List ℕ) → list_all (λ d. nat_lt (digit_value d) 10) ds ≡ true → AllDigits 10 ds
pass_all [] h = tt
pass_all (d ∷ ds) h = let two = both (nat_lt (digit_value d) 10) _ h in (lt_is (digit_value d) 10 two.0, pass_all ds two.1)

two_true : (a b : Bool) → a ≡ true → b ≡ true → (a && b) ≡ true
two_true a b p q = ap (λ (x : Bool). x && b) p ∙ q

abbrev within : ℕ → ℕ → ℕ → Bool
within low high n = nat_le low n && nat_le n high

pub is_inside : (low high : ℕ) (ds : List ℕ) → IsNumeral 10 ds → low ≤ digits_value 10 ds → digits_value 10 ds ≤ high → Some (digits_value 10 ds) ≡ number_in low high ds
is_inside low high ds h a b =
    let number : is_number ds ≡ true = two_true _ _ (is_lt 0 (length ds) h.0) (all_pass ds h.1) in
    let inside : within low high (digits_value 10 ds) ≡ true = two_true _ _ (is_le low (digits_value 10 ds) a) (is_le (digits_value 10 ds) high b) in
    sym (ap (λ (b : Bool). cond b (Some (digits_value 10 ds)) None) (two_true (is_number ds) (within low high (digits_value 10 ds)) number inside))

pub is_outside : (low high : ℕ) (ds : List ℕ) → (IsNumeral 10 ds → low ≤ digits_value 10 ds → digits_value 10 ds ≤ high → ⊥) → None ≡ number_in low high ds
is_outside low high ds never = go (is_number ds && within low high (digits_value 10 ds)) refl
  where
    go : (b : Bool) → (is_number ds && within low high (digits_value 10 ds)) ≡ b → None ≡ cond b (Some (digits_value 10 ds)) None
    go false e = refl
    go true e =
        let two = both (is_number ds) (within low high (digits_value 10 ds)) e in
        let number = both (nat_lt 0 (length ds)) _ two.0 in
        let inside = both (nat_le low (digits_value 10 ds)) (nat_le (digits_value 10 ds) high) two.1 in
        absurd (never (lt_is 0 (length ds) number.0, pass_all ds number.1) (le_is low _ inside.0) (le_is _ high inside.1))

pub no_plus : (bs : List ℕ) → (slice_index bs 0 == 43) ≡ false → without_leading_plus bs ≡ bs
no_plus bs e = ap (λ (b : Bool). drop (cond b 1 0) bs) e
