-- The frames that are left, read one by one.
use Rattle.std.proofs.Common.{◌≡◌, ◌≢◌, ℕ, suc, zero, ◌+◌, ◌-◌, ◌%◌, ◌/◌, ◌<◌, ◌≤◌, List, [], ◌∷◌, ◌++◌, length, Some, None, Bool, true, false, cond, refl, sym, ap, ◌∙◌, arith, append_assoc, append-nil}
use Rattle.std.specs.Prelude.{slice_index, slice_index_or, nat_lt, not, ◌==◌, ◌&&◌}
use mathlib.Core.Option.{some}
use mathlib.Core.Option as maybe
use lib.ListN.{get_elem?}
use Rattle.std.proofs.lemmas.Bool.Decides.{nat_tests}
use Rattle.step_table.specs.Packed.{Kept}
use Rattle.slot_ring.specs.Remains.{read_at, with_number, pairs_from}

word_in : (xs : List ℕ) (i x : ℕ) → get_elem? xs i ≡ some x → slice_index xs i ≡ x
word_in [] i x e = absurd (maybe.some-ne-none x (sym e))
word_in (y ∷ ys) zero x e = maybe.some-injective y x e
word_in (y ∷ ys) (suc i) x e = word_in ys i x e

pub value_at : {A : Type 0} (xs : List A) (i : ℕ) (x d : A) → get_elem? xs i ≡ some x → slice_index_or xs i d ≡ x
value_at [] i x d e = absurd (maybe.some-ne-none x (sym e))
value_at (y ∷ ys) zero x d e = maybe.some-injective y x e
value_at (y ∷ ys) (suc i) x d e = value_at ys i x d e

pub beyond : (xs : List Kept) (i : ℕ) → length xs ≤ i → slice_index_or xs i None ≡ None
beyond [] i low = refl
beyond (x ∷ xs) zero low = absurd (omega arith)
beyond (x ∷ xs) (suc i) low = beyond xs i (omega arith)

abbrev chosen : List Kept → ℕ → ℕ → Kept
chosen cells n word = cond ((word % 281474976710656 == n) && not (nat_lt word 9223372036854775808)) (slice_index_or cells (word / 281474976710656 % 32768) None) None

reads_as : (r : ℕ) (words : List ℕ) (cells : List Kept) (n word : ℕ) → get_elem? words (n % r) ≡ some word → read_at r words cells n ≡ chosen cells n word
reads_as r words cells n word e = ap (chosen cells n) (word_in words (n % r) word e)

pub other_number : (r : ℕ) (words : List ℕ) (cells : List Kept) (n word : ℕ) → get_elem? words (n % r) ≡ some word → word % 281474976710656 ≢ n → None ≡ read_at r words cells n
other_number r words cells n word e differs = let d : (word % 281474976710656 == n) ≡ false = grind (arith, nat_tests) in sym (reads_as r words cells n word e ∙ (λ i. cond (d i && not (nat_lt word 9223372036854775808)) (slice_index_or cells (word / 281474976710656 % 32768) None) None))

pub free_number : (r : ℕ) (words : List ℕ) (cells : List Kept) (n word : ℕ) → get_elem? words (n % r) ≡ some word → word < 9223372036854775808 → None ≡ read_at r words cells n
free_number r words cells n word e low =
    let d : nat_lt word 9223372036854775808 ≡ true = grind (arith, nat_tests) in
    sym (reads_as r words cells n word e ∙ ((λ i. cond ((word % 281474976710656 == n) && not (d i)) (slice_index_or cells (word / 281474976710656 % 32768) None) None) ∙ no (word % 281474976710656 == n)))
  where
    no : (b : Bool) → cond (b && false) (slice_index_or cells (word / 281474976710656 % 32768) None) None ≡ None
    no true = refl
    no false = refl

pub full_number : (r : ℕ) (words : List ℕ) (cells : List Kept) (n word : ℕ) → get_elem? words (n % r) ≡ some word → word % 281474976710656 ≡ n → (word < 9223372036854775808 → ⊥) → slice_index_or cells (word / 281474976710656 % 32768) None ≡ read_at r words cells n
full_number r words cells n word e same high =
    let d : (word % 281474976710656 == n) ≡ true = grind (arith, nat_tests) in let f : nat_lt word 9223372036854775808 ≡ false = grind (arith, nat_tests) in
    sym (reads_as r words cells n word e ∙ (λ i. cond (d i && not (f i)) (slice_index_or cells (word / 281474976710656 % 32768) None) None))

-- one number more was read
pub one_read : (g : ℕ → Kept) (a i count : ℕ) (now next : List (ℕ × List ℕ)) (whole : List (ℕ × List ℕ)) → i < count → now ++ pairs_from g (a + i) (count - i) ≡ whole
    → next ++ [] ≡ now ++ with_number (a + i) (g (a + i)) [] → next ++ pairs_from g (a + (i + 1)) (count - (i + 1)) ≡ whole
one_read g a i count now next whole low h e =
    let rest : ℕ = count - (i + 1) in
    let more : count - i ≡ suc rest = omega arith in
    let place : a + i + 1 ≡ a + (i + 1) = omega arith in
    let is : pairs_from g (a + i) (count - i) ≡ with_number (a + i) (g (a + i)) [] ++ pairs_from g (a + (i + 1)) rest =
    ap (pairs_from g (a + i)) more ∙ (split (g (a + i)) (pairs_from g (a + i + 1) rest) ∙ ap (λ (n : ℕ). with_number (a + i) (g (a + i)) [] ++ pairs_from g n rest) place) in
    sym (append_assoc next [] (pairs_from g (a + (i + 1)) rest)) ∙ (ap (λ (l : List (ℕ × List ℕ)). l ++ pairs_from g (a + (i + 1)) rest) e ∙ (append_assoc now (with_number (a + i) (g (a + i)) []) (pairs_from g (a + (i + 1)) rest) ∙ (ap (λ (l : List (ℕ × List ℕ)). now ++ l) (sym is) ∙ h)))
  where
    split : (x : Kept) (l : List (ℕ × List ℕ)) → with_number (a + i) x l ≡ with_number (a + i) x [] ++ l
    split None l = refl
    split (Some f) l = refl

pub pushed : (now next : List (ℕ × List ℕ)) (n : ℕ) (f : List ℕ) (x y : Kept) → next ≡ now ++ (n, f) ∷ [] → y ≡ Some f → y ≡ x → next ++ [] ≡ now ++ with_number n x []
pushed now next n f x y e is same = append-nil next ∙ (e ∙ ap (λ (z : Kept). now ++ with_number n z []) (sym is ∙ same))

pub unpushed : (now next : List (ℕ × List ℕ)) (n : ℕ) (x y : Kept) → next ≡ now → y ≡ None → y ≡ x → next ++ [] ≡ now ++ with_number n x []
unpushed now next n x y e is same = append-nil next ∙ (e ∙ (sym (append-nil now) ∙ ap (λ (z : Kept). now ++ with_number n z []) (sym is ∙ same)))
