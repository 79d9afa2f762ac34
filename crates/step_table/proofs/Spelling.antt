-- Reading and writing the words of a ring.
use Rattle.std.proofs.Common.{◌≡◌, ℕ, suc, zero, ◌+◌, ◌^◌, List, [], ◌∷◌, ◌++◌, map, set, length, refl, sym, ap, ◌∙◌, subst, arith}
use Rattle.std.specs.Prelude.{slice_index}
use mathlib.Core.Option.{some, some-ne-none}
use lib.ListN.{get_elem?}
use Rattle.ring_core.specs.declared.views.Shape.{Shape}
use Rattle.ring_core.specs.Ring.{Ring, RingRule, Place, in_slot, StandsIn}
use Rattle.ring_core.specs.declared.words.SlotWord.{SlotWord}
use Rattle.ring_core.specs.declared.words.Cell.TheVariants.{AtHome}
use Rattle.step_table.specs.Packed.{Kept, pack_slot, pack_berth, words_of}
use Rattle.std.proofs.lemmas.List.{length-map}
use Rattle.atomic_table.proofs.Lists.{set_again}
use Rattle.ring_core.specs.ListPlaces.{at_exists}
use Rattle.step_table.specs.WordLaws.{index_front}
use Rattle.step_table.specs.Kinds.{source_place, base_place}

module _ {A : Type 0} (f : A → ℕ) where
  pub set_front : (xs : List A) (ys : List ℕ) (i : ℕ) (a b : A) → get_elem? xs i ≡ some a → set (map f xs ++ ys) i (f b) ≡ map f (set xs i b) ++ ys
  set_front [] ys i a b e = absurd (some-ne-none a (sym e))
  set_front (x ∷ xs) ys zero a b e = refl
  set_front (x ∷ xs) ys (suc i) a b e = ap (λ (l : List ℕ). f x ∷ l) (set_front xs ys i a b e)

module _ {B : Type 0} (g : B → ℕ) where
  pub index_middle : (front : List ℕ) (xs : List B) (ys : List ℕ) (i : ℕ) (b : B) → get_elem? xs i ≡ some b → slice_index (front ++ (map g xs ++ ys)) (length front + i) ≡ g b
  index_middle [] xs ys i b e = ap (slice_index (map g xs ++ ys)) (let h : 0 + i ≡ i = omega arith in h) ∙ index_front g xs ys i b e
  index_middle (a ∷ front) xs ys i b e = ap (slice_index (a ∷ (front ++ (map g xs ++ ys)))) (let h : length (a ∷ front) + i ≡ suc (length front + i) = omega arith in h) ∙ index_middle front xs ys i b e

  pub set_middle : (front : List ℕ) (xs : List B) (ys : List ℕ) (i : ℕ) (b c : B) → get_elem? xs i ≡ some b → set (front ++ (map g xs ++ ys)) (length front + i) (g c) ≡ front ++ (map g (set xs i c) ++ ys)
  set_middle [] xs ys i b c e = ap (λ (n : ℕ). set (map g xs ++ ys) n (g c)) (let h : 0 + i ≡ i = omega arith in h) ∙ set_front g xs ys i b c e
  set_middle (a ∷ front) xs ys i b c e = ap (λ (n : ℕ). set (a ∷ (front ++ (map g xs ++ ys))) n (g c)) (let h : length (a ∷ front) + i ≡ suc (length front + i) = omega arith in h) ∙ ap (λ (l : List ℕ). a ∷ l) (set_middle front xs ys i b c e)

-- the cell that a slot word names is at home
pub slot_value : (k : Shape) (s : Ring) (r : RingRule k s) (i : ℕ) (w : SlotWord) → get_elem? s.slots i ≡ some w → (y : Kept) × (get_elem? s.cells w.cell ≡ some (AtHome y))
slot_value k s r i w e =
    let p = r.alone (in_slot i) w.cell (w, e, refl) in
    let x = at_exists s.cells w.cell p.1 in
    let st : StandsIn (in_slot i) x.0 = subst (λ (q : Place). StandsIn q x.0) p.0 (r.named w.cell x.0 x.1).1 in
    (st.0, x.1 ∙ ap some st.1)

-- the word of a slot stays where what was read is written
pub word_stays : (s : Ring) (i : ℕ) (w : SlotWord) → get_elem? s.slots i ≡ some w → set (words_of s) i (slice_index (words_of s) i) ≡ words_of s
word_stays s i w at =
    let rest : List ℕ = map pack_berth s.berths ++ s.source ∷ s.base ∷ [] in
    ap (set (words_of s) i) (index_front pack_slot s.slots rest i w at) ∙ (set_front pack_slot s.slots rest i w w at ∙ ap (λ (l : List SlotWord). map pack_slot l ++ rest) (set_again s.slots i w at))

-- behind a list
pub index_behind : (front ys : List ℕ) (i : ℕ) → slice_index (front ++ ys) (length front + i) ≡ slice_index ys i
index_behind [] ys i = ap (slice_index ys) (let h : 0 + i ≡ i = omega arith in h)
index_behind (a ∷ front) ys i = ap (slice_index (a ∷ (front ++ ys))) (let h : length (a ∷ front) + i ≡ suc (length front + i) = omega arith in h) ∙ index_behind front ys i

pub set_behind : (front ys : List ℕ) (i x : ℕ) → set (front ++ ys) (length front + i) x ≡ front ++ set ys i x
set_behind [] ys i x = ap (λ (n : ℕ). set ys n x) (let h : 0 + i ≡ i = omega arith in h)
set_behind (a ∷ front) ys i x = ap (λ (n : ℕ). set (a ∷ (front ++ ys)) n x) (let h : length (a ∷ front) + i ≡ suc (length front + i) = omega arith in h) ∙ ap (λ (l : List ℕ). a ∷ l) (set_behind front ys i x)

-- the place of the i-th of the two held words
abbrev pub held_place : Ring → ℕ → ℕ
held_place s i = length (map pack_slot s.slots) + (length (map pack_berth s.berths) + i)

pub held_read : (s : Ring) (i : ℕ) → slice_index (words_of s) (held_place s i) ≡ slice_index (s.source ∷ s.base ∷ []) i
held_read s i = index_behind (map pack_slot s.slots) (map pack_berth s.berths ++ s.source ∷ s.base ∷ []) (length (map pack_berth s.berths) + i) ∙ index_behind (map pack_berth s.berths) (s.source ∷ s.base ∷ []) i

pub held_set : (s : Ring) (i x : ℕ) → set (words_of s) (held_place s i) x ≡ map pack_slot s.slots ++ (map pack_berth s.berths ++ set (s.source ∷ s.base ∷ []) i x)
held_set s i x = set_behind (map pack_slot s.slots) (map pack_berth s.berths ++ s.source ∷ s.base ∷ []) (length (map pack_berth s.berths) + i) x ∙ ap (λ (l : List ℕ). map pack_slot s.slots ++ l) (set_behind (map pack_berth s.berths) (s.source ∷ s.base ∷ []) i x)

pub source_at_place : (k : Shape) (s : Ring) (r : RingRule k s) → held_place s 0 ≡ source_place k
source_at_place k s r =
    let a : ℕ = length (map pack_slot s.slots) in let b : ℕ = length (map pack_berth s.berths) in let n : ℕ = 2 ^ k.g in
    let c : a ≡ n = length-map s.slots pack_slot ∙ r.sized.slots in let d : b ≡ k.filers + 1 = length-map s.berths pack_berth ∙ r.sized.berths in
    let h : a + (b + 0) ≡ n + (k.filers + 1) = omega arith in h

pub base_at_place : (k : Shape) (s : Ring) (r : RingRule k s) → held_place s 1 ≡ base_place k
base_at_place k s r =
    let a : ℕ = length (map pack_slot s.slots) in let b : ℕ = length (map pack_berth s.berths) in let n : ℕ = 2 ^ k.g in
    let c : a ≡ n = length-map s.slots pack_slot ∙ r.sized.slots in let d : b ≡ k.filers + 1 = length-map s.berths pack_berth ∙ r.sized.berths in
    let h : a + (b + 1) ≡ n + (k.filers + 2) = omega arith in h
