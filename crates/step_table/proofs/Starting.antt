-- The words of a ring at the start.
use Rattle.std.proofs.Common.{◌≡◌, ◌⊎◌, inl, inr, ◌%◌, ◌-◌, ℕ, zero, suc, ◌+◌, ◌*◌, ◌^◌, ◌<◌, ◌≤◌, List, [], ◌∷◌, ◌++◌, length, map, None, refl, sym, ap, ◌∙◌, subst, arith, length-append}
use Rattle.std.specs.Prelude.{replicate, slice_index}
use Rattle.std.proofs.lemmas.List.{length-map}
use Rattle.std.proofs.Math.Nat.{pow-le-pow_right}
use mathlib.Core.Option as maybe
use lib.ListN.{get_elem?}
use Rattle.ring_core.specs.declared.views.Shape.{Shape}
use Rattle.ring_core.specs.declared.words.Berth.TheVariants.{Fresh}
use Rattle.ring_core.specs.declared.words.Cell.TheVariants.{AtHome}
use Rattle.playout.specs.Machine.{start}
use Rattle.ring_core.specs.Ring.{Ring, slot_count}
use Rattle.ring_core.specs.Steps.{free_word}
use Rattle.ring_core.specs.Opening.{opening_ring, berths_from}
use Rattle.std.proofs.Math.Pow.{pow-lt}
use Rattle.ring_core.specs.OpeningLaws.{length-slots, length-berths, slot_there}
use Rattle.step_table.specs.Packed.{Kept, words_of, home_of, pack_slot, pack_berth, IsOpening}
use Rattle.step_table.specs.WordLaws.{index_front}
use Rattle.step_table.proofs.Spelling.{index_middle}

abbrev pub no_frame : Kept
no_frame = None

pub empty_homes : (n : ℕ) → map maybe.some (replicate n no_frame) ≡ map home_of (replicate n (AtHome no_frame))
empty_homes zero = refl
empty_homes (suc n) = ap (λ (l : List (maybe.Option Kept)). maybe.some no_frame ∷ l) (empty_homes n)

pub length-words : (k : Shape) → length (words_of (opening_ring k)) ≡ 2 ^ k.g + k.filers + 3
length-words k =
    let s : Ring = opening_ring k in
    let a = length-append (map pack_slot s.slots) (map pack_berth s.berths ++ 0 ∷ 0 ∷ []) in
    let b = length-append (map pack_berth s.berths) (0 ∷ 0 ∷ []) in
    let c = length-map s.slots pack_slot in let d = length-map s.berths pack_berth in
    let e = length-slots 0 (slot_count k) in let f = length-berths (slot_count k) (k.filers + 1) in
    omega arith

-- the words of slots are at least 2 ^ 32
pub slot_high : (k : Shape) (j : ℕ) → j < slot_count k → 4294967296 ≤ slice_index (words_of (opening_ring k)) j
slot_high k j low =
    let s : Ring = opening_ring k in
    let is = index_front pack_slot s.slots (map pack_berth s.berths ++ 0 ∷ 0 ∷ []) j (free_word (start + (0 + j)) (0 + j)) (slot_there 0 (slot_count k) j low) in
    subst (λ (n : ℕ). 4294967296 ≤ n) (sym is) (let h : 4294967296 ≤ 0 + (0 + j) * 281474976710656 + (4294967296 + (0 + j)) = omega arith in h)

-- the word of the first berth is less
pub berth_low : (k : Shape) → k.g ≤ 10 → slice_index (words_of (opening_ring k)) (slot_count k) < 4294967296
berth_low k few =
    let s : Ring = opening_ring k in
    let n : ℕ = 2 ^ k.g in
    let small : n ≤ 2 ^ 10 = pow-le-pow_right {n = 2} (omega arith) few in
    let len : length (map pack_slot s.slots) ≡ n = length-map s.slots pack_slot ∙ length-slots 0 n in
    let first : get_elem? s.berths 0 ≡ maybe.some (Fresh n) = first_berth n k.filers in
    let at : length (map pack_slot s.slots) + 0 ≡ n = omega arith in
    let is : slice_index (words_of s) n ≡ 4 * n = ap (slice_index (words_of s)) (sym at) ∙ index_middle pack_berth (map pack_slot s.slots) s.berths (0 ∷ 0 ∷ []) 0 (Fresh n) first in
    let word : ℕ = slice_index (words_of s) n in let same : word ≡ 4 * n = is in
    let h : word < 4294967296 = omega arith in h
  where
    first_berth : (a filers : ℕ) → get_elem? (berths_from a (filers + 1)) 0 ≡ maybe.some (Fresh a)
    first_berth a filers = ap (λ (m : ℕ). get_elem? (berths_from a m) 0) (let h : filers + 1 ≡ suc filers = omega arith in h)

pub few_slots : (g : ℕ) → g ≤ 10 → 2 ^ g ≤ 1024
few_slots g low = pow-le-pow_right {n = 2} (omega arith) low

pub shifted : (g : ℕ) → g ≤ 10 → (1 * 2 ^ g % 18446744073709551616 ≡ 2 ^ g) × (1 * 2 ^ g % 4294967296 ≡ 2 ^ g)
shifted g low =
    let n : ℕ = 2 ^ g in let few : n ≤ 1024 = few_slots g low in
    let h : 1 * n % 18446744073709551616 ≡ n = omega arith in let i : 1 * n % 4294967296 ≡ n = omega arith in (h, i)

same_or_less : (a b : ℕ) → a ≤ b → (a ≡ b) ⊎ (a + 1 ≤ b)
same_or_less a b low = grind arith

-- at a slot's word there are more slots
pub more_slots : (k : Shape) (words : List ℕ) (cells g : ℕ) → IsOpening k words cells → g ≤ k.g → 4294967296 ≤ slice_index words (2 ^ g) → g + 1 ≤ k.g
more_slots k words cells g o low high =
    elim (same_or_less g k.g low) [
      | inl same ↦ let below : slice_index words (2 ^ g) < 4294967296 = subst (λ (l : List ℕ). slice_index l (2 ^ g) < 4294967296) (sym o.words) (subst (λ (n : ℕ). slice_index (words_of (opening_ring k)) (2 ^ n) < 4294967296) (sym same) (berth_low k o.g)) in absurd (omega arith)
      | inr less ↦ less
    ]

-- at a berth's word there are no more
pub all_slots : (k : Shape) (words : List ℕ) (cells g : ℕ) → IsOpening k words cells → g ≤ k.g → slice_index words (2 ^ g) < 4294967296 → g ≡ k.g
all_slots k words cells g o low below =
    elim (same_or_less g k.g low) [
      | inl same ↦ same
      | inr less ↦
          let n : ℕ = 2 ^ g in let m : ℕ = 2 ^ k.g in let less_slots : n < m = pow-lt (omega arith) in
          let high : 4294967296 ≤ slice_index words n = subst (λ (l : List ℕ). 4294967296 ≤ slice_index l n) (sym o.words) (slot_high k n less_slots) in absurd (omega arith)
    ]

opening_length : (k : Shape) (words : List ℕ) (cells : ℕ) → IsOpening k words cells → length words ≡ 2 ^ k.g + k.filers + 3
opening_length k words cells o = ap length o.words ∙ length-words k

pub fewer_slots : (k : Shape) (words : List ℕ) (cells g : ℕ) → IsOpening k words cells → g ≤ k.g → 1 * 2 ^ g % 18446744073709551616 < length words
fewer_slots k words cells g o low =
    let few : k.g ≤ 10 = o.g in
    let is : 1 * 2 ^ g % 18446744073709551616 ≡ 2 ^ g = (shifted g (omega arith)).0 in
    let n : ℕ = 2 ^ g in let m : ℕ = 2 ^ k.g in
    let less : n ≤ m = pow-le-pow_right {n = 2} (omega arith) low in
    let len : ℕ = length words in let wide : len ≡ m + k.filers + 3 = opening_length k words cells o in
    subst (λ (i : ℕ). i < len) (sym is) (let h : n < len = omega arith in h)

pub few_cells : (k : Shape) (words : List ℕ) (cells g : ℕ) → IsOpening k words cells → g ≤ k.g → (1 * 2 ^ g % 4294967296 ≤ cells) × (1 ≤ cells - 1 * 2 ^ g % 4294967296)
few_cells k words cells g o low =
    let few : k.g ≤ 10 = o.g in
    let is : 1 * 2 ^ g % 4294967296 ≡ 2 ^ g = (shifted g (omega arith)).1 in
    let n : ℕ = 2 ^ g in let m : ℕ = 2 ^ k.g in
    let less : n ≤ m = pow-le-pow_right {n = 2} (omega arith) low in
    let all : cells ≡ m + k.filers + 1 = o.cells in
    subst (λ (i : ℕ). (i ≤ cells) × (1 ≤ cells - i)) (sym is) (omega arith, omega arith)

pub all_there : (k : Shape) (words : List ℕ) (cells g : ℕ) → IsOpening k words cells → g ≤ k.g → slice_index words (1 * 2 ^ g % 18446744073709551616) < 4294967296 → Path Shape (record { filers = cells - 1 * 2 ^ g % 4294967296 - 1; g = g }) k
all_there k words cells g o low below =
    let few : k.g ≤ 10 = o.g in let small : g ≤ 10 = omega arith in
    let same : g ≡ k.g = all_slots k words cells g o low (subst (λ (i : ℕ). slice_index words i < 4294967296) (shifted g small).0 below) in
    let m : ℕ = 2 ^ k.g in let all : cells ≡ m + k.filers + 1 = o.cells in
    let filers : cells - 1 * 2 ^ g % 4294967296 - 1 ≡ k.filers = ap (λ (n : ℕ). cells - n - 1) ((shifted g small).1 ∙ ap (λ (n : ℕ). 2 ^ n) same) ∙ (let h : cells - m - 1 ≡ k.filers = omega arith in h) in
    λ i. record { filers = filers i; g = same i }
