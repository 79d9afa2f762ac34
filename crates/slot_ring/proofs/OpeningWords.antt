-- One word more of the opening ring.
use Rattle.std.proofs.Common.{◌≡◌, ℕ, suc, zero, ◌+◌, List, [], ◌∷◌, ◌++◌, map, sym, ap, ◌∙◌, arith, append_assoc}
use Rattle.playout.specs.Machine.{start}
use Rattle.ring_core.specs.Steps.{free_word}
use Rattle.ring_core.specs.Opening.{slots_from, berths_from}
use Rattle.ring_core.specs.declared.words.Berth.TheVariants.{Fresh}
use Rattle.step_table.specs.Packed.{pack_slot, pack_berth}

pub slots-snoc : (a n : ℕ) → map pack_slot (slots_from a (suc n)) ≡ map pack_slot (slots_from a n) ++ pack_slot (free_word (start + (a + n)) (a + n)) ∷ []
slots-snoc a zero = ap (λ (x : ℕ). pack_slot (free_word (start + x) x) ∷ []) (let h : a ≡ a + 0 = omega arith in h)
slots-snoc a (suc n) =
    ap (λ (l : List ℕ). pack_slot (free_word (start + a) a) ∷ l)
    (slots-snoc (suc a) n ∙ ap (λ (x : ℕ). map pack_slot (slots_from (suc a) n) ++ pack_slot (free_word (start + x) x) ∷ []) (let h : suc a + n ≡ a + suc n = omega arith in h))

pub berths-snoc : (a n : ℕ) → map pack_berth (berths_from a (suc n)) ≡ map pack_berth (berths_from a n) ++ pack_berth (Fresh (a + n)) ∷ []
berths-snoc a zero = ap (λ (x : ℕ). pack_berth (Fresh x) ∷ []) (let h : a ≡ a + 0 = omega arith in h)
berths-snoc a (suc n) =
    ap (λ (l : List ℕ). pack_berth (Fresh a) ∷ l)
    (berths-snoc (suc a) n ∙ ap (λ (x : ℕ). map pack_berth (berths_from (suc a) n) ++ pack_berth (Fresh x) ∷ []) (let h : suc a + n ≡ a + suc n = omega arith in h))

-- a list of words with the next one behind it
pub slots-next : (before now next : List ℕ) (n word : ℕ) → next ≡ now ++ word ∷ [] → now ≡ before ++ map pack_slot (slots_from 0 n) → word ≡ pack_slot (free_word (start + (0 + n)) (0 + n)) → next ≡ before ++ map pack_slot (slots_from 0 (n + 1))
slots-next before now next n word e f w =
    e ∙ ((λ i. f i ++ w i ∷ []) ∙ (append_assoc before (map pack_slot (slots_from 0 n)) (pack_slot (free_word (start + (0 + n)) (0 + n)) ∷ [])
    ∙ ap (λ (l : List ℕ). before ++ l) (sym (slots-snoc 0 n) ∙ ap (λ (m : ℕ). map pack_slot (slots_from 0 m)) (let h : suc n ≡ n + 1 = omega arith in h))))

pub berths-next : (before now next : List ℕ) (a n word : ℕ) → next ≡ now ++ word ∷ [] → now ≡ before ++ map pack_berth (berths_from a n) → word ≡ pack_berth (Fresh (a + n)) → next ≡ before ++ map pack_berth (berths_from a (n + 1))
berths-next before now next a n word e f w =
    e ∙ ((λ i. f i ++ w i ∷ []) ∙ (append_assoc before (map pack_berth (berths_from a n)) (pack_berth (Fresh (a + n)) ∷ [])
    ∙ ap (λ (l : List ℕ). before ++ l) (sym (berths-snoc a n) ∙ ap (λ (m : ℕ). map pack_berth (berths_from a m)) (let h : suc n ≡ n + 1 = omega arith in h))))
