-- The words of a ring at the start: how many there are, and what stands at a slot's place.
use Rattle.std.proofs.Common.{◌≡◌, ℕ, suc, zero, ◌+◌, ◌<◌, length, refl, ap, ◌∙◌, arith}
use mathlib.Core.Option.{some}
use lib.ListN.{get_elem?}
use Rattle.playout.specs.Machine.{start}
use Rattle.ring_core.specs.Steps.{free_word}
use Rattle.ring_core.specs.Opening.{slots_from, berths_from}

-- as many slots as were asked
pub length-slots : (i n : ℕ) → length (slots_from i n) ≡ n
length-slots i zero = refl
length-slots i (suc n) = let h = length-slots (suc i) n in omega arith

-- and as many berths
pub length-berths : (i n : ℕ) → length (berths_from i n) ≡ n
length-berths i zero = refl
length-berths i (suc n) = let h = length-berths (suc i) n in omega arith

-- a free word at each place
pub slot_there : (i n j : ℕ) → j < n → get_elem? (slots_from i n) j ≡ some (free_word (start + (i + j)) (i + j))
slot_there i zero j h = absurd (omega arith)
slot_there i (suc n) zero h = ap (λ (k : ℕ). some (free_word (start + k) k)) (let h : i ≡ i + 0 = omega arith in h)
slot_there i (suc n) (suc j) h = slot_there (suc i) n j (omega arith) ∙ ap (λ (k : ℕ). some (free_word (start + k) k)) (let h : suc i + j ≡ i + suc j = omega arith in h)
