-- The slots' words, read in the words of a ring.
use Rattle.std.proofs.Common.{◌≡◌, ℕ, suc, zero, ◌+◌, ◌^◌, ◌<◌, ◌≤◌, List, [], ◌∷◌, ◌++◌, map, length, refl, sym, ap, arith}
use Rattle.std.specs.Prelude.{slice_index}
use mathlib.Core.Option.{some, some-ne-none, some-injective}
use lib.ListN.{get_elem?}
use Rattle.std.proofs.Math.Nat.{pow-le-pow_right}
use Rattle.playout.specs.Machine.{opening_machine}
use Rattle.playout.specs.History.{after_all}
use Rattle.ring_core.specs.declared.views.Shape.{Shape}
use Rattle.ring_core.specs.declared.words.SlotWord.{SlotWord}
use Rattle.ring_core.specs.Ring.{Ring, RingRule, in_slot}
use Rattle.step_table.specs.Packed.{Fits}

module _ {A : Type 0} (f : A → ℕ) where
  -- the word of an element, where others follow
  pub index_front : (xs : List A) (ys : List ℕ) (i : ℕ) (a : A) → get_elem? xs i ≡ some a → slice_index (map f xs ++ ys) i ≡ f a
  index_front [] ys i a e = absurd (some-ne-none a (sym e))
  index_front (x ∷ xs) ys zero a e = ap f (some-injective x a e)
  index_front (x ∷ xs) ys (suc i) a e = index_front xs ys i a e

-- the word of a slot is within its bits
pub slot_small : (k : Shape) (s : Ring) (r : RingRule k s) (i : ℕ) (w : SlotWord) → get_elem? s.slots i ≡ some w → Fits w
slot_small k s r i w e =
    let p = r.alone (in_slot i) w.cell (w, e, refl) in
    let fits = r.slot i w e in
    let m : ℕ = (after_all opening_machine r.history).position in
    let n : ℕ = w.number in let c : ℕ = w.cell in let len : ℕ = length s.cells in let R : ℕ = 2 ^ k.g in
    let near : n < m + R = fits.near in let bound : m ≤ 2 ^ 33 = r.bound in
    let total : len ≡ R + k.filers + 1 = r.sized.cells in let f : k.filers ≤ 64 = r.sized.filers in
    let small : R ≤ 2 ^ 10 = pow-le-pow_right {n = 2} (omega arith) r.sized.g in let below : c < len = p.1 in
    (omega arith, omega arith)
