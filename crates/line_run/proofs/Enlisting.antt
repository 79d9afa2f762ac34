-- One filer more is enlisted.
use Rattle.std.proofs.Common.{◌≡◌, ◌⊎◌, inl, inr, ℕ, suc, zero, ◌+◌, ◌<◌, ◌≤◌, List, [], ◌∷◌, ◌++◌, length, Some, Bool, true, false, refl, sym, ap, ◌∙◌, subst, arith, length-append}
use Rattle.std.specs.Prelude.{slice_get, slice_set, replicate}
use mathlib.Core.Option.{some}
use lib.ListN.{get_elem?}
use Rattle.step_table.specs.Packed.{Where}
use Rattle.slot_ring.specs.Seen.{PassView}
use Rattle.line_run.specs.declared.caller.Caller.{Caller}
use Rattle.line_run.specs.Callers.{Stands, AreNew, HasRightsFrom}
use Rattle.line_run.specs.Opening.{LineSeen}
use Rattle.line_run.proofs.Places.{alone, back_is, cut, else_as_before, front_is, here_set}

pub rights_after : (n last : ℕ) (rights after : List Bool) → HasRightsFrom n last rights → after ≡ slice_set rights n false → HasRightsFrom (n + 1) last after
rights_after n last rights after has e i low high =
    ap (λ (l : List Bool). slice_get l i) e ∙ (else_as_before rights n i false (λ same. absurd (omega arith)) ∙ has i (omega arith) high)

-- the filer that was enlisted last
pub stands : (l : LineSeen) (ring : Where) (c : Caller) (x : PassView) (n : ℕ) → c.pass ≡ Some x → c.number ≡ n → x.ring ≡ ring → x.who ≡ n → x.list ≡ [] → n < l.filers → Stands l ring c
stands l ring c x n pass number here who empty low =
    record { pass = x; has = pass; of_ring = here; who = who ∙ sym number; list = empty; low = subst (λ (m : ℕ). m < l.filers) (sym number) low }

pub new_after : (l : LineSeen) (ring : Where) (cs after : List Caller) (n : ℕ) (d : Caller) → AreNew l ring cs → length cs ≡ n → Stands l ring d → d.number ≡ n → after ≡ cs ++ d ∷ []
    → AreNew l ring after × (length after ≡ n + 1)
new_after l ring cs after n d all many new number e = (
  (λ i c at. go i c (ap (λ (l : List Caller). get_elem? l i) (sym e) ∙ at) (cut n i)),
  ap length e ∙ (length-append cs (d ∷ []) ∙ ap (λ (m : ℕ). m + 1) many),
)
  where
    go : (i : ℕ) (c : Caller) → get_elem? (cs ++ d ∷ []) i ≡ some c → (i < n) ⊎ ((j : ℕ) × (i ≡ n + j)) → Stands l ring c × (c.number ≡ i)
    go i c at (inl low) = all i c (front_is cs (d ∷ []) i c (subst (λ (m : ℕ). i < m) (sym many) low) at)
    go i c at (inr u) =
        let one = alone d u.0 c (back_is cs (d ∷ []) n u.0 c many (ap (get_elem? (cs ++ d ∷ [])) (sym u.1) ∙ at)) in
        let place : n ≡ i = sym (u.1 ∙ (let a : ℕ = u.0 in let z : a ≡ zero = one.0 in let r : n + a ≡ n = omega arith in r)) in
        (subst (Stands l ring) one.1 new, ap (λ (b : Caller). b.number) (sym one.1) ∙ (number ∙ place))

right_in : (n i : ℕ) → i < n → slice_get (replicate n true) i ≡ Some true
right_in zero i low = absurd (omega arith)
right_in (suc n) zero low = refl
right_in (suc n) (suc i) low = right_in n i (omega arith)

pub all_rights : (last : ℕ) (rights : List Bool) → rights ≡ replicate (last + 1) true → HasRightsFrom 0 last rights
all_rights last rights e i low high = ap (λ (l : List Bool). slice_get l i) e ∙ right_in (last + 1) i (omega arith)

long : (n : ℕ) (b : Bool) → length (replicate n b) ≡ n
long zero b = refl
long (suc n) b = let h = long n b in omega arith

-- a blank that was split off has its right
pub own_right : (n k : ℕ) → k ≤ n → slice_get (slice_set (replicate (n + 1) false) k true) k ≡ Some true
own_right n k low = here_set (replicate (n + 1) false) k true (let h = long (n + 1) false in omega arith)
