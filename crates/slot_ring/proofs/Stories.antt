-- The lists of all callers are there.
use Rattle.std.proofs.Common.{◌≡◌, ℕ, zero, suc, ◌+◌, ◌<◌, ◌≤◌, List, [], ◌∷◌, length, Bool, true, false, Some, refl, sym, ap, ◌∙◌, subst, arith}
use Rattle.std.specs.Prelude.{Option, replicate, slice_get, slice_set}
use Rattle.playout.specs.declared.call.Call.{Call}
use Rattle.slot_ring.specs.Seen.{no_lists}
use Rattle.slot_ring.specs.Remains.{AllGathered}

abbrev Lists : Type 0
Lists = List (Option (List Call))

abbrev pub three_lists : ℕ → List Call → List Call → List Call → Lists
three_lists n a b c = slice_set (slice_set (slice_set (no_lists n) 0 (Some a)) 1 (Some b)) 2 (Some c)

pub all_three : (filers : ℕ) (a b c : List Call) (lists : Lists) → filers ≡ 2 → lists ≡ three_lists filers a b c → AllGathered filers lists
all_three filers a b c lists two e = subst (λ (n : ℕ). AllGathered n lists) (sym two) (λ who low. pick who low (e ∙ ap (λ (n : ℕ). three_lists n a b c) two))
  where
    pick : (who : ℕ) → who ≤ 2 → lists ≡ three_lists 2 a b c → (l : List Call) × (slice_get lists who ≡ Some (Some l))
    pick zero low e = (a, ap (λ (x : Lists). slice_get x 0) e)
    pick (suc zero) low e = (b, ap (λ (x : Lists). slice_get x 1) e)
    pick (suc (suc zero)) low e = (c, ap (λ (x : Lists). slice_get x 2) e)
    pick (suc (suc (suc n))) low e = absurd (omega arith)

abbrev pub five_lists : ℕ → List Call → List Call → List Call → List Call → List Call → Lists
five_lists n a b c d p = slice_set (slice_set (three_lists n a b c) 3 (Some d)) 4 (Some p)

pub all_five : (filers : ℕ) (a b c d p : List Call) (lists : Lists) → filers ≡ 4 → lists ≡ five_lists filers a b c d p → AllGathered filers lists
all_five filers a b c d p lists four e = subst (λ (n : ℕ). AllGathered n lists) (sym four) (λ who low. pick who low (e ∙ ap (λ (n : ℕ). five_lists n a b c d p) four))
  where
    pick : (who : ℕ) → who ≤ 4 → lists ≡ five_lists 4 a b c d p → (l : List Call) × (slice_get lists who ≡ Some (Some l))
    pick zero low e = (a, ap (λ (x : Lists). slice_get x 0) e)
    pick (suc zero) low e = (b, ap (λ (x : Lists). slice_get x 1) e)
    pick (suc (suc zero)) low e = (c, ap (λ (x : Lists). slice_get x 2) e)
    pick (suc (suc (suc zero))) low e = (d, ap (λ (x : Lists). slice_get x 3) e)
    pick (suc (suc (suc (suc zero)))) low e = (p, ap (λ (x : Lists). slice_get x 4) e)
    pick (suc (suc (suc (suc (suc n))))) low e = absurd (omega arith)

get_set : (xs : List Bool) (k : ℕ) (b : Bool) → k < length xs → slice_get (slice_set xs k b) k ≡ Some b
get_set [] k b low = absurd (omega arith)
get_set (x ∷ xs) zero b low = refl
get_set (x ∷ xs) (suc k) b low = get_set xs k b (omega arith)

length-same : (n : ℕ) (b : Bool) → length (replicate n b) ≡ n
length-same zero b = refl
length-same (suc n) b = let h = length-same n b in omega arith

-- a blank that was split off has its right
pub has_right : (n k : ℕ) → k ≤ n → slice_get (slice_set (replicate (n + 1) false) k true) k ≡ Some true
has_right n k low = get_set (replicate (n + 1) false) k true (let h = length-same (n + 1) false in omega arith)
