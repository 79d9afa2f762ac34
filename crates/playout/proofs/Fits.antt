-- The list stays in order and in the window, and so has room.
use Rattle.std.proofs.Common.{◌≡◌, ℕ, zero, suc, ◌+◌, ◌-◌, ◌<◌, ◌≤◌, [], ◌∷◌, List, length, subst, ap, arith}
use Rattle.std.specs.List.{insert}
use Rattle.std.proofs.lemmas.List.Edits.{length-insert, get_or-insert_below, get_or-insert_at, get_or-insert_above}
use Rattle.playout.specs.Pairs.{Pairs, key_at, Rises, InWindow, IsGapFor}

-- a rising list gains at least one from place to place
climbs : (l : Pairs) (p : ℕ) → Rises l → p ≤ key_at l 0 → (i : ℕ) → i < length l → p + i ≤ key_at l i
climbs l p rises first zero lt = omega (arith, first)
climbs l p rises first (suc i) lt = omega (arith, climbs l p rises first i (omega arith), rises i (suc i) (omega arith) lt)

pub few : (ring p : ℕ) (l : Pairs) → Rises l → InWindow ring p l → length l ≤ ring
few ring p [] rises window = omega arith
few ring p (x ∷ l) rises window =
    let last = climbs (x ∷ l) p rises (window 0 (omega arith)).0 (length l) (omega arith) in
    omega (arith, last, (window (length l) (omega arith)).1)

module _ (l : Pairs) (k : ℕ) (v : List ℕ) (at : ℕ) (gap : IsGapFor l k at) where
  keys_new : (i : ℕ) → ((i < at) → key_at (insert l at (k, v)) i ≡ key_at l i) × ((i ≡ at) → key_at (insert l at (k, v)) i ≡ k) × ((at < i) → key_at (insert l at (k, v)) i ≡ key_at l (i - 1))
  keys_new i =
      let new = insert l at (k, v) in
      let key = λ (x : ℕ × List ℕ). x.0 in (
        λ below. ap key (get_or-insert_below l at (k, v) (0, []) i below gap.in_range),
        λ here. rw here (ap key (get_or-insert_at l at (k, v) (0, []) gap.in_range)),
        λ above. subst (λ (q : ℕ). key_at new q ≡ key_at l (i - 1)) {x = i - 1 + 1} (omega arith) (ap key (get_or-insert_above l at (k, v) (0, []) (i - 1) (omega arith) gap.in_range)),
      )

  pub rises_insert : Rises l → Rises (insert l at (k, v))
  rises_insert rises i j lt in_range =
      let length_new = length-insert l at (k, v) gap.in_range in
      let a = keys_new i in
      let b = keys_new j in
      grind (arith, a.0, a.1, a.2, b.0, b.1, b.2, rises i j, rises i (j - 1), rises (i - 1) (j - 1), gap.smaller_before i, gap.greater_after (j - 1))

  pub window_insert : (ring p : ℕ) → InWindow ring p l → p ≤ k → k < p + ring → InWindow ring p (insert l at (k, v))
  window_insert ring p window low high i in_range =
      let length_new = length-insert l at (k, v) gap.in_range in
      let a = keys_new i in
      (grind (arith, a.0, a.1, a.2, window i, window (i - 1)), grind (arith, a.0, a.1, a.2, window i, window (i - 1)))

-- without the first pair
pub rises_rest : (x : ℕ × List ℕ) (l : Pairs) → Rises (x ∷ l) → Rises l
rises_rest x l rises i j lt in_range = rises (suc i) (suc j) (omega arith) (omega arith)

-- the window moves on by one, where the first number is above it
pub window_on : (ring p : ℕ) (l : Pairs) → Rises l → InWindow ring p l → ((0 < length l) → p < key_at l 0) → InWindow ring (p + 1) l
window_on r p l rises window above zero lt = (omega (arith, above lt), omega (arith, (window 0 lt).1))
window_on r p l rises window above (suc i) lt = (omega (arith, (window 0 (omega arith)).0, rises 0 (suc i) (omega arith) lt), omega (arith, (window (suc i) lt).1))

pub window_rest : (ring p : ℕ) (x : ℕ × List ℕ) (l : Pairs) → Rises (x ∷ l) → InWindow ring p (x ∷ l) → InWindow ring (p + 1) l
window_rest ring p x l rises window i lt = (omega (arith, (window 0 (omega arith)).0, rises 0 (suc i) (omega arith) (omega arith)), omega (arith, (window (suc i) (omega arith)).1))
