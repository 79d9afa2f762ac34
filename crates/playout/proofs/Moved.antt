-- What a line finds in its list, and keeps when it takes the first pair.
use Rattle.std.proofs.Common.{◌≡◌, ℕ, ◌+◌, ◌<◌, List, Option, Some, None, MatchOption, refl, sym, subst, ◌∙◌, arith, length, ◌∷◌}
use Rattle.std.specs.FinMap as map
use Rattle.std.proofs.lemmas.Bool.Decides.{nat_tests}
use Rattle.playout.specs.Pairs.{Pairs, frames_in, key_at, Rises, InWindow}
use Rattle.playout.proofs.Looked.{looked_up, get_looked, above_free, map_rest, map_same}
use Rattle.playout.proofs.Fits.{rises_rest, window_on, window_rest}

-- the list goes on by one number, with the first pair or without it
pub record Moved (ring p : ℕ) (old new : Pairs) (front : Option (List ℕ)) : Type 0 where
  pub rises : Rises new
  pub window : InWindow ring (p + 1) new
  pub item : front ≡ map.get (frames_in old) p
  pub rest : frames_in new ≡ map.remove (frames_in old) p

pub moved : (ring p : ℕ) (old new : Pairs) (front : Option (List ℕ)) → Rises old → InWindow ring p old
    → MatchOption front ((new ≡ old) × (0 < length old → p < key_at old 0)) (λ f. old ≡ (p, f) ∷ new) → Moved ring p old new front
moved ring p old new None rises window taken =
    let free = above_free old p rises taken.1 in
    let kept : Moved ring p old old None = record { rises = rises; window = window_on ring p old rises window taken.1; item = sym (get_looked old p ∙ free); rest = map_same old p free } in
    subst (λ (l : Pairs). Moved ring p old l None) (sym taken.0) kept
moved ring p old new (Some f) rises window taken =
    let rises' : Rises ((p, f) ∷ new) = subst Rises taken rises in
    let window' : InWindow ring p ((p, f) ∷ new) = subst (InWindow ring p) taken window in
    let free = above_free new p (rises_rest (p, f) new rises') (λ some. rises' 0 1 (omega arith) (omega arith)) in
    let gone : Moved ring p ((p, f) ∷ new) new (Some f) = record { rises = rises_rest (p, f) new rises'; window = window_rest ring p (p, f) new rises' window'; item = sym (get_looked ((p, f) ∷ new) p ∙ here p f new); rest = map_rest (p, f) new p refl free } in
    subst (λ (l : Pairs). Moved ring p l new (Some f)) (sym taken) gone
  where
    here : (p : ℕ) (f : List ℕ) (l : Pairs) → looked_up ((p, f) ∷ l) p ≡ Some f
    here p f l = grind (arith, nat_tests)

-- the first pair's frame, where that has the number, is the map's
pub front_is : (ring p : ℕ) (pairs : Pairs) (front : Option (List ℕ)) → Rises pairs → InWindow ring p pairs
    → MatchOption front (0 < length pairs → p < key_at pairs 0) (λ f. (rest : Pairs) × (pairs ≡ (p, f) ∷ rest)) → front ≡ map.get (frames_in pairs) p
front_is ring p pairs None rises window above = let m = moved ring p pairs pairs None rises window (refl, above) in m.item
front_is ring p pairs (Some f) rises window first = let m = moved ring p pairs first.0 (Some f) rises window first.1 in m.item
