-- The map that a list of pairs stands for, after a change of the list.
use Rattle.std.proofs.Common.{◌≡◌, ℕ, zero, suc, ◌<◌, ◌≢◌, eqb, List, [], ◌∷◌, length, Bool, true, false, cond, Option, Some, None, is_some, Result, Ok, Err, is_ok, IfOk, IfErr, refl, sym, ap, ◌∙◌, arith}
use Rattle.std.specs.List.{insert}
use Rattle.std.specs.Ordering.{nat_cmp, eq_by_cmp}
use Rattle.std.specs.Cmp.{nat_cmp_total}
use Rattle.std.specs.FinMap as map
use Rattle.std.specs.FinMap.{find, get-from_entries, get-insert, get-remove, same_map, nat_cmp-IsAntisymmetric}
use Rattle.std.proofs.lemmas.Bool.Decides.{nat_tests}
use Rattle.playout.specs.Pairs.{Pairs, frames_in, key_at, Rises, IsAt, IsGapFor}

-- the frame of the first pair that has the number
abbrev pub looked_up : Pairs → ℕ → Option (List ℕ)
looked_up [] q = None
looked_up (e ∷ es) q = cond (eqb q e.0) (Some e.1) (looked_up es q)

abbrev pub NoKeyBefore : Pairs → ℕ → ℕ → Type 0
NoKeyBefore l k i = (j : ℕ) → j < i → key_at l j ≢ k

ties : (q k : ℕ) → eq_by_cmp nat_cmp q k ≡ eqb q k
ties q k = grind (arith, nat_tests)

find_looked : (es : Pairs) (q : ℕ) → find nat_cmp q es ≡ looked_up es q
find_looked [] q = refl
find_looked (e ∷ es) q = ap (λ (b : Bool). cond b (Some e.1) (find nat_cmp q es)) (ties q e.0) ∙ ap (cond (eqb q e.0) (Some e.1)) (find_looked es q)

pub get_looked : (es : Pairs) (q : ℕ) → map.get (frames_in es) q ≡ looked_up es q
get_looked es q = get-from_entries nat_cmp_total es q ∙ find_looked es q

tail_free : (x : ℕ × List ℕ) (l : Pairs) (k i : ℕ) → NoKeyBefore (x ∷ l) k (suc i) → NoKeyBefore l k i
tail_free x l k i no_key j lt = no_key (suc j) (omega arith)

pub absent : (l : Pairs) (k : ℕ) → NoKeyBefore l k (length l) → looked_up l k ≡ None
absent [] k no_key = refl
absent (x ∷ l) k no_key = grind (arith, nat_tests, no_key 0 (omega arith), absent l k (tail_free x l k _ no_key))

pub present : (l : Pairs) (k i : ℕ) → IsAt l k i → is_some (looked_up l k) ≡ true
present [] k i is_at = absurd (omega (arith, is_at.in_range))
present (x ∷ l) k zero is_at = grind (arith, nat_tests, is_at.has_key)
present (x ∷ l) k (suc i) is_at =
    let rest = present l k i (record { in_range = omega (arith, is_at.in_range); has_key = is_at.has_key }) in
    some_either (eqb k x.0) (Some x.1) (looked_up l k) refl rest
  where
    some_either : (b : Bool) (o p : Option (List ℕ)) → is_some o ≡ true → is_some p ≡ true → is_some (cond b o p) ≡ true
    some_either true o p h i = h
    some_either false o p h i = i

pub looked_insert : (l : Pairs) (k : ℕ) (v : List ℕ) (i : ℕ) → NoKeyBefore l k i → (q : ℕ) → looked_up (insert l i (k, v)) q ≡ cond (eqb q k) (Some v) (looked_up l q)
looked_insert l k v zero no_key q = refl
looked_insert [] k v (suc i) no_key q = refl
looked_insert (x ∷ l) k v (suc i) no_key q = grind (arith, nat_tests, no_key 0 (omega arith), looked_insert l k v i (tail_free x l k i no_key) q)

-- a new pair in the gap
pub map_insert : (l : Pairs) (k : ℕ) (v : List ℕ) (i : ℕ) → IsGapFor l k i → frames_in (insert l i (k, v)) ≡ map.insert (frames_in l) k v
map_insert l k v i gap = same_map nat_cmp_total nat_cmp-IsAntisymmetric _ _ (λ q.
    let old = get-insert nat_cmp_total (frames_in l) k v q in
    let tests = ap (λ (b : Bool). cond b (Some v) (map.get (frames_in l) q)) (ties q k) in
    let rest = ap (λ (o : Option (List ℕ)). cond (eqb q k) (Some v) o) (get_looked l q) in
    get_looked (insert l i (k, v)) q ∙ looked_insert l k v i (λ j lt same. omega (arith, gap.smaller_before j lt)) q ∙ sym (old ∙ tests ∙ rest))

-- a number that has a gap is not there, one that has a place is
pub in_gap : (l : Pairs) (k i : ℕ) → IsGapFor l k i → map.get (frames_in l) k ≡ None
in_gap l k i gap = get_looked l k ∙ absent l k (λ j lt same. grind (arith, gap.smaller_before j, gap.greater_after j))

pub in_place : (l : Pairs) (k i : ℕ) → IsAt l k i → is_some (map.get (frames_in l) k) ≡ true
in_place l k i is_at = ap is_some (get_looked l k) ∙ present l k i is_at

-- what a search finds is whether the map has the number
pub waits_at : (l : Pairs) (k : ℕ) (found : Result ℕ ℕ) → IfOk found (IsAt l k) → IfErr found (IsGapFor l k) → is_ok found ≡ is_some (map.get (frames_in l) k)
waits_at l k (Ok at) is_at gap = sym (in_place l k at is_at)
waits_at l k (Err at) is_at gap = sym (ap is_some (in_gap l k at gap))

-- where looking up in new answers as in old without p, the map has lost p
map_lost : (new old : Pairs) (p : ℕ) → ((q : ℕ) → looked_up new q ≡ cond (eqb q p) None (looked_up old q)) → frames_in new ≡ map.remove (frames_in old) p
map_lost new old p looked = same_map nat_cmp_total nat_cmp-IsAntisymmetric _ _ (λ q.
    let removed = get-remove nat_cmp_total (frames_in old) p q in
    let tests = ap (λ (b : Bool). cond b None (map.get (frames_in old) q)) (ties q p) in
    let rest = ap (λ (o : Option (List ℕ)). cond (eqb q p) None o) (get_looked old q) in
    get_looked new q ∙ looked q ∙ sym (removed ∙ tests ∙ rest))

-- the first pair is taken away
pub map_rest : (x : ℕ × List ℕ) (l : Pairs) (p : ℕ) → x.0 ≡ p → looked_up l p ≡ None → frames_in l ≡ map.remove (frames_in (x ∷ l)) p
map_rest x l p is none = map_lost l (x ∷ l) p (λ q. looked_rest x l p is none q)
  where
    looked_rest : (x : ℕ × List ℕ) (l : Pairs) (p : ℕ) → x.0 ≡ p → looked_up l p ≡ None → (q : ℕ) → looked_up l q ≡ cond (eqb q p) None (looked_up (x ∷ l) q)
    looked_rest x l p is none q = grind (arith, nat_tests, λ (same : q ≡ p). ap (looked_up l) same)

-- a number that is not frames_in is taken away
pub map_same : (l : Pairs) (p : ℕ) → looked_up l p ≡ None → frames_in l ≡ map.remove (frames_in l) p
map_same l p none = map_lost l l p (λ q. looked_same l p none q)
  where
    looked_same : (l : Pairs) (p : ℕ) → looked_up l p ≡ None → (q : ℕ) → looked_up l q ≡ cond (eqb q p) None (looked_up l q)
    looked_same l p none q = grind (arith, nat_tests, λ (same : q ≡ p). ap (looked_up l) same)

-- below the first number nothing is frames_in
pub above_free : (l : Pairs) (p : ℕ) → Rises l → ((0 < length l) → p < key_at l 0) → looked_up l p ≡ None
above_free l p rises above = absent l p (no_key l p rises above)
  where
    no_key : (l : Pairs) (p : ℕ) → Rises l → ((0 < length l) → p < key_at l 0) → NoKeyBefore l p (length l)
    no_key l p rises above zero lt same = omega (arith, above lt)
    no_key l p rises above (suc j) lt same = omega (arith, above (omega arith), rises 0 (suc j) (omega arith) lt)
