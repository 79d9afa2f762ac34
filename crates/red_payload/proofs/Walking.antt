-- The block at the front, and what is left behind it.
use Rattle.std.proofs.Common.{◌≡◌, ℕ, ◌+◌, ◌-◌, ◌%◌, ◌≤◌, List, [], ◌∷◌, length, take, drop, slice_index, Option, Some, None, option_map, refl, sym, ap, ◌∙◌, arith, length-drop}
use Rattle.std.proofs.lemmas.Bool.{le-ltb, cond-false}
use Rattle.std.proofs.lemmas.List.{take_all}
use Rattle.red_payload.specs.Blocks.{Older, Heads, Block, older_of, headers, last_header, with_older, total}
use Rattle.red_payload.specs.Walks.{AreLeft, blocks_left, blocks_with}

-- the header at the front is an older one
pub record IsOlder (xs octets : List ℕ) : Type 0 where
  pub long : 4 ≤ length xs
  pub fits : (older_of xs).size ≤ length octets
  pub left : AreLeft (drop 4 xs) (drop (older_of xs).size octets)
  pub blocks : blocks_left xs octets ≡
      record { payload_type = (older_of xs).payload_type; offset = (older_of xs).offset; octets = take (older_of xs).size octets } ∷ blocks_left (drop 4 xs) (drop (older_of xs).size octets)

-- an octet from 128 on ends no headers
pub no_last : (a : ℕ) (behind : List ℕ) → 128 ≤ a → last_header a behind ≡ None
no_last a behind high = cond-false _ _ _ (le-ltb a 128 high)

pub none_some : {A B : Type 0} (o : Option A) (x : A) → o ≡ None → o ≡ Some x → B
none_some o x n s = absurd (no_some x (sym n ∙ s))
  where
    no_some : {A : Type 0} (x : A) → None ≡ Some x → ⊥
    no_some x e = cc

-- the headers behind an older one
pub headers_on : (a b c d : ℕ) (rest : List ℕ) → 128 ≤ a → headers (a ∷ b ∷ c ∷ d ∷ rest) ≡ option_map (with_older (older_of (a ∷ b ∷ c ∷ d ∷ rest))) (headers rest)
headers_on a b c d rest high = cond-false _ _ _ (le-ltb a 128 high)

pub left_behind : (rest octets : List ℕ) (k : Heads) → headers rest ≡ Some k → total k.older ≤ length octets → AreLeft rest octets
left_behind [] octets k e fits = tt
left_behind (x ∷ xs) octets k e fits = (k, e, fits)

pub some_is : {A : Type 0} (x y : A) → Some x ≡ Some y → x ≡ y
some_is x y e = cc

older_four : (a b c d : ℕ) (rest octets : List ℕ) (h : Heads) → 128 ≤ a → headers (a ∷ b ∷ c ∷ d ∷ rest) ≡ Some h → total h.older ≤ length octets → IsOlder (a ∷ b ∷ c ∷ d ∷ rest) octets
older_four a b c d rest octets h high e fits =
    let xs : List ℕ = a ∷ b ∷ c ∷ d ∷ rest in
    let o : Older = older_of xs in
    let on = headers_on a b c d rest high in
    elim (headers rest) as (λ (r : Option Heads). headers rest ≡ r → IsOlder xs octets) [
      | None ↦ λ none. none_some (headers xs) h (on ∙ ap (option_map (with_older o)) none) e
      | Some k ↦ λ some.
          let all : headers xs ≡ Some (with_older o k) = on ∙ ap (option_map (with_older o)) some in
          let same : with_older o k ≡ h = some_is _ _ (sym all ∙ e) in
          let sizes : o.size + total k.older ≤ length octets = rw (ap (λ (g : Heads). total g.older) same) fits in
          record {
            long = omega arith;
            fits = omega (arith, sizes);
            left = left_behind rest (drop o.size octets) k some (omega (arith, sizes, length-drop o.size octets));
            blocks = ap (λ (r : Option Heads). blocks_with r octets) all ∙ ap (λ (r : Option Heads). record { payload_type = o.payload_type; offset = o.offset; octets = take o.size octets } ∷ blocks_with r (drop o.size octets)) (sym some);
          }
    ] refl

pub older_is : (xs octets : List ℕ) → AreLeft xs octets → (length xs ≡ 0 → ⊥) → 128 ≤ slice_index xs 0 → IsOlder xs octets
older_is [] octets left some high = absurd (some refl)
older_is (a ∷ []) octets left some high = none_some _ left.0 (no_last a [] high) left.1
older_is (a ∷ b ∷ []) octets left some high = none_some _ left.0 (no_last a (b ∷ []) high) left.1
older_is (a ∷ b ∷ c ∷ []) octets left some high = none_some _ left.0 (no_last a (b ∷ c ∷ []) high) left.1
older_is (a ∷ b ∷ c ∷ d ∷ rest) octets left some high = older_four a b c d rest octets left.0 high left.1 left.2

all_behind : (xs : List ℕ) → take (length xs - 4) (drop 4 xs) ≡ drop 4 xs
all_behind xs = take_all (length xs - 4) (drop 4 xs) (omega (arith, length-drop 4 xs))

pub left_is : (xs octets behind : List ℕ) (n : ℕ) → IsOlder xs octets → n ≡ (older_of xs).size → behind ≡ drop n octets → AreLeft (take (length xs - 4) (drop 4 xs)) behind
left_is xs octets behind n is size rest = rw (all_behind xs, rest, size) is.left

pub next_is : (xs octets front behind : List ℕ) (n offset : ℕ) (blocks : List Block) → blocks_left xs octets ≡ blocks → IsOlder xs octets → n ≡ (older_of xs).size → offset ≡ (older_of xs).offset
    → front ≡ take n octets → behind ≡ drop n octets
    → blocks ≡ record { payload_type = slice_index xs 0 % 128; offset = offset; octets = front } ∷ blocks_left (take (length xs - 4) (drop 4 xs)) behind
next_is xs octets front behind n offset blocks view is size below first rest = rw (all_behind xs, first, rest, below, size) (sym view ∙ is.blocks)
