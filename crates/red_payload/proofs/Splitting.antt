-- What the headers say in all, told one after the other.
use Rattle.std.proofs.Common.{◌≡◌, ℕ, ◌+◌, ◌-◌, ◌*◌, ◌<◌, ◌≤◌, true, false, List, [], ◌∷◌, length, take, drop, slice_index, Option, Some, None, option_map, refl, sym, ap, ◌∙◌, arith, length-drop}
use Rattle.std.proofs.lemmas.Bool.{le-ltb, lt-ltb, cond-false, cond-true}
use Rattle.std.proofs.lemmas.Bool.Decides.{nat_tests}
use Rattle.std.proofs.lemmas.List.{take_all}
use Rattle.red_payload.specs.declared.fault.RedFault.TheVariants as fault
use Rattle.red_payload.specs.Blocks.{Older, Heads, blocks_behind, blocks_from, blocks_of, fault_of_heads, header_fault, headers, older_of, total, with_older}
use Rattle.red_payload.specs.Walks.{IsSplit, blocks_left, blocks_with, is_older}
use Rattle.red_payload.proofs.Walking.{headers_on, left_behind, none_some, some_is}

-- with n older blocks before, of t octets: how many there are, how many octets they have, and what is behind
abbrev pub added : ℕ → ℕ → Heads → ℕ × (ℕ × List ℕ)
added n t h = (n + length h.older, (t + total h.older, h.behind))

abbrev pub sums : ℕ → ℕ → List ℕ → Option (ℕ × (ℕ × List ℕ))
sums n t xs = option_map (added n t) (headers xs)

pub front_high : (xs : List ℕ) → true ≡ is_older xs → 128 ≤ slice_index xs 0
front_high xs e = grind (arith, nat_tests)

pub front_low : (xs : List ℕ) → false ≡ is_older xs → (length xs ≡ 0 → ⊥) → slice_index xs 0 < 128
front_low xs e some = grind (arith, nat_tests)

added_on : (n t : ℕ) (o : Older) (r : Option Heads) → option_map (added n t) (option_map (with_older o) r) ≡ option_map (added (n + 1) (t + o.size)) r
added_on n t o None = refl
added_on n t o (Some h) =
    same _ _ _ _ h.behind (omega arith) (omega arith)
  where
    same : (a b c d : ℕ) (xs : List ℕ) → a ≡ b → c ≡ d → ◌≡◌ {A = Option (ℕ × (ℕ × List ℕ))} (Some (a, (c, xs))) (Some (b, (d, xs)))
    same a b c d xs e f = cc

-- an older header is told
pub one_told : (n t : ℕ) (xs : List ℕ) → 4 ≤ length xs → 128 ≤ slice_index xs 0 → sums n t xs ≡ sums (n + 1) (t + (older_of xs).size) (drop 4 xs)
one_told n t [] long high = absurd (omega arith)
one_told n t (a ∷ []) long high = absurd (omega arith)
one_told n t (a ∷ b ∷ []) long high = absurd (omega arith)
one_told n t (a ∷ b ∷ c ∷ []) long high = absurd (omega arith)
one_told n t (a ∷ b ∷ c ∷ d ∷ rest) long high =
    ap (option_map (added n t)) (headers_on a b c d rest high) ∙ added_on n t (older_of (a ∷ b ∷ c ∷ d ∷ rest)) (headers rest)

-- the last header is told
pub last_told : (xs : List ℕ) → (length xs ≡ 0 → ⊥) → slice_index xs 0 < 128 → headers xs ≡ Some (record { older = []; primary = slice_index xs 0; behind = drop 1 xs })
last_told [] some low = absurd (some refl)
last_told (a ∷ []) some low = cond-true _ _ _ (lt-ltb a 128 low)
last_told (a ∷ b ∷ []) some low = cond-true _ _ _ (lt-ltb a 128 low)
last_told (a ∷ b ∷ c ∷ []) some low = cond-true _ _ _ (lt-ltb a 128 low)
last_told (a ∷ b ∷ c ∷ d ∷ rest) some low = cond-true _ _ _ (lt-ltb a 128 low) ∙ cond-true _ _ _ (lt-ltb a 128 low)

-- all headers are told
pub record IsTold (payload : List ℕ) (n t : ℕ) (behind : List ℕ) : Type 0 where
  pub heads : Heads
  pub is : headers payload ≡ Some heads
  pub count : length heads.older ≡ n
  pub octets : total heads.older ≡ t
  pub rest : heads.behind ≡ behind

all_told : (payload behind : List ℕ) (n t : ℕ) (r : Option Heads) → headers payload ≡ r → option_map (added 0 0) r ≡ Some (n, (t, behind)) → IsTold payload n t behind
all_told payload behind n t None e told = none_some {A = ℕ × (ℕ × List ℕ)} None (n, (t, behind)) refl told
all_told payload behind n t (Some h) e told =
    let same : added 0 0 h ≡ (n, (t, behind)) = some_is _ _ told in
    let count : 0 + length h.older ≡ n = ap (λ (p : ℕ × (ℕ × List ℕ)). p.0) same in
    let octets : 0 + total h.older ≡ t = ap (λ (p : ℕ × (ℕ × List ℕ)). p.1.0) same in
    record { heads = h; is = e; count = omega (arith, count); octets = omega (arith, octets); rest = ap (λ (p : ℕ × (ℕ × List ℕ)). p.1.1) same }

pub is_told : (payload xs : List ℕ) (n t : ℕ) → sums 0 0 payload ≡ sums n t xs → false ≡ is_older xs → (length xs ≡ 0 → ⊥) → IsTold payload n t (drop 1 xs)
is_told payload xs n t e none some =
    all_told payload (drop 1 xs) n t (headers payload) refl
    (e ∙ ap (option_map (added n t)) (last_told xs some (front_low xs none some)) ∙ same (n + 0) n (t + 0) t (drop 1 xs) (omega arith) (omega arith))
  where
    same : (a b c d : ℕ) (xs : List ℕ) → a ≡ b → c ≡ d → ◌≡◌ {A = Option (ℕ × (ℕ × List ℕ))} (Some (a, (c, xs))) (Some (b, (d, xs)))
    same a b c d xs e f = cc

-- the rest behind k octets
pub rest_is : (k : ℕ) (xs : List ℕ) → take (length xs - k) (drop k xs) ≡ drop k xs
rest_is k xs = take_all (length xs - k) (drop k xs) (omega (arith, length-drop k xs))

-- the same as the code's slices show it
pub is_told_on : (payload xs : List ℕ) (n t : ℕ) → sums 0 0 payload ≡ sums n t xs → false ≡ is_older xs → (length xs ≡ 0 → ⊥) → IsTold payload n t (take (length xs - 1) (drop 1 xs))
is_told_on payload xs n t e none some = rw (rest_is 1 xs) (is_told payload xs n t e none some)

-- what a walk over the headers keeps
abbrev pub IsToldSo : List ℕ → List ℕ → ℕ → ℕ → Type 0
IsToldSo payload xs n t = (sums 0 0 payload ≡ sums n t xs) × (4 * n + length xs ≡ length payload) × (t ≤ 1023 * n)

pub one_more : (payload xs : List ℕ) (n t size : ℕ) → IsToldSo payload xs n t → 4 ≤ length xs → 128 ≤ slice_index xs 0 → size ≡ (older_of xs).size → size ≤ 1023
    → IsToldSo payload (take (length xs - 4) (drop 4 xs)) (n + 1) (t + size)
one_more payload xs n t size told long high is few =
    (rw (rest_is 4 xs, is) (told.0 ∙ one_told n t xs long high), rw (rest_is 4 xs) (omega (arith, told.1, length-drop 4 xs)), omega (arith, told.2))

length_blocks : (os : List Older) (primary : ℕ) (octets : List ℕ) → length (blocks_from os primary octets) ≡ length os + 1
length_blocks [] primary octets = refl
length_blocks (o ∷ os) primary octets = omega (arith, length_blocks os primary (drop o.size octets))

pub split_so : (payload behind : List ℕ) (n t : ℕ) → IsTold payload n t behind → t ≤ length behind → n + 1 ≤ 512 → IsSplit payload behind (n + 1)
split_so payload behind n t told fits few = record {
  left = left_behind payload behind told.heads told.is (omega (arith, told.octets, fits));
  blocks = ap (λ (k : ℕ). k + 1) (sym told.count) ∙ sym (ap (λ (r : Option Heads). length (blocks_with r behind)) told.is ∙ length_blocks told.heads.older told.heads.primary behind);
  few = few;
}

pub blocks_so : (payload behind : List ℕ) (n t : ℕ) → IsTold payload n t behind → blocks_left payload behind ≡ blocks_of payload
blocks_so payload behind n t told =
    ap (λ (r : Option Heads). blocks_with r behind) told.is
    ∙ ap (blocks_from told.heads.older told.heads.primary) (sym told.rest)
    ∙ sym (ap blocks_behind told.is)

pub fits_so : (payload behind : List ℕ) (n t : ℕ) → IsTold payload n t behind → t ≤ length behind → header_fault payload ≡ None
fits_so payload behind n t told fits =
    ap fault_of_heads told.is ∙ cond-false _ _ _ (le-ltb (length told.heads.behind) (total told.heads.older) (rw (told.rest, told.octets) fits))

pub past_so : (payload behind : List ℕ) (n t : ℕ) → IsTold payload n t behind → length behind < t → header_fault payload ≡ Some fault.Block
past_so payload behind n t told past =
    ap fault_of_heads told.is ∙ cond-true _ _ _ (lt-ltb (length told.heads.behind) (total told.heads.older) (rw (told.rest, told.octets) past))
