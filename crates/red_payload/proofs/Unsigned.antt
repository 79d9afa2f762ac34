-- The first frame with another signature, over two pieces of whole frames.
use Rattle.std.proofs.Common.{◌≡◌, ℕ, zero, suc, ◌+◌, ◌*◌, ◌/◌, ◌%◌, ◌&&◌, ◌<◌, ◌≤◌, not, Bool, true, false, cond, eqb, List, ◌∷◌, ◌++◌, length, length-append, slice_index, Option, Some, None, option_map, refl, sym, ap, ◌∙◌, arith}
use Rattle.std.proofs.lemmas.Bool.{eqb-true}
use Rattle.std.specs.Option.{option_or}
use Rattle.std.proofs.lemmas.List.{get_or_append_left, get_or-append-add}
use Rattle.rtp_codec.specs.Grammar.{first_unsigned}
use Rattle.red_payload.specs.Blocks.{Block, first_broken, speech}

-- counted on from n
abbrev pub after : ℕ → Option ℕ → Option ℕ
after n o = option_map (λ i. n + i) o

abbrev pub unsigned_in : List ℕ → Option ℕ
unsigned_in octets = first_unsigned 0 (length octets / 33) octets

-- in the second piece, behind m frames
in_second : (n i m : ℕ) (xs ys : List ℕ) → length xs ≡ 33 * m → first_unsigned (m + i) n (xs ++ ys) ≡ after m (first_unsigned i n ys)
in_second zero i m xs ys size = refl
in_second (suc n) i m xs ys size =
    let place : 33 * (m + i) ≡ length xs + 33 * i = omega arith in
    let octet : slice_index (xs ++ ys) (33 * (m + i)) ≡ slice_index ys (33 * i) = ap (slice_index (xs ++ ys)) place ∙ get_or-append-add xs ys (33 * i) 0 in
    let next : suc (m + i) ≡ m + suc i = omega arith in
    let rest : first_unsigned (suc (m + i)) n (xs ++ ys) ≡ after m (first_unsigned (suc i) n ys) =
    ap (λ (k : ℕ). first_unsigned k n (xs ++ ys)) next ∙ in_second n (suc i) m xs ys size in
    ap (λ (o : ℕ). cond (eqb (o / 16) 13) (first_unsigned (suc (m + i)) n (xs ++ ys)) (Some (m + i))) octet
    ∙ either (eqb (slice_index ys (33 * i) / 16) 13) (first_unsigned (suc (m + i)) n (xs ++ ys)) (first_unsigned (suc i) n ys) i rest
  where
    either : (b : Bool) (far near : Option ℕ) (i : ℕ) → far ≡ after m near → cond b far (Some (m + i)) ≡ after m (cond b near (Some i))
    either true far near i e = e
    either false far near i e = refl

-- in the first piece, and else behind its n frames from place i on
in_first : (n k i total end : ℕ) (xs ys : List ℕ) → total ≡ n + k → end ≡ i + n → 33 * end ≤ length xs
    → first_unsigned i total (xs ++ ys) ≡ option_or (first_unsigned i n xs) (first_unsigned end k (xs ++ ys))
in_first zero k i total end xs ys all place fits =
    let t : total ≡ k = omega (arith, all) in
    let e : end ≡ i = omega (arith, place) in
    rw (t, e) refl
in_first (suc n) k i total end xs ys all place fits =
    let t : total ≡ suc (n + k) = omega (arith, all) in
    let octet : slice_index (xs ++ ys) (33 * i) ≡ slice_index xs (33 * i) = get_or_append_left xs ys 0 (33 * i) (omega arith) in
    let rest = in_first n k (suc i) (n + k) end xs ys refl (omega arith) fits in
    rw t (ap (λ (o : ℕ). cond (eqb (o / 16) 13) (first_unsigned (suc i) (n + k) (xs ++ ys)) (Some i)) octet
    ∙ either (eqb (slice_index xs (33 * i) / 16) 13) (first_unsigned (suc i) (n + k) (xs ++ ys)) (first_unsigned (suc i) n xs) (first_unsigned end k (xs ++ ys)) i rest)
  where
    either : (b : Bool) (all near far : Option ℕ) (i : ℕ) → all ≡ option_or near far → cond b all (Some i) ≡ option_or (cond b near (Some i)) far
    either true all near far i e = e
    either false all near far i e = refl

pub in_both : (xs ys : List ℕ) → length xs % 33 ≡ 0 → unsigned_in (xs ++ ys) ≡ option_or (unsigned_in xs) (after (length xs / 33) (unsigned_in ys))
in_both xs ys whole =
    let m : ℕ = length xs / 33 in
    let size : length xs ≡ 33 * m = omega (arith, whole) in
    let all : length (xs ++ ys) / 33 ≡ m + length ys / 33 = omega (arith, length-append xs ys, size) in
    let none : m ≡ m + 0 = omega arith in
    in_first m (length ys / 33) 0 (length (xs ++ ys) / 33) m xs ys all (omega arith) (omega (arith, size))
    ∙ ap (option_or (unsigned_in xs)) (ap (λ (k : ℕ). first_unsigned k (length ys / 33) (xs ++ ys)) none ∙ in_second (length ys / 33) 0 m xs ys size)

-- what a walk over the blocks keeps: no block is broken, and the first frame of all is the first one that is left
pub record IsUnsignedSo (all left : List Block) (before : ℕ) : Type 0 where
  pub place : ℕ
  pub whole : first_broken place left ≡ None
  pub told : unsigned_in (speech all) ≡ after before (unsigned_in (speech left))
  pub few : 33 * before + length (speech left) ≤ 330

speech_here : (b : Block) (bs : List Block) → b.payload_type ≡ 3 → speech (b ∷ bs) ≡ b.octets ++ speech bs
speech_here b bs full = ap (λ (t : ℕ). cond (eqb t 3) (b.octets ++ speech bs) (speech bs)) full

broken_here : (b : Block) (place : ℕ) (bs : List Block) → b.payload_type ≡ 3 → first_broken place (b ∷ bs) ≡ cond (eqb (length b.octets % 33) 0) (first_broken (place + 1) bs) (Some place)
broken_here b place bs full =
    ap (λ (t : ℕ). cond (eqb t 3 && not (eqb (length b.octets % 33) 0)) (Some place) (first_broken (place + 1) bs)) full
    ∙ turned (eqb (length b.octets % 33) 0) (Some place) (first_broken (place + 1) bs)
  where
    turned : (t : Bool) (x y : Option ℕ) → cond (true && not t) x y ≡ cond t y x
    turned true x y = refl
    turned false x y = refl

here : (b : Bool) (rest : Option ℕ) (i : ℕ) → cond b rest (Some i) ≡ None → b ≡ true
here true rest i e = refl
here false rest i e = cc

later : (b : Bool) (rest : Option ℕ) (i : ℕ) → cond b rest (Some i) ≡ None → rest ≡ None
later true rest i e = e
later false rest i e = cc

-- a block of frames at the front
pub record IsFront (b : Block) (place : ℕ) (bs : List Block) : Type 0 where
  pub whole : length b.octets % 33 ≡ 0
  pub rest : first_broken (place + 1) bs ≡ None
  pub speech : speech (b ∷ bs) ≡ b.octets ++ speech bs

pub front_is : (b : Block) (place : ℕ) (bs : List Block) → first_broken place (b ∷ bs) ≡ None → b.payload_type ≡ 3 → IsFront b place bs
front_is b place bs none full =
    let e = sym (broken_here b place bs full) ∙ none in
    record {
      whole = eqb-true (length b.octets % 33) 0 (here (eqb (length b.octets % 33) 0) (first_broken (place + 1) bs) place e);
      rest = later (eqb (length b.octets % 33) 0) (first_broken (place + 1) bs) place e;
      speech = speech_here b bs full;
    }

found_below : (n i k : ℕ) (octets : List ℕ) → first_unsigned i n octets ≡ Some k → k < i + n
found_below zero i k octets e = absurd (apart k e)
  where
    apart : (k : ℕ) → None ≡ Some k → ⊥
    apart k e = cc
found_below (suc n) i k octets e =
    either (eqb (slice_index octets (33 * i) / 16) 13) (first_unsigned (suc i) n octets) (λ more. found_below n (suc i) k octets more) e
  where
    is : (i k : ℕ) → Some i ≡ Some k → i ≡ k
    is i k e = cc

    either : (b : Bool) (rest : Option ℕ) → (rest ≡ Some k → k < suc i + n) → cond b rest (Some i) ≡ Some k → k < i + suc n
    either true rest below e = omega (arith, below e)
    either false rest below e = omega (arith, is i k e)

-- a frame of the block at the front is the first one
pub record IsFound (all : List Block) (before k : ℕ) : Type 0 where
  pub told : Some (before + k) ≡ unsigned_in (speech all)
  pub few : before + k < 10

pub found_here : (all left new : List Block) (b : Block) (before k : ℕ) → IsUnsignedSo all left before → left ≡ b ∷ new → b.payload_type ≡ 3 → Some k ≡ unsigned_in b.octets → IsFound all before k
found_here all left new b before k so at full found =
    let front = front_is b so.place new (sym (ap (first_broken so.place) at) ∙ so.whole) full in
    let pieces : speech left ≡ b.octets ++ speech new = ap speech at ∙ front.speech in
    let size : length (speech left) ≡ length b.octets + length (speech new) = ap length pieces ∙ length-append b.octets (speech new) in
    let below : k < 0 + length b.octets / 33 = found_below (length b.octets / 33) 0 k b.octets (sym found) in
    record {
      told = sym (so.told ∙ ap (λ (xs : List ℕ). after before (unsigned_in xs)) pieces
          ∙ ap (after before) (in_both b.octets (speech new) front.whole ∙ ap (λ (o : Option ℕ). option_or o (after (length b.octets / 33) (unsigned_in (speech new)))) (sym found)));
      few = omega (arith, so.few, size, below);
    }

twice : (a b : ℕ) (o : Option ℕ) → after a (after b o) ≡ after (a + b) o
twice a b None = refl
twice a b (Some i) =
    let sum : a + (b + i) ≡ a + b + i = omega arith in
    ap (λ (k : ℕ). Some k) sum

pub none_here : (all left new : List Block) (b : Block) (before : ℕ) → IsUnsignedSo all left before → left ≡ b ∷ new → b.payload_type ≡ 3 → None ≡ unsigned_in b.octets
    → IsUnsignedSo all new (before + length b.octets / 33)
none_here all left new b before so at full none =
    let front = front_is b so.place new (sym (ap (first_broken so.place) at) ∙ so.whole) full in
    let pieces : speech left ≡ b.octets ++ speech new = ap speech at ∙ front.speech in
    let size : length (speech left) ≡ length b.octets + length (speech new) = ap length pieces ∙ length-append b.octets (speech new) in
    record {
      place = so.place + 1;
      whole = front.rest;
      told = so.told ∙ ap (λ (xs : List ℕ). after before (unsigned_in xs)) pieces
          ∙ ap (after before) (in_both b.octets (speech new) front.whole ∙ ap (λ (o : Option ℕ). option_or o (after (length b.octets / 33) (unsigned_in (speech new)))) (sym none))
          ∙ twice before (length b.octets / 33) (unsigned_in (speech new));
      few = omega (arith, so.few, size, front.whole);
    }
