-- What was read is spelled so.
use Rattle.std.proofs.Common.{◌≡◌, ℕ, ◌+◌, ◌<◌, List, [], ◌∷◌, ◌++◌, length, take, drop, slice_index, Bool, true, false, ◌&&◌, min, nat_eq, add-one, drop-cons, refl, sym, ap, subst, ◌∙◌, arith}
use Rattle.std.proofs.lemmas.List.{take-append-drop, length-take, length-drop}
use Rattle.std.proofs.Math.Seq.{take-length}
use Rattle.std.proofs.lemmas.Bool.{eqb-true}
use Rattle.byteorder.specs.Endian.{big_bytes, big_number}
use Rattle.recorder.specs.declared.events.ScriptEvent.TheVariants.{File}
use Rattle.recorder.specs.Script.{event_text}
use Rattle.recorder.specs.Heads.{agrees, head_text, heading_of}
use Rattle.std.specs.Cmp.Lexicographic.{pointwise}
use Rattle.recorder.proofs.Numbers.{IsBytes, IsBytes-take, IsBytes-drop, again_8, again_2, again_4}

-- lists of numbers that compare alike are equal
same_bytes : (xs ys : List ℕ) → pointwise nat_eq xs ys ≡ true → xs ≡ ys
same_bytes [] [] same = refl
same_bytes [] (y ∷ ys) same = absurd cc
same_bytes (x ∷ xs) [] same = absurd cc
same_bytes (x ∷ xs) (y ∷ ys) same = both (nat_eq x y) (pointwise nat_eq xs ys) same (eqb-true x y) (same_bytes xs ys)
  where
    both : {x y : ℕ} {xs ys : List ℕ} (a b : Bool) → (a && b) ≡ true → (a ≡ true → x ≡ y) → (b ≡ true → xs ≡ ys) → x ∷ xs ≡ y ∷ ys
    both true true same p q = rw (p refl, q refl) refl
    both true false same p q = absurd cc
    both false b same p q = absurd cc

-- a list of n places is its first n
pub take-all : (n : ℕ) (xs : List ℕ) → length xs ≡ n → take n xs ≡ xs
take-all n xs len = subst (λ (m : ℕ). take m xs ≡ xs) len (take-length xs)

pub first-rest : (fields : List ℕ) → 0 < length fields → fields ≡ slice_index fields 0 ∷ drop 1 fields
first-rest [] some = absurd (omega arith)
first-rest (x ∷ fields) some = refl

drop-nine : (fields : List ℕ) → drop 8 (drop 1 fields) ≡ drop 9 fields
drop-nine [] = refl
drop-nine (x ∷ fields) = refl

pub file_spelled : (fields : List ℕ) → length fields ≡ 42 → IsBytes fields
    → event_text (File (slice_index fields 0) (big_number 8 (take 8 (drop 1 fields))) (take 33 (drop 9 fields))) ≡ 2 ∷ fields
file_spelled fields len fits =
    let rest = drop 1 fields in
    let long : length rest ≡ 41 = omega (arith, length-drop 1 fields) in
    let number : big_bytes 8 (big_number 8 (take 8 rest)) ≡ take 8 rest = again_8 (take 8 rest) (omega (arith, length-take 8 rest)) (IsBytes-take 8 rest (IsBytes-drop 1 fields fits)) in
    let frame : take 33 (drop 9 fields) ≡ drop 8 rest = take-all 33 (drop 9 fields) (omega (arith, length-drop 9 fields)) ∙ sym (drop-nine fields) in
    let parts : big_bytes 8 (big_number 8 (take 8 rest)) ++ take 33 (drop 9 fields) ≡ rest = ap (λ (l : List ℕ). l ++ take 33 (drop 9 fields)) number ∙ ap (λ (l : List ℕ). take 8 rest ++ l) frame ∙ take-append-drop 8 rest in
    let whole : slice_index fields 0 ∷ rest ≡ fields = sym (first-rest fields (omega arith)) in
    ap (λ (l : List ℕ). 2 ∷ (slice_index fields 0 ∷ l)) parts ∙ ap (λ (l : List ℕ). 2 ∷ l) whole

-- ---- heads

next-place : (n : ℕ) (xs : List ℕ) → n < length xs → drop n xs ≡ slice_index xs n ∷ drop (n + 1) xs
next-place n xs lt = rw (add-one, drop-cons xs n 0 lt) refl

pub head_spelled : (magic octets : List ℕ) → length magic ≡ 8 → length octets ≡ 12 → IsBytes octets → agrees magic octets ≡ true → head_text magic (heading_of octets) ≡ octets
head_spelled magic octets eight twelve fits same =
    let shorter : min (length octets) 8 ≡ 8 = rw twelve refl in
    let test : pointwise nat_eq (take 8 magic) (take 8 octets) ≡ true = subst (λ (n : ℕ). pointwise nat_eq (take n magic) (take n octets) ≡ true) shorter same in
    let front : take 8 magic ≡ take 8 octets = same_bytes (take 8 magic) (take 8 octets) test in
    let whole : magic ≡ take 8 octets = sym (take-all 8 magic eight) ∙ front in
    let delay : big_bytes 2 (big_number 2 (take 2 (drop 10 octets))) ≡ take 2 (drop 10 octets) = again_2 (take 2 (drop 10 octets)) (omega (arith, length-take 2 (drop 10 octets), length-drop 10 octets)) (IsBytes-take 2 (drop 10 octets) (IsBytes-drop 10 octets fits)) in
    let last : take 2 (drop 10 octets) ≡ drop 10 octets = take-all 2 (drop 10 octets) (omega (arith, length-drop 10 octets)) in
    let tail : slice_index octets 8 ∷ (slice_index octets 9 ∷ drop 10 octets) ≡ drop 8 octets = sym (next-place 8 octets (omega arith) ∙ ap (λ (l : List ℕ). slice_index octets 8 ∷ l) (next-place 9 octets (omega arith))) in
    ap (λ (l : List ℕ). magic ++ (slice_index octets 8 ∷ (slice_index octets 9 ∷ l))) (delay ∙ last)
    ∙ ap (λ (l : List ℕ). magic ++ l) tail ∙ ap (λ (l : List ℕ). l ++ drop 8 octets) whole ∙ take-append-drop 8 octets

-- ---- the fields of a Datagram before its octets

drop-five : (fields : List ℕ) → drop 4 (drop 1 fields) ≡ drop 5 fields
drop-five [] = refl
drop-five (x ∷ fields) = refl

pub datagram_spelled : (fields : List ℕ) → length fields ≡ 7 → IsBytes fields
    → slice_index fields 0 ∷ (big_bytes 4 (big_number 4 (take 4 (drop 1 fields))) ++ big_bytes 2 (big_number 2 (take 2 (drop 5 fields)))) ≡ fields
datagram_spelled fields len fits =
    let rest = drop 1 fields in
    let long : length rest ≡ 6 = omega (arith, length-drop 1 fields) in
    let at : big_bytes 4 (big_number 4 (take 4 rest)) ≡ take 4 rest = again_4 (take 4 rest) (omega (arith, length-take 4 rest)) (IsBytes-take 4 rest (IsBytes-drop 1 fields fits)) in
    let two : length (drop 5 fields) ≡ 2 = omega (arith, length-drop 5 fields) in
    let last : big_bytes 2 (big_number 2 (take 2 (drop 5 fields))) ≡ drop 4 rest =
    again_2 (take 2 (drop 5 fields)) (omega (arith, length-take 2 (drop 5 fields))) (IsBytes-take 2 (drop 5 fields) (IsBytes-drop 5 fields fits)) ∙ take-all 2 (drop 5 fields) two ∙ sym (drop-five fields) in
    let parts : big_bytes 4 (big_number 4 (take 4 rest)) ++ big_bytes 2 (big_number 2 (take 2 (drop 5 fields))) ≡ rest =
    ap (λ (l : List ℕ). l ++ big_bytes 2 (big_number 2 (take 2 (drop 5 fields)))) at ∙ ap (λ (l : List ℕ). take 4 rest ++ l) last ∙ take-append-drop 4 rest in
    ap (λ (l : List ℕ). slice_index fields 0 ∷ l) parts ∙ sym (first-rest fields (omega arith))
