-- The blocks of octets that come in two pieces.
use Rattle.std.proofs.Common.{◌≡◌, ℕ, zero, suc, ◌+◌, ◌-◌, ◌*◌, ◌/◌, ◌%◌, ◌^◌, ◌<◌, ◌≤◌, List, [], ◌∷◌, ◌++◌, length, drop, take, refl, sym, ap, ◌∙◌, arith, length-append, length-drop}
use Rattle.std.proofs.Math.Seq.{take-length}
use Rattle.std.proofs.lemmas.List.{length-map, length-take-le, take-append-le}
use Rattle.g711_leg.specs.Legs.{Start, blocks, codes_in, codes_of, packet_of, packets_in, rest_of, samples_of, whole_blocks}
use Rattle.g711_leg.specs.Best.{code_of}
use Rattle.g711_leg.specs.declared.law.Law.{Law}

drop_all : (xs : List ℕ) → drop (length xs) xs ≡ []
drop_all [] = refl
drop_all (x ∷ xs) = drop_all xs

drop_within : (n : ℕ) (xs ys : List ℕ) → n ≤ length xs → drop n (xs ++ ys) ≡ drop n xs ++ ys
drop_within zero xs ys le = refl
drop_within (suc n) [] ys le = absurd (omega arith)
drop_within (suc n) (x ∷ xs) ys le = drop_within n xs ys (omega arith)

drop_none : (k : ℕ) → ◌≡◌ {A = List ℕ} [] (drop k [])
drop_none zero = refl
drop_none (suc k) = refl

drop_twice : (n m : ℕ) (xs : List ℕ) → drop n (drop m xs) ≡ drop (m + n) xs
drop_twice n zero xs = let e : n ≡ 0 + n = omega arith in ap (λ (k : ℕ). drop k xs) e
drop_twice n (suc m) [] = sym (drop_none n) ∙ drop_none (suc m + n)
drop_twice n (suc m) (x ∷ xs) = let e : suc m + n ≡ suc (m + n) = omega arith in drop_twice n m xs ∙ ap (λ (k : ℕ). drop k (x ∷ xs)) (sym e)

pub blocks_append : (n m : ℕ) (xs ys : List ℕ) → 320 * n ≤ length xs → blocks (n + m) (xs ++ ys) ≡ blocks n xs ++ blocks m (drop (320 * n) xs ++ ys)
blocks_append zero m xs ys le = let e : 0 + m ≡ m = omega arith in ap (λ (k : ℕ). blocks k (xs ++ ys)) e
blocks_append (suc n) m xs ys le =
    let f : suc n + m ≡ suc (n + m) = omega arith in
    let le_first : 320 ≤ length xs = omega arith in
    let rest : 320 * n ≤ length (drop 320 xs) = omega (arith, length-drop 320 xs) in
    let e : drop (320 * n) (drop 320 xs) ≡ drop (320 * suc n) xs = drop_twice (320 * n) 320 xs ∙ ap (λ (k : ℕ). drop k xs) (more n) in
    let first : take 320 (xs ++ ys) ≡ take 320 xs = take-append-le 320 xs ys le_first in
    let behind : drop 320 (xs ++ ys) ≡ drop 320 xs ++ ys = drop_within 320 xs ys le_first in
    ap (λ (k : ℕ). blocks k (xs ++ ys)) f
    ∙ ap (λ (part : List ℕ). part ∷ blocks (n + m) (drop 320 (xs ++ ys))) first
    ∙ ap (λ (octets : List ℕ). take 320 xs ∷ blocks (n + m) octets) behind
    ∙ ap (λ (parts : List (List ℕ)). take 320 xs ∷ parts) (blocks_append n m (drop 320 xs) ys rest)
    ∙ ap (λ (octets : List ℕ). take 320 xs ∷ (blocks n (drop 320 xs) ++ blocks m (octets ++ ys))) e
  where
    more : (n : ℕ) → 320 + 320 * n ≡ 320 * suc n
    more n = omega arith

length_rest : (xs : List ℕ) → length (rest_of xs) ≡ length xs - 320 * (length xs / 320)
length_rest xs = length-drop (320 * (length xs / 320)) xs

-- fewer octets than a block are left
pub rest_few : (xs : List ℕ) → length (rest_of xs) < 320
rest_few xs = omega (arith, length_rest xs)

-- how many blocks there are
count_split : (xs ys : List ℕ) → length (xs ++ ys) / 320 ≡ length xs / 320 + length (rest_of xs ++ ys) / 320
count_split xs ys = omega (arith, length-append xs ys, length-append (rest_of xs) ys, length_rest xs)

pub whole_split : (xs ys : List ℕ) → whole_blocks (xs ++ ys) ≡ whole_blocks xs ++ whole_blocks (rest_of xs ++ ys)
whole_split xs ys =
    ap (λ (n : ℕ). blocks n (xs ++ ys)) (count_split xs ys)
    ∙ blocks_append (length xs / 320) (length (rest_of xs ++ ys) / 320) xs ys (omega arith)

pub rest_split : (xs ys : List ℕ) → rest_of (xs ++ ys) ≡ rest_of (rest_of xs ++ ys)
rest_split xs ys =
    let n : ℕ = length xs / 320 in
    let m : ℕ = length (rest_of xs ++ ys) / 320 in
    let e : 320 * (length (xs ++ ys) / 320) ≡ 320 * n + 320 * m = omega (arith, count_split xs ys) in
    ap (λ (k : ℕ). drop k (xs ++ ys)) e ∙ sym (drop_twice (320 * m) (320 * n) (xs ++ ys))
    ∙ ap (λ (octets : List ℕ). drop (320 * m) octets) (drop_within (320 * n) xs ys (omega arith))

-- fewer octets than a block
pub whole_none : (xs : List ℕ) → length xs < 320 → whole_blocks xs ≡ []
whole_none xs few = let e : length xs / 320 ≡ 0 = omega arith in rw e refl

pub rest_none : (xs : List ℕ) → length xs < 320 → rest_of xs ≡ xs
rest_none xs few = let e : 320 * (length xs / 320) ≡ 0 = omega arith in rw e refl

-- just a block
pub whole_one : (xs : List ℕ) → length xs ≡ 320 → whole_blocks xs ≡ xs ∷ []
whole_one xs full =
    let e : length xs / 320 ≡ 1 = omega arith in
    let all : take 320 xs ≡ xs = ap (λ (n : ℕ). take n xs) (sym full) ∙ take-length xs in
    rw e (ap (λ (part : List ℕ). part ∷ []) all)

pub rest_one : (xs : List ℕ) → length xs ≡ 320 → rest_of xs ≡ []
rest_one xs full =
    let e : 320 * (length xs / 320) ≡ length xs = omega arith in
    rw e (drop_all xs)

-- numbers that are the same modulo 2 ^ 32 give the same packets
same_packet : (s : Start) (i j : ℕ) (codes : List ℕ) → i % 2 ^ 32 ≡ j % 2 ^ 32 → packet_of s i codes ≡ packet_of s j codes
same_packet s i j codes same =
    let e : (s.sequence + i) % 2 ^ 16 ≡ (s.sequence + j) % 2 ^ 16 = omega arith in
    let f : (s.stamp + 160 * i) % 2 ^ 32 ≡ (s.stamp + 160 * j) % 2 ^ 32 = omega arith in
    rw (e, f) refl

pub same_packets : (s : Start) (i j : ℕ) (parts : List (List ℕ)) → i % 2 ^ 32 ≡ j % 2 ^ 32 → packets_in s i parts ≡ packets_in s j parts
same_packets s i j [] same = refl
same_packets s i j (part ∷ parts) same =
    ap (λ (packet : List ℕ). packet ∷ packets_in s (suc i) parts) (same_packet s i j (codes_of s.law part) same)
    ∙ ap (λ (packets : List (List ℕ)). packet_of s j (codes_of s.law part) ∷ packets) (same_packets s (suc i) (suc j) parts (omega arith))

pub packets_append : (s : Start) (i : ℕ) (xs ys : List (List ℕ)) → packets_in s i (xs ++ ys) ≡ packets_in s i xs ++ packets_in s (i + length xs) ys
packets_append s i [] ys = let e : i ≡ i + 0 = omega arith in ap (λ (j : ℕ). packets_in s j ys) e
packets_append s i (x ∷ xs) ys =
    let e : suc i + length xs ≡ i + suc (length xs) = omega arith in
    ap (λ (packets : List (List ℕ)). packet_of s i (codes_of s.law x) ∷ packets)
    (packets_append s (suc i) xs ys ∙ ap (λ (j : ℕ). packets_in s (suc i) xs ++ packets_in s j ys) e)

-- ---- how many there are

length_samples : (n : ℕ) (xs : List ℕ) → length xs ≡ 2 * n → length (samples_of xs) ≡ n
length_samples zero [] size = refl
length_samples (suc n) [] size = absurd (omega arith)
length_samples zero (a ∷ xs) size = absurd (omega arith)
length_samples (suc n) (a ∷ []) size = absurd (omega arith)
length_samples (suc n) (a ∷ b ∷ xs) size = ap suc (length_samples n xs (omega arith))

pub length_codes : (law : Law) (part : List ℕ) → length part ≡ 320 → length (codes_of law part) ≡ 160
length_codes law part full = length-map (samples_of part) (code_of law) ∙ length_samples 160 part full

length_codes_in : (law : Law) (n : ℕ) (xs : List ℕ) → 320 * n ≤ length xs → length (codes_in law (blocks n xs)) ≡ 160 * n
length_codes_in law zero xs le = refl
length_codes_in law (suc n) xs le =
    let first : length (codes_of law (take 320 xs)) ≡ 160 = length_codes law (take 320 xs) (length-take-le 320 xs (omega arith)) in
    let rest : length (codes_in law (blocks n (drop 320 xs))) ≡ 160 * n = length_codes_in law n (drop 320 xs) (omega (arith, length-drop 320 xs)) in
    length-append (codes_of law (take 320 xs)) (codes_in law (blocks n (drop 320 xs))) ∙ omega (arith, first, rest)

length_blocks : (n : ℕ) (xs : List ℕ) → length (blocks n xs) ≡ n
length_blocks zero xs = refl
length_blocks (suc n) xs = ap suc (length_blocks n (drop 320 xs))

length_packets : (s : Start) (i : ℕ) (parts : List (List ℕ)) → length (packets_in s i parts) ≡ length parts
length_packets s i [] = refl
length_packets s i (part ∷ parts) = ap suc (length_packets s (suc i) parts)

-- 160 codes to a packet
pub codes_of_packets : (s : Start) (i : ℕ) (xs : List ℕ) → length (codes_in s.law (whole_blocks xs)) ≡ 160 * length (packets_in s i (whole_blocks xs))
codes_of_packets s i xs =
    let n : ℕ = length xs / 320 in
    omega (arith, length_codes_in s.law n xs (omega arith), length_packets s i (whole_blocks xs), length_blocks n xs)
