-- What was read of a filer's journal is spelled so.
use Rattle.std.proofs.Common.{◌≡◌, ℕ, zero, suc, ◌+◌, ◌≤◌, List, [], ◌∷◌, ◌++◌, length, take, drop, slice_index, drop-cons, append_assoc, refl, sym, ap, ◌∙◌, arith}
use Rattle.std.specs.Int.{w32, from_be_bytes}
use Rattle.std.proofs.lemmas.Nat.{be_bytes_4}
use Rattle.std.proofs.lemmas.List.{drop_all, take-append-drop, length-take, length-drop}
use Rattle.byteorder.specs.Endian.{big_bytes, big_number}
use Rattle.playout.specs.declared.reply.FileReply.{FileReply}
use Rattle.recorder.specs.Filing.{reply_kind, reply_text}
use Rattle.recorder.proofs.Numbers.{IsBytes, IsBytes-take, IsBytes-drop, again_8}
use Rattle.recorder.proofs.Spelled.{take-all}

number_4 : (bs : List ℕ) → big_number 4 bs ≡ from_be_bytes w32 bs
number_4 bs = omega arith

read_4 : (bs : List ℕ) → length bs ≡ 4 → IsBytes bs → big_bytes 4 (big_number 4 bs) ≡ bs
read_4 bs len fits = be_bytes_4 bs (big_number 4 bs) len fits (number_4 bs)

-- two numbers
pub pair_spelled : (fields : List ℕ) (a b : ℕ) → length fields ≡ 8 → IsBytes fields → a ≡ big_number 4 (take 4 fields) → b ≡ big_number 4 (take 4 (drop 4 fields)) → big_bytes 4 a ++ big_bytes 4 b ≡ fields
pair_spelled fields a b len fits one two =
    let last : take 4 (drop 4 fields) ≡ drop 4 fields = take-all 4 (drop 4 fields) (omega (arith, length-drop 4 fields)) in
    ap (λ (n : ℕ). big_bytes 4 n ++ big_bytes 4 b) one ∙ ap (λ (n : ℕ). big_bytes 4 (big_number 4 (take 4 fields)) ++ big_bytes 4 n) (two ∙ ap (big_number 4) last)
    ∙ ap (λ (l : List ℕ). l ++ big_bytes 4 (big_number 4 (drop 4 fields))) (read_4 (take 4 fields) (omega (arith, length-take 4 fields)) (IsBytes-take 4 fields fits))
    ∙ ap (λ (l : List ℕ). take 4 fields ++ l) (read_4 (drop 4 fields) (omega (arith, length-drop 4 fields)) (IsBytes-drop 4 fields fits))
    ∙ take-append-drop 4 fields

-- two pieces, one behind the other, are the first of both sizes
take-none : (n : ℕ) → take {A = ℕ} n [] ≡ []
take-none zero = refl
take-none (suc n) = refl

pieces : (m n j : ℕ) (l : List ℕ) → j ≡ m + n → take m l ++ take n (drop m l) ≡ take j l
pieces zero n j l is = ap (λ (k : ℕ). take k l) (let e : n ≡ j = omega arith in e)
pieces (suc m) n zero l is = absurd (omega arith)
pieces (suc m) n (suc j) [] is = take-none n
pieces (suc m) n (suc j) (x ∷ l) is = ap (λ (k : List ℕ). x ∷ k) (pieces m n j l (omega arith))

-- a number and its frame
pub filed_spelled : (fields frame : List ℕ) (n : ℕ) → 41 ≤ length fields → IsBytes fields → n ≡ big_number 8 (take 8 fields) → frame ≡ take 33 (drop 8 fields) → big_bytes 8 n ++ frame ≡ take 41 fields
filed_spelled fields frame n long fits one two =
    ap (λ (k : ℕ). big_bytes 8 k ++ frame) one ∙ ap (λ (l : List ℕ). big_bytes 8 (big_number 8 (take 8 fields)) ++ l) two
    ∙ ap (λ (l : List ℕ). l ++ take 33 (drop 8 fields)) (again_8 (take 8 fields) (omega (arith, length-take 8 fields)) (IsBytes-take 8 fields fits))
    ∙ pieces 8 33 41 fields (omega arith)

-- the number behind a frame
pub ahead_spelled : (fields : List ℕ) (n : ℕ) → length fields ≡ 49 → IsBytes fields → n ≡ big_number 8 (take 8 (drop 41 fields)) → big_bytes 8 n ≡ drop 41 fields
ahead_spelled fields n len fits is =
    let last : take 8 (drop 41 fields) ≡ drop 41 fields = take-all 8 (drop 41 fields) (omega (arith, length-drop 41 fields)) in
    ap (big_bytes 8) (is ∙ ap (big_number 8) last) ∙ again_8 (drop 41 fields) (omega (arith, length-drop 41 fields)) (IsBytes-drop 41 fields fits)

-- a number, its frame and what the reply tells
pub file_spelled : (fields frame : List ℕ) (n kind : ℕ) (reply : FileReply) → big_bytes 8 n ++ frame ≡ take 41 fields → reply_kind reply ≡ kind → reply_text reply ≡ drop 41 fields → reply_kind reply ∷ (big_bytes 8 n ++ (frame ++ reply_text reply)) ≡ kind ∷ fields
file_spelled fields frame n kind reply front is tail =
    ap (λ (k : ℕ). k ∷ (big_bytes 8 n ++ (frame ++ reply_text reply))) is
    ∙ ap (λ (l : List ℕ). kind ∷ l) (sym (append_assoc (big_bytes 8 n) frame (reply_text reply)) ∙ ap (λ (l : List ℕ). l ++ reply_text reply) front ∙ ap (λ (l : List ℕ). take 41 fields ++ l) tail ∙ take-append-drop 41 fields)

-- a head and the caller behind it
pub head_whole : (octets head : List ℕ) (n : ℕ) → length octets ≡ 13 → n ≡ 12 → head ≡ take n octets → head ++ slice_index octets 12 ∷ [] ≡ octets
head_whole octets head n len twelve is =
    let last : drop 12 octets ≡ slice_index octets 12 ∷ drop 13 octets = rw (drop-cons octets 12 0 (omega arith)) refl in
    let none : drop 13 octets ≡ [] = drop_all 13 octets (omega arith) in
    ap (λ (l : List ℕ). l ++ slice_index octets 12 ∷ []) (is ∙ ap (λ (k : ℕ). take k octets) twelve)
    ∙ ap (λ (l : List ℕ). take 12 octets ++ l) (sym (last ∙ ap (λ (l : List ℕ). slice_index octets 12 ∷ l) none)) ∙ take-append-drop 12 octets
