-- A payload is spelled by its blocks.
use Rattle.std.proofs.Common.{◌≡◌, ℕ, ◌+◌, ◌*◌, ◌/◌, ◌%◌, ◌<◌, ◌≤◌, Bool, true, false, cond, ltb, List, [], ◌∷◌, ◌++◌, length, length-drop, take, drop, Option, Some, None, option_map, refl, sym, ap, subst, append-nil, ◌∙◌, arith}
use Rattle.std.proofs.lemmas.Bool.{ltb-false}
use Rattle.std.proofs.lemmas.List.{append_assoc, length-take-le, take-append-drop}
use Rattle.byteorder.specs.Endian.{big_bytes, big_number}
use Rattle.red_payload.specs.declared.fault.RedFault.TheVariants as fault
use Rattle.red_payload.specs.Blocks.{Older, Heads, Block, blocks_behind, blocks_from, fault_of_heads, headers, last_header, older_of, total, with_older}
use Rattle.red_payload.specs.Spelling.{AreOctets, AreSpelled, heads_text, octets_text, older_text, spelled}
use Rattle.red_payload.proofs.Walking.{headers_on, none_some, some_is}

-- the octets behind the headers are those of the blocks
octets_are : (os : List Older) (primary : ℕ) (octets : List ℕ) → octets_text (blocks_from os primary octets) ≡ octets
octets_are [] primary octets = append-nil octets
octets_are (o ∷ os) primary octets = ap (λ (xs : List ℕ). take o.size octets ++ xs) (octets_are os primary (drop o.size octets)) ∙ take-append-drop o.size octets

-- three octets of a number
three : (b c d : ℕ) (rest : List ℕ) → b < 256 → c < 256 → d < 256 → big_bytes 3 (big_number 3 (b ∷ c ∷ d ∷ rest)) ≡ b ∷ c ∷ d ∷ []
three b c d rest hb hc hd =
    let first : (b * 65536 + (c * 256 + (d * 1 + 0))) / 65536 % 256 ≡ b = omega arith in
    let second : (b * 65536 + (c * 256 + (d * 1 + 0))) / 256 % 256 ≡ c = omega arith in
    let third : (b * 65536 + (c * 256 + (d * 1 + 0))) % 256 ≡ d = omega arith in
    same _ _ _ _ _ _ first second third
  where
    same : (b1 b2 c1 c2 d1 d2 : ℕ) → b1 ≡ b2 → c1 ≡ c2 → d1 ≡ d2 → b1 ∷ c1 ∷ d1 ∷ [] ≡ b2 ∷ c2 ∷ d2 ∷ []
    same b1 b2 c1 c2 d1 d2 e f g = cc

-- the text of an older header
older_is : (a b c d : ℕ) (rest octets : List ℕ) (o : Older) → o ≡ older_of (a ∷ b ∷ c ∷ d ∷ rest) → 128 ≤ a → a < 256 → b < 256 → c < 256 → d < 256 → o.size ≤ length octets
    → older_text (record { payload_type = o.payload_type; offset = o.offset; octets = take o.size octets }) ≡ a ∷ b ∷ c ∷ d ∷ []
older_is a b c d rest octets o is high ha hb hc hd fits =
    let word : ℕ = big_number 3 (b ∷ c ∷ d ∷ rest) in
    let kind : 128 + o.payload_type ≡ a = rw is (omega arith) in
    let size : length (take o.size octets) ≡ word % 1024 = length-take-le o.size octets fits ∙ ap (λ (p : Older). p.size) is in
    let number : 1024 * o.offset + length (take o.size octets) ≡ word = rw size (ap (λ (p : Older). 1024 * p.offset + word % 1024) is ∙ joined word) in
    same _ _ _ _ kind (ap (big_bytes 3) number ∙ three b c d rest hb hc hd)
  where
    same : (a1 a2 : ℕ) (xs ys : List ℕ) → a1 ≡ a2 → xs ≡ ys → a1 ∷ xs ≡ a2 ∷ ys
    same a1 a2 xs ys e f = cc

    joined : (word : ℕ) → 1024 * (word / 1024) + word % 1024 ≡ word
    joined word = omega arith

heads_more : (b : Block) (os : List Older) (primary : ℕ) (octets : List ℕ) → heads_text (b ∷ blocks_from os primary octets) ≡ older_text b ++ heads_text (blocks_from os primary octets)
heads_more b [] primary octets = refl
heads_more b (o ∷ os) primary octets = refl

-- the headers are spelled so, whatever is behind them
abbrev IsHeaded : List ℕ → List ℕ → Heads → Type 0
IsHeaded xs octets h = heads_text (blocks_from h.older h.primary octets) ++ h.behind ≡ xs

last_headed : (a : ℕ) (behind octets : List ℕ) (h : Heads) → last_header a behind ≡ Some h → IsHeaded (a ∷ behind) octets h
last_headed a behind octets h e = either (ltb a 128) e
  where
    is : (h : Heads) → record { older = []; primary = a; behind = behind } ≡ h → IsHeaded (a ∷ behind) octets h
    is h same = subst (λ (g : Heads). IsHeaded (a ∷ behind) octets g) same refl

    either : (t : Bool) → cond t (Some (record { older = []; primary = a; behind = behind })) None ≡ Some h → IsHeaded (a ∷ behind) octets h
    either true e = is h (some_is _ _ e)
    either false e = none_some None h refl e

-- an older header in front of such headers
older_headed : (a b c d : ℕ) (rest octets : List ℕ) (k : Heads) → AreOctets (a ∷ b ∷ c ∷ d ∷ rest) → 128 ≤ a → (older_of (a ∷ b ∷ c ∷ d ∷ rest)).size ≤ length octets
    → IsHeaded rest (drop (older_of (a ∷ b ∷ c ∷ d ∷ rest)).size octets) k → IsHeaded (a ∷ b ∷ c ∷ d ∷ rest) octets (with_older (older_of (a ∷ b ∷ c ∷ d ∷ rest)) k)
older_headed a b c d rest octets k bytes high fits headed =
    let o : Older = older_of (a ∷ b ∷ c ∷ d ∷ rest) in
    let block : Block = record { payload_type = o.payload_type; offset = o.offset; octets = take o.size octets } in
    let left : List ℕ = heads_text (blocks_from k.older k.primary (drop o.size octets)) in
    ap (λ (xs : List ℕ). xs ++ k.behind) (heads_more block k.older k.primary (drop o.size octets))
    ∙ append_assoc (older_text block) left k.behind
    ∙ ap (λ (xs : List ℕ). xs ++ (left ++ k.behind)) (older_is a b c d rest octets o refl high bytes.0 bytes.1.0 bytes.1.1.0 bytes.1.1.1.0 fits)
    ∙ ap (λ (xs : List ℕ). a ∷ b ∷ c ∷ d ∷ xs) headed

headed : (xs octets : List ℕ) (h : Heads) → AreOctets xs → headers xs ≡ Some h → total h.older ≤ length octets → IsHeaded xs octets h
headed [] octets h bytes e fits = none_some None h refl e
headed (a ∷ []) octets h bytes e fits = last_headed a [] octets h e
headed (a ∷ b ∷ []) octets h bytes e fits = last_headed a (b ∷ []) octets h e
headed (a ∷ b ∷ c ∷ []) octets h bytes e fits = last_headed a (b ∷ c ∷ []) octets h e
headed (a ∷ b ∷ c ∷ d ∷ rest) octets h bytes e fits =
    let xs : List ℕ = a ∷ b ∷ c ∷ d ∷ rest in
    let o : Older = older_of xs in
    elim (ltb a 128) as (λ (t : Bool). ltb a 128 ≡ t → IsHeaded xs octets h) [
      | true ↦ λ low. last_headed a (b ∷ c ∷ d ∷ rest) octets h
          (sym (ap (λ (t : Bool). cond t (last_header a (b ∷ c ∷ d ∷ rest)) (option_map (with_older o) (headers rest))) low) ∙ e)
      | false ↦ λ high.
          let on : option_map (with_older o) (headers rest) ≡ Some h = sym (headers_on a b c d rest (ltb-false a 128 high)) ∙ e in
          elim (headers rest) as (λ (r : Option Heads). headers rest ≡ r → IsHeaded xs octets h) [
            | None ↦ λ none. none_some (option_map (with_older o) (headers rest)) h (ap (option_map (with_older o)) none) on
            | Some k ↦ λ some.
                let same : with_older o k ≡ h = some_is _ _ (sym (ap (option_map (with_older o)) some) ∙ on) in
                let sizes : o.size + total k.older ≤ length octets = rw (ap (λ (g : Heads). total g.older) same) fits in
                subst (λ (g : Heads). IsHeaded xs octets g) same
                (older_headed a b c d rest octets k bytes (ltb-false a 128 high) (omega (arith, sizes))
                (headed rest (drop o.size octets) k bytes.1.1.1.1 some (omega (arith, sizes, length-drop o.size octets))))
          ] refl
    ] refl

fits_if : (n t : ℕ) → cond (ltb n t) (Some fault.Block) None ≡ None → t ≤ n
fits_if n t e = ltb-false n t (either (ltb n t) e)
  where
    either : (b : Bool) → cond b (Some fault.Block) None ≡ None → b ≡ false
    either true e = cc
    either false e = refl

spelled_so : (payload : List ℕ) (r : Option Heads) → AreOctets payload → headers payload ≡ r → fault_of_heads r ≡ None → payload ≡ spelled (blocks_behind r)
spelled_so payload None bytes e fine = none_some (Some fault.Header) fault.Header (fine) refl
spelled_so payload (Some h) bytes e fine =
    sym (ap (λ (xs : List ℕ). heads_text (blocks_from h.older h.primary h.behind) ++ xs) (octets_are h.older h.primary h.behind)
    ∙ headed payload h.behind h bytes e (fits_if (length h.behind) (total h.older) fine))

pub are_spelled : AreSpelled
are_spelled payload bytes fine = spelled_so payload (headers payload) bytes refl fine
