-- The octets and the fields of a frame determine each other.
use Rattle.std.proofs.Common.{◌≡◌, ℕ, ◌/◌, ◌%◌, ◌^◌, ◌<◌, ◌≤◌, List, [], ◌∷◌, ◌++◌, length, refl, sym, ◌∙◌, ap, arith, length-append, append_assoc}
use Rattle.std.specs.Prelude.{sum, flat_map, slice_index}
use Rattle.std.specs.List.{AllByRecursion}
use Rattle.std.proofs.lemmas.List.Elements.{recursion_from_All, All-from_get_or}
use Rattle.std.proofs.lemmas.Grind.{common_steps}
use Rattle.frame_codec.specs.Bits.{digits, bits_of}
use Rattle.frame_codec.specs.Octets.{IsFrame}
use Rattle.frame_codec.specs.Frame.{Fields, spelled, FitAll, lar_widths, sub_widths, sub_codes, sub_bits, frame_bits, SubFits, IsWithinWidths}
use Rattle.frame_codec.specs.declared.params.SubParams.{SubParams}
use Rattle.frame_codec.proofs.Digits.{length-digits, digits_split, same_from_digits}

pub append_apart : (a b c d : List ℕ) → length a ≡ length c → a ++ b ≡ c ++ d → (a ≡ c) × (b ≡ d)
append_apart [] b [] d same e = (refl, e)
append_apart [] b (y ∷ c) d same e = absurd (omega arith)
append_apart (x ∷ a) b [] d same e = absurd (omega arith)
append_apart (x ∷ a) b (y ∷ c) d same e =
    let head : x ≡ y = cc in
    let tail : a ++ b ≡ c ++ d = cc in
    let rest = append_apart a b c d (omega arith) tail in
    (rw (head, rest.0) refl, rest.1)

digits_apart : (w m n : ℕ) (b d : List ℕ) → digits w m ++ b ≡ digits w n ++ d → (digits w m ≡ digits w n) × (b ≡ d)
digits_apart w m n b d e = append_apart (digits w m) b (digits w n) d (length-digits w m ∙ sym (length-digits w n)) e

-- octets with the same bits are the same
pub same_octets : (xs ys : List ℕ) → length xs ≡ length ys → AllByRecursion (λ x. x < 2 ^ 8) xs → AllByRecursion (λ y. y < 2 ^ 8) ys → bits_of xs ≡ bits_of ys → xs ≡ ys
same_octets [] [] same small_x small_y e = refl
same_octets [] (y ∷ ys) same small_x small_y e = absurd (omega arith)
same_octets (x ∷ xs) [] same small_x small_y e = absurd (omega arith)
same_octets (x ∷ xs) (y ∷ ys) same small_x small_y e =
    let apart = digits_apart 8 x y (bits_of xs) (bits_of ys) e in
    rw (same_from_digits 8 x y small_x.0 small_y.0 apart.0, same_octets xs ys (omega arith) small_x.1 small_y.1 apart.1) refl

pub length-spelled : (ws ns : List ℕ) → FitAll ws ns → length (spelled ws ns) ≡ sum ws
length-spelled [] [] fit = refl
length-spelled [] (n ∷ ns) fit = absurd fit
length-spelled (w ∷ ws) [] fit = absurd fit
length-spelled (w ∷ ws) (n ∷ ns) fit = grind (arith, common_steps, length-append (digits w n) (spelled ws ns), length-digits w n, length-spelled ws ns fit.1)

pub same_from_spelled : (ws ms ns : List ℕ) → FitAll ws ms → FitAll ws ns → spelled ws ms ≡ spelled ws ns → ms ≡ ns
same_from_spelled [] [] [] fit_m fit_n e = refl
same_from_spelled [] (m ∷ ms) ns fit_m fit_n e = absurd fit_m
same_from_spelled [] [] (n ∷ ns) fit_m fit_n e = absurd fit_n
same_from_spelled (w ∷ ws) [] ns fit_m fit_n e = absurd fit_m
same_from_spelled (w ∷ ws) (m ∷ ms) [] fit_m fit_n e = absurd fit_n
same_from_spelled (w ∷ ws) (m ∷ ms) (n ∷ ns) fit_m fit_n e =
    let apart = digits_apart w m n (spelled ws ms) (spelled ws ns) e in
    rw (same_from_digits w m n fit_m.0 fit_n.0 apart.0, same_from_spelled ws ms ns fit_m.1 fit_n.1 apart.1) refl

spelled_apart : (ws ms ns b d : List ℕ) → FitAll ws ms → FitAll ws ns → spelled ws ms ++ b ≡ spelled ws ns ++ d → (ms ≡ ns) × (b ≡ d)
spelled_apart ws ms ns b d fit_m fit_n e =
    let apart = append_apart (spelled ws ms) b (spelled ws ns) d (length-spelled ws ms fit_m ∙ sym (length-spelled ws ns fit_n)) e in
    (same_from_spelled ws ms ns fit_m fit_n apart.0, apart.1)

-- the sub-frame that has these codes
sub_of : List ℕ → SubParams → SubParams
sub_of (a ∷ b ∷ c ∷ d ∷ xs) other = record { nc = a; bc = b; mc = c; xmaxc = d; xmc = xs }
sub_of ns other = other

same_from_codes : (s t : SubParams) → sub_codes s ≡ sub_codes t → s ≡ t
unfolding sub_of
same_from_codes s t e = ap (λ (ns : List ℕ). sub_of ns s) e

pub same_subs : (ss ts : List SubParams) → length ss ≡ length ts → AllByRecursion SubFits ss → AllByRecursion SubFits ts → flat_map sub_bits ss ≡ flat_map sub_bits ts → ss ≡ ts
same_subs [] [] same fit_s fit_t e = refl
same_subs [] (t ∷ ts) same fit_s fit_t e = absurd (omega arith)
same_subs (s ∷ ss) [] same fit_s fit_t e = absurd (omega arith)
same_subs (s ∷ ss) (t ∷ ts) same fit_s fit_t e =
    let apart = spelled_apart sub_widths (sub_codes s) (sub_codes t) (flat_map sub_bits ss) (flat_map sub_bits ts) fit_s.0 fit_t.0 e in
    rw (same_from_codes s t apart.0, same_subs ss ts (omega arith) fit_s.1 fit_t.1 apart.1) refl

-- fields with the same spelling are the same
pub same_fields : (p q : Fields) → IsWithinWidths p → IsWithinWidths q → frame_bits p ≡ frame_bits q → p ≡ q
same_fields p q fit_p fit_q e =
    let signature = digits_apart 4 13 13 (spelled lar_widths p.larc ++ flat_map sub_bits p.sub) (spelled lar_widths q.larc ++ flat_map sub_bits q.sub) e in
    let lars = spelled_apart lar_widths p.larc q.larc (flat_map sub_bits p.sub) (flat_map sub_bits q.sub) fit_p.larc fit_q.larc signature.1 in
    let subs = same_subs p.sub q.sub (fit_p.count ∙ sym fit_q.count) (recursion_from_All SubFits p.sub fit_p.sub) (recursion_from_All SubFits q.sub fit_q.sub) lars.1 in
    ap (λ (larc : List ℕ). let f : Fields = record { larc = larc; sub = p.sub } in f) lars.0
    ∙ ap (λ (sub : List SubParams). let f : Fields = record { larc = q.larc; sub = sub } in f) subs

-- the first four bits are those of the first octet
first_nibble : (octets : List ℕ) → 1 ≤ length octets → (rest : List ℕ) × (bits_of octets ≡ digits 4 (slice_index octets 0 / 16) ++ rest)
first_nibble [] some = absurd (omega arith)
first_nibble (x ∷ xs) some =
    (digits 4 (x % 16) ++ bits_of xs, ap (λ (ds : List ℕ). ds ++ bits_of xs) (digits_split 4 4 x) ∙ append_assoc (digits 4 (x / 16)) (digits 4 (x % 16)) (bits_of xs))

pub signature_read : (octets rest : List ℕ) (s : ℕ) → IsFrame octets → bits_of octets ≡ digits 4 s ++ rest → digits 4 s ≡ digits 4 13
signature_read octets rest s frame read =
    let first = first_nibble octets (omega (arith, frame.size)) in
    (digits_apart 4 s (slice_index octets 0 / 16) rest first.0 (sym read ∙ first.1)).0 ∙ ap (digits 4) frame.signature

pub signature_written : (octets rest : List ℕ) → 1 ≤ length octets → slice_index octets 0 < 2 ^ 8 → bits_of octets ≡ digits 4 13 ++ rest → slice_index octets 0 / 16 ≡ 13
signature_written octets rest some small written =
    let first = first_nibble octets some in
    same_from_digits 4 (slice_index octets 0 / 16) 13 (omega arith) (omega arith) (digits_apart 4 (slice_index octets 0 / 16) 13 first.0 rest (sym first.1 ∙ written)).0

pub empty_from_length : (xs : List ℕ) → length xs ≡ 0 → xs ≡ []
empty_from_length [] none = refl
empty_from_length (x ∷ xs) none = absurd (omega arith)

-- octets that spell the same fields are the same
pub same_frames : (xs ys : List ℕ) → IsFrame xs → IsFrame ys → bits_of xs ≡ bits_of ys → xs ≡ ys
same_frames xs ys frame_x frame_y e =
    same_octets xs ys (frame_x.size ∙ sym frame_y.size)
    (recursion_from_All (λ x. x < 2 ^ 8) xs (All-from_get_or (λ x. x < 2 ^ 8) xs 0 (λ i h. frame_x.each i)))
    (recursion_from_All (λ y. y < 2 ^ 8) ys (All-from_get_or (λ y. y < 2 ^ 8) ys 0 (λ i h. frame_y.each i)))
    e
