-- A packet that was written, read again.
use Rattle.std.proofs.Common.{◌≡◌, ℕ, zero, suc, ◌+◌, ◌-◌, ◌*◌, ◌/◌, ◌%◌, ◌<◌, ◌≤◌, Bool, true, false, cond, eqb, ltb, leb, List, ◌++◌, length, drop, slice_index, Some, None, option_map, Option, not, if◌then◌else◌, refl, ap, ◌∙◌, arith}
use Rattle.std.specs.Option.{option_or}
use Rattle.std.proofs.lemmas.Bool.Decides.{nat_tests}
use Rattle.std.proofs.lemmas.List.{take_all, take_at}
use Rattle.std.proofs.lemmas.Slice.{drop-append-drop}
use borrow.Rule.Slice.PartMut.{put_mid, Post-is}
use Rattle.byteorder.specs.Endian.{big_bytes}
use Rattle.byteorder.specs.Numbers.{big_number-reads_back}
use Rattle.rtp_codec.specs.declared.head.RtpHead.{RtpHead}
use Rattle.rtp_codec.specs.declared.fault.RtpFault.{RtpFault}
use Rattle.rtp_codec.specs.declared.fault.RtpFault.TheVariants.{Signature}
use Rattle.rtp_codec.specs.Grammar.{version, sources_end, lacks_extension, has_bad_padding, first_unsigned, payload, payload_type, open_fault, payload_fault}
use Rattle.rtp_codec.specs.Packets.{IsPayload, IsFullRate, IsReadBack, head_octets, head_of, Packet}

skip : {A : Type 0} (b : Bool) (x y : A) → b ≡ false → cond b x y ≡ y
skip b x y e = ap (λ (t : Bool). cond t x y) e

-- no frame has another signature
all_none : (i n : ℕ) (octets : List ℕ) → ((k : ℕ) → i ≤ k → k < i + n → slice_index octets (33 * k) / 16 ≡ 13) → first_unsigned i n octets ≡ None
all_none i zero octets signed = refl
all_none i (suc n) octets signed =
    ap (λ (x : ℕ). cond (eqb x 13) (first_unsigned (suc i) n octets) (Some i)) (signed i (omega arith) (omega arith))
    ∙ all_none (suc i) n octets (λ k low high. signed k (omega arith) (omega arith))

le_false : (a b : ℕ) → b < a → leb a b ≡ false
le_false a b h = grind (arith, nat_tests)

lt_false : (a b : ℕ) → b ≤ a → ltb a b ≡ false
lt_false a b h = grind (arith, nat_tests)

eq_true : (a b : ℕ) → a ≡ b → eqb a b ≡ true
eq_true a b e = grind (arith, nat_tests)

-- none of the header's cases holds
opens : (d : List ℕ) → length d < 2048 → 12 ≤ length d → version d ≡ 2 → sources_end d ≤ length d → lacks_extension d ≡ false → has_bad_padding d ≡ false → open_fault d ≡ None
opens d small some two sources extension padding =
    skip _ _ _ (le_false 2048 (length d) small)
    ∙ (skip _ _ _ (lt_false (length d) 12 some)
    ∙ (skip _ _ _ (ap not (eq_true (version d) 2 two))
    ∙ (skip _ _ _ (lt_false (length d) (sources_end d) sources)
    ∙ (skip _ _ _ extension
    ∙ skip _ _ _ padding))))

-- none of the payload's cases holds
carries : (d p : List ℕ) → payload_type d ≡ 3 → payload d ≡ p → IsPayload p → payload_fault d ≡ None
carries d p full whole is =
    let size : length (payload d) ≡ length p = ap length whole in
    let none : first_unsigned 0 (length p / 33) p ≡ None = all_none 0 (length p / 33) p (λ k low high. is.signed k (omega arith)) in
    skip _ _ _ (ap not (eq_true (payload_type d) 3 full))
    ∙ (skip _ _ _ (ap not (eq_true (length (payload d) % 33) 0 (ap (λ (n : ℕ). n % 33) size ∙ is.whole)))
    ∙ (skip _ _ _ (lt_false 330 (length (payload d)) (rw size is.few))
    ∙ (ap (λ (q : List ℕ). option_map Signature (first_unsigned 0 (length q / 33) q)) whole ∙ ap (option_map Signature) none)))

neither : (a b : Option RtpFault) → a ≡ None → b ≡ None → option_or a b ≡ None
neither a b first second = ap (λ (x : Option RtpFault). option_or x b) first ∙ second

payload_is : (h : RtpHead) (octets : List ℕ) → payload (head_octets h ++ octets) ≡ octets
payload_is h octets = take_all (length (head_octets h ++ octets) - 0 - 12) octets (omega arith)

type_is : (marker : Bool) (t : ℕ) → t < 128 → ((if marker then 128 else 0) + t) % 128 ≡ t
type_is true t h = omega arith
type_is false t h = omega arith

marker_is : (marker : Bool) (t : ℕ) → t < 128 → eqb (((if marker then 128 else 0) + t) / 128) 1 ≡ marker
marker_is true t h = eq_true _ 1 (omega arith)
marker_is false t h = ap (λ (x : ℕ). eqb x 1) (zeroth t h)
  where
    zeroth : (t : ℕ) → t < 128 → (0 + t) / 128 ≡ 0
    zeroth t h = omega arith

same_head : (m m2 : Bool) (t t2 s s2 e e2 x x2 : ℕ) → m ≡ m2 → t ≡ t2 → s ≡ s2 → e ≡ e2 → x ≡ x2
    → ◌≡◌ {A = RtpHead} (record { marker = m; payload_type = t; sequence = s; timestamp = e; ssrc = x }) (record { marker = m2; payload_type = t2; sequence = s2; timestamp = e2; ssrc = x2 })
same_head m m2 t t2 s s2 e e2 x x2 a b c d f = cc

head_is : (h : RtpHead) (octets : List ℕ) → IsFullRate h → head_of (head_octets h ++ octets) ≡ h
head_is h octets full =
    same_head _ _ _ _ _ _ _ _ _ _
    (marker_is h.marker h.payload_type (omega arith))
    (type_is h.marker h.payload_type (omega arith))
    (big_number-reads_back 2 h.sequence (big_bytes 4 h.timestamp ++ (big_bytes 4 h.ssrc ++ octets)) (omega arith))
    (big_number-reads_back 4 h.timestamp (big_bytes 4 h.ssrc ++ octets) (omega arith))
    (big_number-reads_back 4 h.ssrc octets (omega arith))

same_packet : (h h2 : RtpHead) (octets octets2 : List ℕ) → h ≡ h2 → octets ≡ octets2
    → ◌≡◌ {A = Packet} (record { head = h; payload = octets }) (record { head = h2; payload = octets2 })
same_packet h h2 octets octets2 a b = cc

pub written_is_read : IsReadBack
written_is_read h octets full is = (
  neither _ _
      (opens (head_octets h ++ octets) (omega (arith, is.few)) (omega arith) refl (omega arith) refl refl)
      (carries (head_octets h ++ octets) octets (type_is h.marker h.payload_type (omega arith) ∙ full.payload_type) (payload_is h octets) is),
  same_packet _ _ _ _ (head_is h octets full) (payload_is h octets),
)

-- two parts that are copied, one after the other
pub put_after : (a n : ℕ) (into front first body last : List ℕ) → length front ≡ a → n ≡ a + length body → first ≡ front → last ≡ body
    → put_mid a (n - a) (first ++ drop a into) last ≡ front ++ (body ++ drop n into)
put_after a n into front first body last size end e f =
    let le : a ≤ n = omega arith in
    rw (e, f) (rw (Post-is a n (front ++ drop a into) le, take_at front (drop a into) a size, drop-append-drop a into front n le size) refl)
