-- The first frame with another signature: what its absence says.
use Rattle.std.proofs.Common.{◌≡◌, ℕ, zero, suc, ◌+◌, ◌*◌, ◌/◌, ◌%◌, ◌<◌, ◌≤◌, Bool, true, false, cond, eqb, List, length, slice_index, Option, Some, None, refl, arith}
use Rattle.std.proofs.lemmas.Bool.{eqb-true, eqb-false}
use Rattle.rtp_codec.specs.Grammar.{first_unsigned}
use Rattle.rtp_codec.specs.Packets.{IsPayload}

here : (b : Bool) (rest : Option ℕ) (i : ℕ) → cond b rest (Some i) ≡ None → b ≡ true
here true rest i e = refl
here false rest i e = cc

later : (b : Bool) (rest : Option ℕ) (i : ℕ) → cond b rest (Some i) ≡ None → rest ≡ None
later true rest i e = e
later false rest i e = cc

pub all_signed : (i n : ℕ) (octets : List ℕ) → first_unsigned i n octets ≡ None → (k : ℕ) → i ≤ k → k < i + n → slice_index octets (33 * k) / 16 ≡ 13
all_signed i zero octets none k low high = absurd (omega arith)
all_signed i (suc n) octets none k low high =
    elim (eqb k i) as (λ (b : Bool). eqb k i ≡ b → slice_index octets (33 * k) / 16 ≡ 13) [
      | true ↦ λ same. let e : k ≡ i = eqb-true k i same in
          rw e (eqb-true _ 13 (here (eqb (slice_index octets (33 * i) / 16) 13) (first_unsigned (suc i) n octets) i none))
      | false ↦ λ other. all_signed (suc i) n octets (later (eqb (slice_index octets (33 * i) / 16) 13) (first_unsigned (suc i) n octets) i none) k (omega (arith, eqb-false k i other)) (omega arith)
    ] refl

-- whole frames, few and with no other signature
pub payload_if : (octets : List ℕ) → length octets % 33 ≡ 0 → length octets ≤ 330 → first_unsigned 0 (length octets / 33) octets ≡ None → IsPayload octets
payload_if octets whole few none = record {
  whole = whole;
  few = few;
  signed = λ i below. all_signed 0 (length octets / 33) octets none i (omega arith) (omega arith);
}
