-- The first frame with another signature, found one by one.
use Rattle.std.proofs.Common.{◌≡◌, ℕ, suc, ◌+◌, ◌-◌, ◌*◌, ◌/◌, ◌<◌, cond, eqb, List, slice_index, Some, sym, ap, ◌∙◌, arith}
use Rattle.rtp_codec.specs.Grammar.{first_unsigned}

one_more : (i n : ℕ) (octets : List ℕ) → slice_index octets (33 * i) / 16 ≡ 13 → first_unsigned i (suc n) octets ≡ first_unsigned (suc i) n octets
one_more i n octets signed = ap (λ (b : ℕ). cond (eqb b 13) (first_unsigned (suc i) n octets) (Some i)) signed

pub first_more : (i n : ℕ) (octets : List ℕ) → i < n → slice_index octets (33 * i) / 16 ≡ 13 → first_unsigned i (n - i) octets ≡ first_unsigned (i + 1) (n - (i + 1)) octets
first_more i n octets below signed =
    let e : n - i ≡ suc (n - (i + 1)) = omega arith in
    let s : i + 1 ≡ suc i = omega arith in
    rw e (one_more i (n - (i + 1)) octets signed ∙ ap (λ (k : ℕ). first_unsigned k (n - (i + 1)) octets) (sym s))
