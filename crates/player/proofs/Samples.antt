-- Samples and their octets.
use Rattle.std.proofs.Common.{◌≡◌, ℕ, suc, ◌+◌, ◌*◌, ◌/◌, ◌%◌, ◌^◌, ◌<◌, List, [], ◌∷◌, ◌++◌, length, drop, slice_index, refl, ap, ◌∙◌, arith}
use Rattle.std.specs.Prelude.{ℤ, pos}
use Rattle.std.specs.Int.{w16, cast_signed, cast_unsigned}
use Rattle.std.proofs.lemmas.Int.{of_z-to_z}
use Rattle.byteorder.specs.Endian.{IsReadBy, little_bytes, little_number}
use Rattle.substitution.specs.Heard.{sample_octets}

-- the two octets of a word that was read from two octets
two : (a b : ℕ) → a < 256 → b < 256 → little_bytes 2 (cast_unsigned w16 (cast_signed w16 (a + 256 * (b + 256 * 0)))) ≡ a ∷ b ∷ []
two a b p q =
    let n : ℕ = a + 256 * (b + 256 * 0) in
    let small : n < 2 ^ 16 = omega arith in
    let low : n % 256 ≡ a = omega arith in
    let high : n / 256 % 256 ≡ b = omega arith in
    ap (little_bytes 2) (of_z-to_z w16 n small) ∙ (λ i. low i ∷ high i ∷ [])

pub octets_again : (src : List ℕ) (dst : List ℤ) → length src ≡ 2 * length dst → ((i : ℕ) → slice_index src i < 256) → IsReadBy (λ ys. cast_signed w16 (little_number 2 ys)) 2 src dst → sample_octets dst ≡ src
octets_again [] [] len small read = refl
octets_again (a ∷ src) [] len small read = absurd (omega (arith, len))
octets_again [] (x ∷ dst) len small read = absurd (omega (arith, len))
octets_again (a ∷ []) (x ∷ dst) len small read = absurd (omega (arith, len))
octets_again (a ∷ b ∷ src) (x ∷ dst) len small read =
    let first : x ≡ cast_signed w16 (a + 256 * (b + 256 * 0)) = read (pos 0) 0 (omega arith) in
    let rest : sample_octets dst ≡ src = octets_again src dst (omega (arith, len)) (λ i. small (suc (suc i)))
    (λ d k h.
    let next : 2 * suc k ≡ suc (suc (2 * k)) = omega arith in
    read d (suc k) (omega (arith, h)) ∙ ap (λ (n : ℕ). cast_signed w16 (little_number 2 (drop n (a ∷ b ∷ src)))) next) in
    ap (λ (z : ℤ). little_bytes 2 (cast_unsigned w16 z) ++ sample_octets dst) first ∙ ap (λ (l : List ℕ). l ++ sample_octets dst) (two a b (small 0) (small 1)) ∙ ap (λ (l : List ℕ). a ∷ b ∷ l) rest
