-- Samples and codes of blocks.
use Rattle.std.proofs.Common.{◌≡◌, ℕ, suc, ◌+◌, ◌*◌, List, [], ◌∷◌, length, drop, refl, ap, ◌∙◌, arith}
use Rattle.std.specs.Prelude.{ℤ, pos}
use Rattle.std.specs.Int.{w16, cast_signed}
use Rattle.byteorder.specs.Endian.{IsReadBy, little_number}
use Rattle.g711_leg.specs.Legs.{samples_of}

low_first : (low high : ℕ) → low + 256 * (high + 256 * 0) ≡ low + 256 * high
low_first low high = omega arith

-- samples that were read from these octets are theirs
pub samples_read : (src : List ℕ) (dst : List ℤ) → length src ≡ 2 * length dst → IsReadBy (λ ys. cast_signed w16 (little_number 2 ys)) 2 src dst → dst ≡ samples_of src
samples_read [] [] len read = refl
samples_read (a ∷ src) [] len read = absurd (omega (arith, len))
samples_read [] (x ∷ dst) len read = absurd (omega (arith, len))
samples_read (a ∷ []) (x ∷ dst) len read = absurd (omega (arith, len))
samples_read (a ∷ b ∷ src) (x ∷ dst) len read =
    let first : x ≡ cast_signed w16 (a + 256 * b) = read (pos 0) 0 (omega arith) ∙ ap (cast_signed w16) (low_first a b) in
    let rest : dst ≡ samples_of src = samples_read src dst (omega (arith, len))
    (λ d k h.
    let next : 2 * suc k ≡ suc (suc (2 * k)) = omega arith in
    read d (suc k) (omega (arith, h)) ∙ ap (λ (n : ℕ). cast_signed w16 (little_number 2 (drop n (a ∷ b ∷ src)))) next) in
    ap (λ (z : ℤ). z ∷ dst) first ∙ ap (λ (l : List ℤ). cast_signed w16 (a + 256 * b) ∷ l) rest
