-- What a piece that was filled from a source tells of what the source had.
use Rattle.std.proofs.Common.{◌≡◌, ℕ, zero, suc, ◌≤◌, ◌<◌, List, [], ◌∷◌, ◌++◌, length, take, Option, Some, None, refl, sym, ap, subst, ◌∙◌, append-nil, arith, inl, inr}
use Rattle.std.specs.Prelude.{IfSome}
use Rattle.std.specs.Io.KnownBytes.{Consumes, IsAtEnd}
use Rattle.std.proofs.Math.Seq.{take-append_seam}
use Rattle.std.proofs.lemmas.Bool.{cases_lt}
use Rattle.std.proofs.lemmas.List.{length-take-le}

take-short : (m : ℕ) (xs : List ℕ) → length xs ≤ m → take m xs ≡ xs
take-short zero [] le = refl
take-short (suc m) [] le = refl
take-short zero (x ∷ xs) le = absurd (omega arith)
take-short (suc m) (x ∷ xs) le = ap (λ (l : List ℕ). x ∷ l) (take-short m xs (omega arith))

-- the first octets of the source, as many as the piece has, are those that came
front_is : (n m : ℕ) (octets rest piece : List ℕ) → n ≤ m → length piece ≡ m → octets ≡ take n piece ++ rest → (n < m → rest ≡ []) → take m octets ≡ take n piece
front_is n m octets rest piece le len whole end =
    let there : length (take n piece) ≡ n = length-take-le n piece (omega arith) in
    elim (cases_lt n m) [
      | inl short ↦
          let all : octets ≡ take n piece = whole ∙ ap (λ (l : List ℕ). take n piece ++ l) (end short) ∙ append-nil (take n piece) in
          ap (take m) all ∙ take-short m (take n piece) (omega arith)
      | inr full ↦
          let same : n ≡ m = omega arith in
          ap (take m) whole ∙ subst (λ (k : ℕ). take k (take n piece ++ rest) ≡ take n piece) (there ∙ same) (take-append_seam (take n piece) rest)
    ]

-- what holds of the octets that came holds of the first octets of the source, as many as the piece has
pub told : (old new : Option (List ℕ)) (n m : ℕ) (piece : List ℕ) (P : List ℕ → Type 0) → n ≤ m → length piece ≡ m → Consumes old new (take n piece) → (n < m → IsAtEnd new)
    → P (take n piece) → IfSome old (λ octets. P (take m octets))
told None new n m piece P le len took end p = tt
told (Some octets) None n m piece P le len took end p = absurd took
told (Some octets) (Some rest) n m piece P le len took end p = subst P (sym (front_is n m octets rest piece le len took end)) p
