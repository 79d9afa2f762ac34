-- A piece that is filled part by part.
use Rattle.std.proofs.Common.{◌≡◌, ℕ, ◌+◌, ◌≤◌, List, ◌++◌, length, take, ap, subst, ◌∙◌}
use Rattle.std.proofs.Math.Seq.{take-append-add}
use Rattle.std.proofs.lemmas.List.{take-append-le, length-take-le}

-- the first i + n places of a piece whose part from i on was written
pub take-filled : (i n : ℕ) (xs ys zs : List ℕ) → i ≤ length xs → n ≤ length ys → take (i + n) (take i xs ++ (ys ++ zs)) ≡ take i xs ++ take n ys
take-filled i n xs ys zs le fits =
    let len : length (take i xs) ≡ i = length-take-le i xs le in
    let e : take (length (take i xs) + n) (take i xs ++ (ys ++ zs)) ≡ take i xs ++ take n (ys ++ zs) = take-append-add (take i xs) (ys ++ zs) n in
    let front : take n (ys ++ zs) ≡ take n ys = take-append-le n ys zs fits in
    subst (λ (m : ℕ). take (m + n) (take i xs ++ (ys ++ zs)) ≡ take i xs ++ take n (ys ++ zs)) len e ∙ ap (λ (l : List ℕ). take i xs ++ l) front
