-- A buffer of which a front was written, and then the rest.
use Rattle.std.proofs.Common.{◌≡◌, ℕ, List, [], ◌++◌, length, take, drop, ap, ◌∙◌, append-nil, arith}
use Rattle.std.proofs.lemmas.List.{take_at, drop_at, drop_all}
use borrow.Rule.Slice.PartMut.{put_mid}

-- the rest of the buffer, k places behind n, is what was written there
pub put_behind : (n k : ℕ) (first rest new : List ℕ) → length first ≡ n → length rest ≡ k → put_mid n k (first ++ rest) new ≡ first ++ new
put_behind n k first rest new len more =
    let a : take n (first ++ rest) ≡ first = take_at first rest n len in
    let b : drop k (drop n (first ++ rest)) ≡ [] = ap (λ (l : List ℕ). drop k l) (drop_at first rest n len) ∙ drop_all k rest (omega arith) in
    ap (λ (l : List ℕ). l ++ (new ++ drop k (drop n (first ++ rest)))) a ∙ ap (λ (l : List ℕ). first ++ (new ++ l)) b ∙ ap (λ (l : List ℕ). first ++ l) (append-nil new)
