-- Several takes or gives, one after the other, are one.
use Rattle.std.proofs.Common.{◌≡◌, ℕ, zero, suc, ◌+◌, List, [], ◌∷◌, ◌++◌, length, take, Option, Result, Ok, Err, refl, sym, ap, subst}
use Rattle.std.specs.Io.KnownBytes.{Appends}
use Rattle.std.proofs.KnownBytes.{Appends-trans}
use Rattle.std.proofs.Math.Seq.{take-append-add, take-length}
use Rattle.gate_io.specs.Flow.{AppendsPart, Gives}

-- a prefix of what was to be given is a prefix of more
pub AppendsPart-longer : (a b : Option (List ℕ)) (bs cs : List ℕ) → AppendsPart a b bs → AppendsPart a b (bs ++ cs)
AppendsPart-longer a b bs cs p = (length (take p.0 bs), subst (Appends a b) (shorter p.0 bs cs) p.1)
  where
    shorter : (k : ℕ) (bs cs : List ℕ) → take k bs ≡ take (length (take k bs)) (bs ++ cs)
    shorter zero bs cs = refl
    shorter (suc k) [] cs = refl
    shorter (suc k) (x ∷ bs) cs = ap (λ (l : List ℕ). x ∷ l) (shorter k bs cs)

-- a whole piece and then a prefix of the next
pub AppendsPart-after : (a b c : Option (List ℕ)) (bs cs : List ℕ) → Appends a b bs → AppendsPart b c cs → AppendsPart a c (bs ++ cs)
AppendsPart-after a b c bs cs p q = (length bs + q.0, subst (Appends a c) (sym (take-append-add bs cs q.0)) (Appends-trans a b c bs (take q.0 cs) p q.1))

-- a whole piece is a prefix of itself
pub AppendsPart-whole : (a b : Option (List ℕ)) (bs : List ℕ) → Appends a b bs → AppendsPart a b bs
AppendsPart-whole a b bs p = (length bs, subst (Appends a b) (sym (take-length bs)) p)

-- a whole piece, and then one that is given
pub Gives-after : {T E : Type 0} (a b c : Option (List ℕ)) (result : Result T E) (bs cs : List ℕ) → Appends a b bs → Gives b c result cs → Gives a c result (bs ++ cs)
Gives-after a b c (Ok x) bs cs p q = Appends-trans a b c bs cs p q
Gives-after a b c (Err e) bs cs p q = AppendsPart-after a b c bs cs p q
