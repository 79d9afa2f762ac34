-- One datagram more.
use Rattle.std.proofs.Common.{◌≡◌, ℕ, List, [], ◌∷◌, ◌++◌, refl, sym, ap, ◌∙◌, append_assoc, append-nil, subst}
use Rattle.playout.specs.declared.call.Call.{Call}
use Rattle.filer.specs.declared.outcome.Outcome.{Outcome}
use Rattle.filer.specs.Takes.{Known, IsTaken, calls_of}
use Rattle.filer.specs.Runs.{AreTaken}

pub taken-more : (k : Known) (ds : List (List ℕ × ℕ)) (os : List Outcome) (cs : List Call) (m : Known) (d : List ℕ × ℕ) (o : Outcome) (k2 : Known)
    → AreTaken k ds os cs m → IsTaken m d.0 d.1 o k2 → AreTaken k (ds ++ d ∷ []) (os ++ o ∷ []) (cs ++ calls_of m d.0 d.1 o) k2
taken-more k [] [] cs m d o k2 h t =
    let same : calls_of m d.0 d.1 o ≡ calls_of k d.0 d.1 o = ap (λ (q : Known). calls_of q d.0 d.1 o) h.1 in
    let taken = subst (λ (q : Known). IsTaken q d.0 d.1 o k2) h.1 t in
    (k2, [], taken, ap (λ (xs : List Call). xs ++ calls_of m d.0 d.1 o) h.0 ∙ same ∙ sym (append-nil (calls_of k d.0 d.1 o)), (refl, refl))
taken-more k [] (x ∷ os) cs m d o k2 h t = absurd h
taken-more k (e ∷ ds) [] cs m d o k2 h t = absurd h
taken-more k (e ∷ ds) (x ∷ os) cs m d o k2 h t =
    (h.0, h.1 ++ calls_of m d.0 d.1 o, h.2, ap (λ (xs : List Call). xs ++ calls_of m d.0 d.1 o) h.3 ∙ append_assoc (calls_of k e.0 e.1 x) h.1 (calls_of m d.0 d.1 o), taken-more h.0 ds os h.1 m d o k2 h.4 t)
