-- The same over a list of datagrams, each with the moment at which it came.
use Rattle.std.specs.Prelude.{◌≡◌, ℕ, List, [], ◌∷◌, ◌++◌}
use Rattle.playout.specs.declared.call.Call.{Call}
use Rattle.playout.specs.History.{Chained}
use Rattle.filer.specs.declared.outcome.Outcome.{Outcome}
use Rattle.filer.specs.Takes.{Known, IsTaken, calls_of}

-- the datagrams were taken one after the other with these outcomes and these calls
abbrev pub AreTaken : Known → List (List ℕ × ℕ) → List Outcome → List Call → Known → Type 0
AreTaken k [] [] calls after = (calls ≡ []) × (after ≡ k)
AreTaken k [] (o ∷ os) calls after = ⊥
AreTaken k (d ∷ ds) [] calls after = ⊥
AreTaken k (d ∷ ds) (o ∷ os) calls after =
    (mid : Known) × (rest : List Call) × IsTaken k d.0 d.1 o mid × (calls ≡ calls_of k d.0 d.1 o ++ rest) × AreTaken mid ds os rest after

-- After any datagrams that a filer took over its side it has taken this one too, and its calls follow theirs.
abbrev pub TakesOn : {S : Type 0} → (S → Call → S → Type 0) → Known → Known → S → S → List ℕ → ℕ → Outcome → Type 0
TakesOn {S} did old new side side_now octets at o =
    (k : Known) (first : S) (ds : List (List ℕ × ℕ)) (os : List Outcome) (cs : List Call) → AreTaken k ds os cs old → Chained did first cs side
    → AreTaken k (ds ++ (octets, at) ∷ []) (os ++ o ∷ []) (cs ++ calls_of old octets at o) new × Chained did first (cs ++ calls_of old octets at o) side_now
