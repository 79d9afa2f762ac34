-- Samples that go through a filter one after another, each with its coefficients.
use Rattle.std.specs.Prelude.{◌≡◌, ℤ, List, [], ◌∷◌, ◌++◌, map}

-- Step relates the coefficients, what the filter kept of the sample before, the sample that goes in, the one that comes out, and what is kept then.
abbrev pub Runs : (List ℤ → List ℤ → ℤ → ℤ → List ℤ → Type 0) → List ℤ → List (List ℤ × ℤ) → List ℤ → List ℤ → Type 0
Runs Step before [] [] after = after ≡ before
Runs Step before (input ∷ inputs) (y ∷ ys) after = (mid : List ℤ) × Step input.0 before input.1 y mid × Runs Step mid inputs ys after
Runs Step before [] (y ∷ ys) after = ⊥
Runs Step before (input ∷ inputs) [] after = ⊥

-- samples that share their coefficients
abbrev pub inputs_of : List ℤ → List ℤ → List (List ℤ × ℤ)
inputs_of coefficients samples = map (λ x. (coefficients, x)) samples

-- After any samples that went through and left the filter so, these inputs gave these samples: of the whole, what is stated holds to this end.
abbrev pub Extends : (List ℤ → List ℤ → ℤ → ℤ → List ℤ → Type 0) → (List ℤ → List (List ℤ × ℤ) → List ℤ → List ℤ → Type 0)
    → List ℤ → List (List ℤ × ℤ) → List ℤ → List ℤ → Type 0
Extends Step Holds kept more given after =
    (start : List ℤ) (inputs : List (List ℤ × ℤ)) (ys : List ℤ) → Runs Step start inputs ys kept → Holds start (inputs ++ more) (ys ++ given) after
