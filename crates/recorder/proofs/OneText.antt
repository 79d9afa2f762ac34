-- Octets that spell events, an end mark and anything have no fault among them, whatever the kind of file.
use Rattle.std.proofs.Common.{◌≡◌, ℕ, ◌+◌, ◌<◌, ◌≤◌, List, [], ◌∷◌, ◌++◌, length, Option, Some, None, sym, ap, subst, ◌∙◌, append_assoc, length-append, arith}
use Rattle.std.specs.List.{flat_map}
use Rattle.recorder.specs.declared.fault.RecordFault.{RecordFault}
use Rattle.recorder.specs.Files.{end_mark, event_limit}

pub none_some : {T : Type 0} (x : T) (o : Option T) → o ≡ None → o ≡ Some x → ⊥
none_some x o p q = let h : None ≡ Some x = sym p ∙ q in absurd cc

pub some_same : {T : Type 0} (x y : T) (o : Option T) → o ≡ Some x → o ≡ Some y → x ≡ y
some_same x y o p q = let h : Some x ≡ Some y = sym p ∙ q in cc

-- an event fits what came before it, and makes what comes behind it fit
abbrev pub AllFit : {E S : Type 0} → (S → E → Type 0) → (S → E → S) → S → List E → Type 0
AllFit {E} {S} Fits next s [] = Unit {0}
AllFit {E} {S} Fits next s (e ∷ es) = Fits s e × AllFit Fits next (next s e) es

abbrev pub behind : {E S : Type 0} → (S → E → S) → S → List E → S
behind {E} {S} next s [] = s
behind {E} {S} next s (e ∷ es) = behind next (next s e) es

module _ (E S : Type 0) (text : E → List ℕ) (Fits : S → E → Type 0) (next : S → E → S) (fault : S → ℕ → ℕ → List ℕ → Option RecordFault) (front_of : List ℕ → Option (E × List ℕ))
    (clear : (s : S) (k at : ℕ) (e : E) (rest : List ℕ) → Fits s e → k < event_limit → fault s k at (text e ++ rest) ≡ None)
    (clear_mark : (s : S) (k at : ℕ) (more : List ℕ) → fault s k at (end_mark ∷ more) ≡ None)
    (front_is : (s : S) (e : E) (x : List ℕ) → Fits s e → front_of (text e ++ x) ≡ Some (e, x))
    (front_mark : (more : List ℕ) → front_of (end_mark ∷ more) ≡ None) where
  parts : (p q : E × List ℕ) → Some p ≡ Some q → (p.0 ≡ q.0) × (p.1 ≡ q.1)
  parts p q same = let is : p ≡ q = cc in (ap (λ (r : E × List ℕ). r.0) is, ap (λ (r : E × List ℕ). r.1) is)

  events_same : (s : S) (e d : E) (x y : List ℕ) → Fits s e → Fits s d → text e ++ x ≡ text d ++ y → (e ≡ d) × (x ≡ y)
  events_same s e d x y fits fits' same = parts (e, x) (d, y) (sym (front_is s e x fits) ∙ ap front_of same ∙ front_is s d y fits')

  no_mark : (s : S) (e : E) (x more : List ℕ) → Fits s e → text e ++ x ≡ end_mark ∷ more → ⊥
  no_mark s e x more fits same = none_some (e, x) (front_of (end_mark ∷ more)) (front_mark more) (ap front_of (sym same) ∙ front_is s e x fits)

  pub no_fault : (s : S) (k at : ℕ) (before events : List E) (rest more : List ℕ) (f : RecordFault) → AllFit Fits next s before → AllFit Fits next s events → k + length events ≤ event_limit
      → flat_map text before ++ rest ≡ flat_map text events ++ end_mark ∷ more → fault (behind next s before) (k + length before) at rest ≡ Some f → ⊥
  no_fault s k at [] [] rest more f fits fits' few same is = none_some f (fault s (k + 0) at rest) (ap (fault s (k + 0) at) same ∙ clear_mark s (k + 0) at more) is
  no_fault s k at [] (e ∷ es) rest more f fits fits' few same is =
      let whole : rest ≡ text e ++ (flat_map text es ++ end_mark ∷ more) = same ∙ append_assoc (text e) (flat_map text es) (end_mark ∷ more) in
      none_some f (fault s (k + 0) at rest) (ap (fault s (k + 0) at) whole ∙ clear s (k + 0) at e (flat_map text es ++ end_mark ∷ more) fits'.0 (omega arith)) is
  no_fault s k at (e ∷ es) [] rest more f fits fits' few same is = no_mark s e (flat_map text es ++ rest) more fits.0 (sym (append_assoc (text e) (flat_map text es) rest) ∙ same)
  no_fault s k at (e ∷ es) (d ∷ ds) rest more f fits fits' few same is =
      let regrouped : text e ++ (flat_map text es ++ rest) ≡ text d ++ (flat_map text ds ++ end_mark ∷ more) =
      sym (append_assoc (text e) (flat_map text es) rest) ∙ same ∙ append_assoc (text d) (flat_map text ds) (end_mark ∷ more) in
      let both = events_same s e d (flat_map text es ++ rest) (flat_map text ds ++ end_mark ∷ more) fits.0 fits'.0 regrouped in
      let others : AllFit Fits next (next s e) ds = subst (λ (x : E). AllFit Fits next (next s x) ds) (sym both.0) fits'.1 in
      no_fault (next s e) (k + 1) at es ds rest more f fits.1 others (omega arith) both.1 (subst (λ (n : ℕ). fault (behind next (next s e) es) n at rest ≡ Some f) (omega arith) is)

  -- two ways to split the octets into events and what has a fault are one
  pub one_fault : (s : S) (k start at at' : ℕ) (before events : List E) (rest rest' : List ℕ) (f g : RecordFault) → AllFit Fits next s before → AllFit Fits next s events
      → k + length before ≤ event_limit → k + length events ≤ event_limit → at ≡ start + length (flat_map text before) → at' ≡ start + length (flat_map text events)
      → flat_map text before ++ rest ≡ flat_map text events ++ rest' → fault (behind next s before) (k + length before) at rest ≡ Some f
      → fault (behind next s events) (k + length events) at' rest' ≡ Some g → f ≡ g
  one_fault s k start at at' [] [] rest rest' f g fits fits' few few' place place' same is is' =
      some_same f g (fault s (k + 0) at rest) is (ap (λ (n : ℕ). fault s (k + 0) n rest) (place ∙ sym place') ∙ ap (fault s (k + 0) at') same ∙ is')
  one_fault s k start at at' [] (e ∷ es) rest rest' f g fits fits' few few' place place' same is is' =
      let whole : rest ≡ text e ++ (flat_map text es ++ rest') = same ∙ append_assoc (text e) (flat_map text es) rest' in
      absurd (none_some f (fault s (k + 0) at rest) (ap (fault s (k + 0) at) whole ∙ clear s (k + 0) at e (flat_map text es ++ rest') fits'.0 (omega arith)) is)
  one_fault s k start at at' (e ∷ es) [] rest rest' f g fits fits' few few' place place' same is is' =
      let whole : rest' ≡ text e ++ (flat_map text es ++ rest) = sym same ∙ append_assoc (text e) (flat_map text es) rest in
      absurd (none_some g (fault s (k + 0) at' rest') (ap (fault s (k + 0) at') whole ∙ clear s (k + 0) at' e (flat_map text es ++ rest) fits.0 (omega arith)) is')
  one_fault s k start at at' (e ∷ es) (d ∷ ds) rest rest' f g fits fits' few few' place place' same is is' =
      let regrouped : text e ++ (flat_map text es ++ rest) ≡ text d ++ (flat_map text ds ++ rest') =
      sym (append_assoc (text e) (flat_map text es) rest) ∙ same ∙ append_assoc (text d) (flat_map text ds) rest' in
      let both = events_same s e d (flat_map text es ++ rest) (flat_map text ds ++ rest') fits.0 fits'.0 regrouped in
      let others : AllFit Fits next (next s e) ds = subst (λ (x : E). AllFit Fits next (next s x) ds) (sym both.0) fits'.1 in
      let there : fault (behind next (next s e) ds) (k + length (d ∷ ds)) at' rest' ≡ Some g =
      subst (λ (x : E). fault (behind next (next s x) ds) (k + length (d ∷ ds)) at' rest' ≡ Some g) (sym both.0) is' in
      let size : length (text d) ≡ length (text e) = ap (λ (x : E). length (text x)) (sym both.0) in
      one_fault (next s e) (k + 1) (start + length (text e)) at at' es ds rest rest' f g fits.1 others (omega arith) (omega arith)
      (omega (arith, place, length-append (text e) (flat_map text es))) (omega (arith, place', size, length-append (text d) (flat_map text ds))) both.1
      (subst (λ (n : ℕ). fault (behind next (next s e) es) n at rest ≡ Some f) (omega arith) is)
      (subst (λ (n : ℕ). fault (behind next (next s e) ds) n at' rest' ≡ Some g) (omega arith) there)
