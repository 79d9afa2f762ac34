-- Two histories, one after the other, are one.
use Rattle.std.proofs.Common.{◌≡◌, ℕ, Bool, true, false, cond, eqb, List, [], ◌∷◌, ◌++◌, refl, ap}
use Rattle.playout.specs.declared.call.Call.{Call}
use Rattle.playout.specs.Machine.{Machine, after}
use Rattle.playout.specs.History.{Entry, IsLegal, after_all, calls, calls_of}

pub after_all-append : (m : Machine) (a b : List Entry) → after_all m (a ++ b) ≡ after_all (after_all m a) b
after_all-append m [] b = refl
after_all-append m (e ∷ a) b = after_all-append (after m e.call) a b

pub IsLegal-append : (r : ℕ) (m : Machine) (a b : List Entry) → IsLegal r m a → IsLegal r (after_all m a) b → IsLegal r m (a ++ b)
IsLegal-append r m [] b p q = q
IsLegal-append r m (e ∷ a) b p q = (p.0, IsLegal-append r (after m e.call) a b p.1 q)

pub calls-append : (a b : List Entry) → calls (a ++ b) ≡ calls a ++ calls b
calls-append [] b = refl
calls-append (e ∷ a) b = ap (λ (l : List Call). e.call ∷ l) (calls-append a b)

pub calls_of-append : (who : ℕ) (a b : List Entry) → calls_of who (a ++ b) ≡ calls_of who a ++ calls_of who b
calls_of-append who [] b = refl
calls_of-append who (e ∷ a) b = step (eqb e.who who) e.call (calls_of who (a ++ b)) (calls_of who a) (calls_of who b) (calls_of-append who a b)
  where
    step : (t : Bool) (c : Call) (whole front back : List Call) → whole ≡ front ++ back → cond t (c ∷ whole) whole ≡ cond t (c ∷ front) front ++ back
    step true c whole front back e = ap (λ (l : List Call). c ∷ l) e
    step false c whole front back e = e
