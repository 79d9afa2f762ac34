-- Runs of calls on a side.
use Rattle.std.proofs.Common.{List, [], ◌∷◌, ◌++◌, refl, subst, sym}
use Rattle.playout.specs.declared.call.Call.{Call}
use Rattle.playout.specs.History.{Chained}

pub chained-append : {S : Type 0} (did : S → Call → S → Type 0) (a b c : S) (xs ys : List Call) → Chained did a xs b → Chained did b ys c → Chained did a (xs ++ ys) c
chained-append {S} did a b c [] ys p q = subst (λ (s : S). Chained did s ys c) (sym p) q
chained-append {S} did a b c (x ∷ xs) ys p q = (p.0, p.1, chained-append did p.0 b c xs ys p.2 q)

pub chained-one : {S : Type 0} (did : S → Call → S → Type 0) (a b : S) (x : Call) → did a x b → Chained did a (x ∷ []) b
chained-one did a b x p = (b, p, refl)
