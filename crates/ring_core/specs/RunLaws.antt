-- Laws of the ring after several events.
use Rattle.std.proofs.Common.{◌≡◌, ℕ, zero, suc, ◌+◌, ◌<◌, List, [], ◌∷◌, length, get_or, take, sym, ap, ◌∙◌, arith}
use Rattle.ring_core.specs.declared.views.Shape.{Shape}
use Rattle.ring_core.specs.declared.event.CoreEvent.{CoreEvent}
use Rattle.ring_core.specs.Ring.{Ring}
use Rattle.ring_core.specs.Core.{happens, run}

run_next : (k : Shape) (s : Ring) (es : List CoreEvent) (i : ℕ) (e : CoreEvent) → i < length es → e ≡ get_or es i e → run k s (take (suc i) es) ≡ happens k (run k s (take i es)) e
run_next k s [] i e below is = absurd (omega arith)
run_next k s (x ∷ es) zero e below is = ap (happens k s) (sym is)
run_next k s (x ∷ es) (suc i) e below is = run_next k (happens k s x) es i e (omega arith) is

-- one event more
pub run_more : (k : Shape) (s : Ring) (es : List CoreEvent) (i : ℕ) (e : CoreEvent) → i < length es → e ≡ get_or es i e → run k s (take (i + 1) es) ≡ happens k (run k s (take i es)) e
run_more k s es i e below is = ap (λ (n : ℕ). run k s (take n es)) (let up : i + 1 ≡ suc i = omega arith in up) ∙ run_next k s es i e below is
