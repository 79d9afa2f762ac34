-- One event more.
use Rattle.std.proofs.Common.{◌≡◌, List, [], ◌∷◌, ◌++◌, sym, ap, subst, ◌∙◌}
use Rattle.rtcp_stats.specs.Statistics.{Statistics, Event, AreEvents, IsAnswer, after_event}

pub events_more : (first : Statistics) (es : List Event) (e : Event) (mid last : Statistics) → AreEvents first es mid → IsAnswer mid e → last ≡ after_event mid e → AreEvents first (es ++ e ∷ []) last
events_more first [] e mid last same answer is =
    (subst (λ (s : Statistics). IsAnswer s e) (sym same) answer, ap (λ (s : Statistics). after_event s e) same ∙ sym is)
events_more first (x ∷ es) e mid last all answer is = (all.0, events_more (after_event first x) es e mid last all.1 answer is)
