-- What a pool has gathered is the callers' lists of the history.
use Rattle.std.proofs.Common.{◌≡◌, ℕ, ◌+◌, ◌≤◌, List, length, Some, inl, inr, ⊎_elim, sym, ◌∙◌, arith}
use Rattle.std.specs.Prelude.{slice_get}
use mathlib.Core.Option.{some}
use lib.ListN.{get_elem?}
use Rattle.playout.specs.declared.call.Call.{Call}
use Rattle.ring_core.specs.declared.views.Shape.{Shape}
use Rattle.ring_core.specs.declared.views.Pooling.{Pooling}
use Rattle.playout.specs.History.{calls_of}
use Rattle.ring_core.specs.declared.words.Berth.{Berth}
use Rattle.ring_core.specs.declared.words.Berth.TheVariants.{Fresh, Out, Home}
use Rattle.ring_core.specs.Ring.{Ring, IsCalling, HasLeft, CallerStands, RingRule}
use Rattle.ring_core.specs.CoreState.{IsListOf}
use Rattle.ring_core.specs.Steps.{pool_view}
use Rattle.ring_core.specs.ListPlaces.{at_exists}

pub gathered_is : (k : Shape) (s : Ring) (rule : RingRule k s) (id : ℕ) (p : Pooling) (who : ℕ) (l : List Call) → get_elem? s.views id ≡ some (pool_view k p) → who ≤ k.filers → slice_get p.lists who ≡ Some (Some l) → l ≡ calls_of who rule.history
gathered_is k s rule id p who l at low has =
    let n : ℕ = length s.berths in let wide : n ≡ k.filers + 1 = rule.sized.berths in
    let b = at_exists s.berths who (omega arith) in go b.0 (rule.caller who b.0 b.1)
  where
    go : (b : Berth) → CallerStands s.views who (calls_of who rule.history) b → l ≡ calls_of who rule.history
    go (Fresh cell) st = absurd (st.2 id (pool_view k p) l at has)
    go Out st = absurd (st.2 id (pool_view k p) l at has)
    go (Home cell) st = (st.2.2 id (pool_view k p) l at has).1

pub listed_is : (k : Shape) (s : Ring) (rule : RingRule k s) (who : ℕ) (l : List Call) → who ≤ k.filers → IsListOf s who l → l ≡ calls_of who rule.history
listed_is k s rule who l low has =
    let n : ℕ = length s.berths in let wide : n ≡ k.filers + 1 = rule.sized.berths in
    let b = at_exists s.berths who (omega arith) in go b.0 (rule.caller who b.0 b.1) has
  where
    go : (b : Berth) → CallerStands s.views who (calls_of who rule.history) b → IsListOf s who l → l ≡ calls_of who rule.history
    go (Fresh cell) st (inl seen) = absurd (⊎_elim (λ (m : IsCalling who l seen.1.0.role). st.1 seen.0 seen.1.0 l seen.1.1 m) (λ (m : HasLeft who l seen.1.0.role). st.2 seen.0 seen.1.0 l seen.1.1 m) seen.1.2)
    go (Fresh cell) st (inr none) = none.0 ∙ sym st.0
    go Out st (inl seen) = ⊎_elim (λ (m : IsCalling who l seen.1.0.role). (st.1.2 seen.0 seen.1.0 l seen.1.1 m).1) (λ (m : HasLeft who l seen.1.0.role). absurd (st.2 seen.0 seen.1.0 l seen.1.1 m)) seen.1.2
    go Out st (inr none) = let one = st.1.1 in absurd (none.1 st.1.0 one.0 (calls_of who rule.history) one.1 (inl one.2))
    go (Home cell) st (inl seen) = ⊎_elim (λ (m : IsCalling who l seen.1.0.role). absurd (st.1 seen.0 seen.1.0 l seen.1.1 m)) (λ (m : HasLeft who l seen.1.0.role). (st.2.2 seen.0 seen.1.0 l seen.1.1 m).1) seen.1.2
    go (Home cell) st (inr none) = let one = st.2.1 in absurd (none.1 st.2.0 one.0 (calls_of who rule.history) one.1 (inr one.2))
