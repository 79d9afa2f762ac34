-- What the word of a slot has to do with what its reader knows.
use Rattle.std.proofs.Common.{◌≡◌, ◌⊎◌, inl, inr, ℕ, ◌%◌, ◌<◌, ◌≤◌, Some, true, arith}
use mathlib.Core.Option.{some}
use lib.ListN.{get_elem?}
use Rattle.ring_core.specs.declared.views.Shape.{Shape}
use Rattle.ring_core.specs.declared.views.Calling.{Calling}
use Rattle.ring_core.specs.declared.words.SlotWord.{SlotWord}
use Rattle.ring_core.specs.declared.words.Cell.TheVariants.{AtHome}
use Rattle.ring_core.specs.Ring.{Ring, RingRule, slot_count}
use Rattle.ring_core.specs.Steps.{caller_view}
use Rattle.ring_core.specs.RingLaws.{CallersAreFresh, SlotsAreNear}
use Rattle.step_table.specs.Kinds.{WordTells}

-- what stands there, or has gone on, is not below, and is filled where it has the number
not_below : (a n : ℕ) (filled held : Type 0) → ((a ≡ n) × filled × held) ⊎ (n < a) → (n ≤ a) × (a ≡ n → filled)
not_below a n filled held there = elim there [
  | inl is ↦ (let e : a ≡ n = is.0 in omega (arith, e), λ same. is.1)
  | inr on ↦ (omega (arith, on), λ same. absurd (omega (arith, same, on)))
]

pub tells_of : CallersAreFresh → SlotsAreNear → (k : Shape) (s : Ring) (rule : RingRule k s) (id : ℕ) (c : Calling) (n : ℕ) (w : SlotWord) → get_elem? s.views id ≡ some (caller_view k c) → get_elem? s.slots (n % slot_count k) ≡ some w → WordTells k c n w
tells_of fresh near k s rule id c n w at found =
    let known = fresh k s rule id c at in
    let fits = rule.slot (n % slot_count k) w found in
    let bounds = near k s rule (n % slot_count k) w found in
    record {
      congruent = fits.congruent;
      first = bounds.0;
      last = bounds.1;
      reached = known.reached (n % slot_count k) w found;
      accepted = λ f has. not_below w.number n (w.filled ≡ true) (get_elem? s.cells w.cell ≡ some (AtHome (Some f))) (known.accepted n w f found has);
    }
