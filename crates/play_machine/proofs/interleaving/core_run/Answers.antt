use Rattle.std.proofs.Common.{ap, sym, ◌∙◌, subst, take}
use Rattle.ring_core.specs.declared.views.Shape.{Shape}
use Rattle.ring_core.specs.Ring.{Ring, RingRule}
use Rattle.ring_core.specs.Opening.{opening_ring}
use Rattle.ring_core.specs.Core.{happens}
use Rattle.ring_core.specs.RunLaws.{run_more}
use Rattle.play_machine.proofs.interleaving.core_run.Goals as goal

pub loop-event-preserved : goal.loop-event-preserved
loop-event-preserved c =
    let k : Shape = record { filers = c.args.filers; g = c.args.g } in
    c.in_ok-happens.ensures ∙ (ap (λ (s : Ring). happens k s c.event-item.result) c.loop-event.invariant ∙ sym (run_more k (opening_ring k) c.deref-event-items.result.now c.loop-event.event-index c.event-item.result c.loop-event-test.true c.event-item.is))

pub returns-clause-rule : goal.returns-clause-rule
returns-clause-rule c =
    let k : Shape = record { filers = c.args.filers; g = c.args.g } in
    subst (RingRule k) (sym c.loop-event.invariant) (c.rule_holds.ensures k (take c.loop-event.event-index c.deref-event-items.result.now) c.requires.some c.requires.few c.requires.g)
