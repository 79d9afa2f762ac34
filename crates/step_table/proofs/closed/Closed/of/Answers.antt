use Rattle.std.proofs.Common.{rules, ◌≡◌, sym, subst}
use Rattle.std.specs.Mem.Slots.{slots_items}
use Rattle.ring_core.specs.declared.views.View.{View}
use Rattle.step_table.specs.Ends.{Ends}
use Rattle.step_table.proofs.Closing.{ends}
use Rattle.step_table.proofs.closed.Closed.of.Goals as goal

pub returns-clause-ends : goal.returns-clause-ends
returns-clause-ends c =
    let e : c.of-last.result.value.me.0 ≡ c.args.seat.me.0 = search rules in
    subst (λ (v : View). Ends c.args.table.shared.key (record { view = v; words = slots_items c.close_with-table.result.words; cells = slots_items c.close_with-table.result.slots })) (sym e) (ends _ _ _ _ _ c.close_with-table.ensures.values.2)
