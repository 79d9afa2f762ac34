use Rattle.std.proofs.Common.{refl, sym, ◌∙◌}
use Rattle.ring_core.specs.declared.views.Role.TheVariants.{Caller}
use Rattle.ring_core.specs.Core.{leave_role}
use Rattle.ring_core.proofs.Stepped.{kept, leave_barred}
use Rattle.ring_core.proofs.core_steps.leave.Goals as goal

pub returns-then-is_some : goal.returns-then-is_some
returns-then-is_some c = λ seat s berths cells sees.
    kept s seat c.args.view c.caller_view.result (Caller c.in-Caller.caller) (leave_role c.args.shape s seat) s.slots c.args.berths.now.items c.args.cells.now.items refl berths cells sees c.in-Caller.is c.caller_view.ensures
    (leave_barred c.args.shape s seat c.in-Caller.caller (sym c.is_some.ensures ∙ c.if-is_some.true))
