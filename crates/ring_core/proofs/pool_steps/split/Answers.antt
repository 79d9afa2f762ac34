use Rattle.std.proofs.Common.{sym, ◌∙◌}
use Rattle.ring_core.specs.declared.views.Role.TheVariants.{Caller, Pool}
use Rattle.ring_core.specs.Core.{split_role}
use Rattle.ring_core.proofs.Stepped.{kept_short, split_no_right, split_flying, noted}
use Rattle.ring_core.proofs.pool_steps.split.Goals as goal

pub returns-then-not-has : goal.returns-then-not-has
returns-then-not-has c = λ s seat sees.
    kept_short s seat c.args.view c.pool_view.result (Pool c.in-Pool.pool) (split_role c.args.shape s seat c.args.who) sees c.in-Pool.is c.pool_view.ensures (split_no_right c.args.shape s seat c.args.who c.in-Pool.pool (sym c.has.ensures ∙ c.if-not-has.true))

pub returns-then-is_some : goal.returns-then-is_some
returns-then-is_some c = λ s seat sees.
    kept_short s seat c.args.view c.caller_view.result (Caller c.in-Caller.caller) (split_role c.args.shape s seat c.args.who) sees c.in-Caller.is c.caller_view.ensures (split_flying c.args.shape s seat c.args.who c.in-Caller.caller (sym c.is_some.ensures ∙ c.if-is_some.true))

pub returns-in_ok-copied-in-Caller : goal.returns-in_ok-copied-in-Caller
returns-in_ok-copied-in-Caller c = λ s seat sees.
    noted c.args.shape s seat c.args.who c.args.view c.caller_view-in-Caller.result c.in-Caller.caller c.in_ok-copied-in-Caller.field-0 sees c.in-Caller.is c.caller_view-in-Caller.ensures (sym c.is_some.ensures ∙ c.if-is_some.false) c.in_ok-copied-in-Caller.ensures
