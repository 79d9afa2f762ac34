use Rattle.std.proofs.Common.{◌≡◌, ◌≢◌, ℕ, List, refl, sym, ◌∙◌, subst}
use mathlib.Core.Option.{some}
use lib.ListN.{get_elem?}
use Rattle.ring_core.specs.declared.words.Berth.{Berth}
use Rattle.ring_core.specs.declared.words.Berth.TheVariants.{Fresh}
use Rattle.ring_core.specs.declared.views.Role.TheVariants.{Pool}
use Rattle.ring_core.specs.Core.{enlist_role}
use Rattle.ring_core.proofs.Stepped.{kept, enlist_listed, enlist_no_right, enlist_not_fresh}
use Rattle.ring_core.proofs.pool_steps.enlist.Goals as goal

pub returns-then-not-is_empty : goal.returns-then-not-is_empty
returns-then-not-is_empty c = λ s berths cells sees.
    kept s c.args.seat c.args.view c.pool_view.result (Pool c.in-Pool.pool) (enlist_role c.args.shape s c.args.seat c.args.who) s.slots c.args.berths.now.items c.args.cells.now.items refl berths cells sees c.in-Pool.is c.pool_view.ensures
    (enlist_listed c.args.shape s c.args.seat c.args.who c.in-Pool.pool (sym c.is_empty.ensures ∙ c.if-not-is_empty.true))

pub returns-then-not-has : goal.returns-then-not-has
returns-then-not-has c = λ s berths cells sees.
    kept s c.args.seat c.args.view c.pool_view-then-not-has.result (Pool c.in-Pool.pool) (enlist_role c.args.shape s c.args.seat c.args.who) s.slots c.args.berths.now.items c.args.cells.now.items refl berths cells sees c.in-Pool.is c.pool_view-then-not-has.ensures
    (enlist_no_right c.args.shape s c.args.seat c.args.who c.in-Pool.pool (sym c.has.ensures ∙ c.if-not-has.true))

pub returns-in-None : goal.returns-in-None
returns-in-None c = λ s berths cells sees.
    let same : s.berths ≡ c.deref.result.now = berths ∙ sym c.deref.ensures.value in
    let not : (cell : ℕ) → get_elem? s.berths c.args.who ≢ some (Fresh cell) = subst (λ (l : List Berth). (cell : ℕ) → get_elem? l c.args.who ≢ some (Fresh cell)) (sym same) c.in-None.ensures in
    kept s c.args.seat c.args.view c.pool_view-in-None.result (Pool c.in-Pool.pool) (enlist_role c.args.shape s c.args.seat c.args.who) s.slots c.args.berths.now.items c.args.cells.now.items refl berths cells sees c.in-Pool.is c.pool_view-in-None.ensures
    (enlist_not_fresh c.args.shape s c.args.seat c.args.who c.in-Pool.pool not)
