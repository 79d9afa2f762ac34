use Rattle.std.proofs.Common.{◌≡◌, ℕ, ◌<◌, List}
use mathlib.Core.Option.{some}
use lib.ListN.{get_elem?}
use Rattle.playout.specs.declared.call.Call.{Call}
use Rattle.ring_core.specs.declared.views.View.{View}
use Rattle.ring_core.specs.CoreState.{HasList}
use Rattle.ring_core.proofs.core_state.CoreState.calls.Given as goal

-- no view so far has the list
abbrev pub invariant-loop-view : goal.invariant-loop-view
invariant-loop-view l = (seat : ℕ) (v : View) (list : List Call) → seat < l.view-index → get_elem? l.view-items seat ≡ some v → HasList l.who list v.role → ⊥
