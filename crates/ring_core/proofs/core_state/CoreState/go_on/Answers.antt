use Rattle.std.proofs.Common.{refl}
use Rattle.ring_core.specs.Ring.{Ring}
use Rattle.ring_core.specs.CoreInside.{ring_of}
use Rattle.ring_core.proofs.Stepped.{put_on}
use Rattle.ring_core.specs.Core.{move_role}
use Rattle.ring_core.proofs.core_state.CoreState.go_on.Goals as goal

pub returns : goal.returns
returns c =
    let s : Ring = ring_of c.self.inside in
    let told = c.in_ok-next.ensures s refl refl c.take-view.ensures.view in
    rw (← c.self.view_is) (put_on s (record s { slots = c.go_on.new.slots.items; cells = c.go_on.new.cells.items }) c.args.seat c.take-view.result c.in_ok-next.next c.take-view.new.views.items c.put.new.list.items (move_role c.args.shape s c.args.seat c.args.how) c.take-view.ensures.view c.take-view.ensures.rest c.put.ensures told)
