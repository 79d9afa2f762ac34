use Rattle.std.proofs.Common.{refl}
use Rattle.ring_core.specs.Ring.{Ring}
use Rattle.ring_core.specs.CoreInside.{ring_of}
use Rattle.ring_core.proofs.Stepped.{put_on}
use Rattle.ring_core.specs.Core.{leave_role}
use Rattle.ring_core.proofs.core_state.CoreState.leave.Goals as goal

pub returns : goal.returns
returns c =
    let s : Ring = ring_of c.self.inside in
    let told = c.leave-next.ensures c.args.seat s refl refl c.take-view.ensures.view in
    rw (← c.self.view_is) (put_on s (record s { berths = c.leave-next.new.berths.items; cells = c.leave-next.new.cells.items }) c.args.seat c.take-view.result c.leave-next.result c.take-view.new.views.items c.put.new.list.items (leave_role c.args.shape s c.args.seat) c.take-view.ensures.view c.take-view.ensures.rest c.put.ensures told)
