use Rattle.std.proofs.Common.{sym}
use Rattle.ring_core.specs.Ring.{Ring}
use Rattle.ring_core.specs.CoreInside.{ring_of}
use Rattle.ring_core.proofs.Stepped.{put_on}
use Rattle.ring_core.specs.Core.{glance_role}
use Rattle.ring_core.proofs.core_state.CoreState.look.Goals as goal

pub returns : goal.returns
returns c =
    let s : Ring = ring_of c.self.inside in
    let told = c.in_ok-next.ensures s c.args.seat (sym c.deref.ensures.value) c.take-view.ensures.view in
    rw (← c.self.view_is) (put_on s (s) c.args.seat c.take-view.result c.in_ok-next.next c.take-view.new.views.items c.put.new.list.items (glance_role c.args.shape s c.args.seat c.args.glance) c.take-view.ensures.view c.take-view.ensures.rest c.put.ensures told)
