use Rattle.std.proofs.Common.{◌≢◌, sym}
use Rattle.ring_core.specs.Ring.{Ring}
use Rattle.ring_core.specs.Core.{gather_roles}
use Rattle.ring_core.specs.CoreInside.{ring_of}
use Rattle.ring_core.specs.CoreState.{Sees}
use Rattle.ring_core.proofs.Stepped.{put_both, sees_other}
use Rattle.ring_core.proofs.core_state.CoreState.gather.Goals as goal

pub returns : goal.returns
returns c =
    let s : Ring = ring_of c.self.inside in
    let apart : c.args.other ≢ c.args.seat = λ e. c.if-seat-other.false (sym e) in
    let there : Sees s c.args.other c.take-gone.result = sees_other s c.args.seat c.args.other c.take-gone.result c.take-view.new.views.items apart c.take-view.ensures.rest c.take-gone.ensures.view in
    let told = c.gather-next.ensures s c.args.seat c.args.other apart c.take-view.ensures.view there in
    rw (← c.self.view_is) (put_both s c.args.seat c.args.other c.take-view.result c.take-gone.result c.gather-next.result.0 c.gather-next.result.1 c.take-view.new.views.items c.take-gone.new.views.items c.put.new.list.items c.put-2.new.list.items
    (gather_roles c.args.shape s c.args.seat c.args.other) apart c.take-view.ensures.view there c.take-view.ensures.rest c.take-gone.ensures.rest c.put.ensures c.put-2.ensures told)
