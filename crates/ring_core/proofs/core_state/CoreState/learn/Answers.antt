use Rattle.std.proofs.Common.{◌≢◌, sym}
use Rattle.ring_core.specs.Ring.{Ring}
use Rattle.ring_core.specs.Core.{learn_roles}
use Rattle.ring_core.specs.CoreInside.{ring_of}
use Rattle.ring_core.specs.CoreState.{Sees}
use Rattle.ring_core.proofs.Stepped.{put_both, sees_other}
use Rattle.ring_core.proofs.core_state.CoreState.learn.Goals as goal

pub returns : goal.returns
returns c =
    let s : Ring = ring_of c.self.inside in
    let apart : c.args.note ≢ c.args.seat = λ e. c.if-seat-note.false (sym e) in
    let there : Sees s c.args.note c.take-other.result = sees_other s c.args.seat c.args.note c.take-other.result c.take-view.new.views.items apart c.take-view.ensures.rest c.take-other.ensures.view in
    let told = c.in_ok-next.ensures s c.args.seat c.args.note apart c.take-view.ensures.view there in
    rw (← c.self.view_is) (put_both s c.args.seat c.args.note c.take-view.result c.take-other.result c.in_ok-next.next c.in_ok-next.rest c.take-view.new.views.items c.take-other.new.views.items c.put.new.list.items c.put-2.new.list.items
    (learn_roles c.args.shape s c.args.seat c.args.note) apart c.take-view.ensures.view there c.take-view.ensures.rest c.take-other.ensures.rest c.put.ensures c.put-2.ensures told)
