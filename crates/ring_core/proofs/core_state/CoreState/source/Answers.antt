use Rattle.std.proofs.Common.{refl}
use Rattle.ring_core.specs.Ring.{Ring, word_of}
use Rattle.ring_core.specs.CoreInside.{ring_of}
use Rattle.ring_core.proofs.Stepped.{put_on}
use Rattle.ring_core.specs.Core.{source_role}
use Rattle.ring_core.proofs.core_state.CoreState.source.Goals as goal

pub returns : goal.returns
returns c =
    let s : Ring = ring_of c.self.inside in
    let told = c.in_ok-next.ensures s c.args.seat refl c.take-view.ensures.view in
    rw (← c.self.view_is) (put_on s (record s { source = word_of c.source.new.source }) c.args.seat c.take-view.result c.in_ok-next.next c.take-view.new.views.items c.put.new.list.items (source_role c.args.shape s c.args.seat c.args.ssrc) c.take-view.ensures.view c.take-view.ensures.rest c.put.ensures told)
