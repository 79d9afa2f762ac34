use Rattle.std.proofs.Common.{arith}
use Rattle.playout.specs.Pairs.{IsGapFor, IsAt}
use Rattle.playout.proofs.Looked.{in_gap, in_place}
use Rattle.playout.proofs.map_line.MapLine.reply_to.Goals as goal

pub returns-in-Ok-clause-reply : goal.returns-in-Ok-clause-reply
returns-in-Ok-clause-reply c =
    let a = c.self.inside in
    let is_at : IsAt a.pairs.items c.args.number c.in-Ok.field-0 = rw c.deref.ensures.value at c.in-Ok.ensures.found in
    rw (← c.self.view_is) (omega arith, omega (arith, c.slots_of-slots.ensures.value), in_place a.pairs.items c.args.number c.in-Ok.field-0 is_at)

pub returns-in-Err-clause-reply : goal.returns-in-Err-clause-reply
returns-in-Err-clause-reply c =
    let a = c.self.inside in
    let gap : IsGapFor a.pairs.items c.args.number c.in-Err.field-0 = rw c.deref.ensures.value at c.in-Err.ensures.absent in
    rw (← c.self.view_is) (omega arith, omega (arith, c.slots_of-slots.ensures.value), in_gap a.pairs.items c.args.number c.in-Err.field-0 gap)
