use Rattle.std.proofs.Common.{◌^◌, ap, ◌∙◌}
use Rattle.playout.specs.Machine.{item_of}
use Rattle.playout.proofs.Moved.{front_is}
use Rattle.playout.proofs.map_line.MapLine.next_item.Goals as goal

pub returns : goal.returns
returns c =
    let a = c.self.inside in
    let front = rw c.deref.ensures.value at c.front_of.ensures in
    rw (← c.self.view_is) (c.item_of.ensures.value ∙ ap item_of (front_is (2 ^ a.g) a.position a.pairs.items c.front_of.result c.self.invariant.rises c.self.invariant.window front))
