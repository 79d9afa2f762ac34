use Rattle.std.proofs.Common.{◌∙◌}
use Rattle.playout.proofs.Looked.{waits_at}
use Rattle.playout.proofs.map_line.MapLine.waits.Goals as goal

pub returns : goal.returns
returns c =
    let a = c.self.inside in
    let found = rw c.deref.ensures.value at c.place_of.ensures.found in
    let absent = rw c.deref.ensures.value at c.place_of.ensures.absent in
    rw (← c.self.view_is) (c.is_ok.ensures.value ∙ waits_at a.pairs.items c.args.number c.place_of.result found absent)
