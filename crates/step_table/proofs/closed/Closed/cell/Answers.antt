use Rattle.std.proofs.Common.{rules, ◌<◌, length, List, sym, ap, ◌∙◌, subst}
use Rattle.std.specs.Mem.Slots.{slots_items}
use lib.ListN.{get_elem?}
use Rattle.atomic_table.proofs.Lists.{at_index}
use Rattle.step_table.specs.Packed.{Kept}
use Rattle.step_table.specs.Ends.{ClosedView}
use Rattle.step_table.proofs.closed.Closed.cell.Goals as goal

pub returns : goal.returns
returns c =
    let is = ap (λ (v : ClosedView). v.cells) c.self.view_is in
    ap (λ (l : List Kept). get_elem? l c.args.cell) (sym is) ∙ at_index (slots_items c.self.inside.table.slots) c.args.cell c.get.result.now (subst (λ (l : List Kept). c.args.cell < length l) (sym is) c.requires) (search rules)
