-- What a closed table leaves, read as a ring.
use Rattle.std.proofs.Common.{ℕ, List, sym, ap, ◌∙◌}
use mathlib.Core.Option as maybe
use lib.ListN.{get_elem?}
use Rattle.atomic_table.specs.Table.{Seen, Final}
use Rattle.atomic_table.proofs.Lists.{at_map}
use Rattle.ring_core.specs.declared.views.Shape.{Shape}
use Rattle.ring_core.specs.declared.views.View.{View}
use Rattle.ring_core.specs.declared.words.Cell.TheVariants.{AtHome}
use Rattle.ring_core.specs.Ring.{Ring}
use Rattle.step_table.specs.Packed.{Kept, Holds, home_of}
use Rattle.step_table.specs.Ends.{Ends}

pub ends : (k : Shape) (id : ℕ) (v : View) (words : List ℕ) (cells : List Kept) → Final (Seen (Holds k) id v) words cells → Ends k (record { view = v; words = words; cells = cells })
ends k id v words cells f =
    let t = f.0 in let holds = f.1.0 in let s : Ring = holds.0 in let sp = holds.1 in (
      s,
      holds.2,
      (id, ap (λ (l : List View). get_elem? l id) (sym sp.2) ∙ f.1.1),
      sym f.2 ∙ sp.0,
      λ c x e. f.4 c x (ap (λ (l : List (maybe.Option Kept)). get_elem? l c) sp.1 ∙ at_map home_of s.cells c (AtHome x) e),
    )
