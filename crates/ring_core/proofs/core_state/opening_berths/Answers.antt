use Rattle.std.proofs.Common.{◌+◌, List, [], ◌∷◌, ◌++◌, ap, sym, ◌∙◌}
use Rattle.ring_core.specs.declared.words.Berth.{Berth}
use Rattle.ring_core.specs.declared.words.Berth.TheVariants.{Fresh}
use Rattle.ring_core.proofs.Stepped.{berths_more}
use Rattle.ring_core.proofs.core_state.opening_berths.Goals as goal

pub loop-i-preserved : goal.loop-i-preserved
loop-i-preserved c =
    c.in_ok-push.ensures.items ∙ (ap (λ (l : List Berth). l ++ Fresh (c.args.first + c.loop-i.i) ∷ []) c.loop-i.invariant ∙ sym (berths_more c.args.first c.loop-i.i))
