use Rattle.std.proofs.Common.{◌+◌, List, [], ◌∷◌, ◌++◌, false, refl, ap, sym, ◌∙◌}
use Rattle.ring_core.specs.declared.words.SlotWord.{SlotWord}
use Rattle.ring_core.proofs.Stepped.{slots_more}
use Rattle.ring_core.proofs.core_state.opening_slots.Goals as goal

pub loop-i-preserved : goal.loop-i-preserved
loop-i-preserved c =
    let word : SlotWord = record { number = 4294967296 + c.from.result; filled = false; cell = c.loop-i.i } in
    c.in_ok-push.ensures.items ∙ (ap (λ (l : List SlotWord). l ++ word ∷ []) c.loop-i.invariant ∙ sym (slots_more c.loop-i.i word (ap (λ x. 4294967296 + x) c.from.ensures) refl refl))
