use Rattle.std.proofs.Common.{pos, replicate}
use Rattle.std.proofs.lemmas.List.{get_or-replicate}
use Rattle.fr_encoder.specs.Fronting.{Kept}
use Rattle.fr_encoder.proofs.FrontLaws.{Fronts-start}
use Rattle.fr_encoder.proofs.front.Front.new.Goals as goal

pub returns : goal.returns
returns c =
    let kept : Kept = record { offset = c.new.result; ratios = replicate 8 (pos 0); filter = c.new-2.result } in
    Fronts-start kept c.new.ensures (λ i h. get_or-replicate 8 i (pos 0) (pos 0) h) c.new-2.ensures
