use Rattle.std.proofs.Common.{◌≡◌, ◌+◌, ◌∷◌, ◌++◌, List, ℕ, [], length, take, sym, ap, ◌∙◌, arith}
use Rattle.std.proofs.Math.ListN.{set, length-set}
use Rattle.std.proofs.Math.Seq.{take-length}
use Rattle.std.proofs.lemmas.List.{take_more_set}
use Rattle.g711_leg.specs.OutLaws.{goes_from_block}
use Rattle.g711_leg.proofs.outlet.Out.take_octet.Goals as goal

full : (block : List ℕ) (n octet : ℕ) → length block ≡ 320 → n ≡ 319 → set block n octet ≡ take n block ++ octet ∷ []
full block n octet whole last =
    let e : length (set block n octet) ≡ n + 1 = length-set block n octet ∙ omega arith in
    sym (take-length (set block n octet)) ∙ ap (λ (k : ℕ). take k (set block n octet)) e ∙ take_more_set block n octet (omega arith)

pub returns-clause-goes : goal.returns-clause-goes
returns-clause-goes g c =
    let e : set c.self.inside.block c.self.inside.filled c.args.octet ≡ take c.self.inside.filled c.self.inside.block ++ c.args.octet ∷ [] =
    full c.self.inside.block c.self.inside.filled c.args.octet c.self.told (omega (arith, c.self.invariant.0)) in
    rw (← c.self.view_is)
    (goes_from_block g.A.Sink g.P.Link _ c.send_block.new.self c.send_block.result _ _ e c.send_block.ensures.goes)
