use Rattle.std.proofs.Common.{ℤ, subst, w16}
use Rattle.std.proofs.lemmas.Int.{to_z-of_z}
use Rattle.g711_leg.specs.Codes.{IsCompressed}
use Rattle.g711_leg.proofs.BestLaws.{code_is_best}
use Rattle.g711_leg.proofs.compressing.compress.Goals as goal

pub returns-clause-code : goal.returns-clause-code
returns-clause-code c =
    code_is_best c.args.law c.args.sample c.best_code.result
    (subst (λ (x : ℤ). IsCompressed c.args.law x c.best_code.result) (to_z-of_z w16 c.args.sample c.ranges.sample) c.best_code.ensures)
