use Rattle.std.proofs.Common.{rules, ◌∙◌, FitsSigned, w32}
use Rattle.std.proofs.lemmas.Int.{to_z-of_z}
use Rattle.fixed_arith.specs.Signal.{at}
use Rattle.lar_filter.specs.SchurLaws.{reflections_none, reflections_some}
use Rattle.lar_filter.proofs.reflection.schur.Goals as goal

pub returns-then-acf-gt0 : goal.returns-then-acf-gt0
returns-then-acf-gt0 c =
    let first : FitsSigned w32 (at c.args.acf.now 0) = search rules in
    let some = simp to_z-of_z at c.if-acf-gt0.true in
    c.reflect.ensures ∙ reflections_some (at c.args.acf.now) (at c.normalise.result) some c.normalise.ensures

pub returns-else-acf-gt0 : goal.returns-else-acf-gt0
returns-else-acf-gt0 c =
    let first : FitsSigned w32 (at c.args.acf.now 0) = search rules in
    let none = simp to_z-of_z at c.if-acf-gt0.false in
    reflections_none (at c.args.acf.now) none
