use Rattle.std.proofs.Common.{rules, arith, ap, ◌∙◌, ◌≡◌, pos, map, length, ◌<◌, FitsSigned, w16}
use Rattle.std.specs.Int.{int_shr}
use Rattle.std.proofs.lemmas.Int.{to_z-of_z}
use Rattle.std.proofs.lemmas.List.{length-map, get_or-map}
use Rattle.fixed_arith.specs.ArrayLaws.{Fills-whole}
use Rattle.fixed_arith.specs.Signal.{at}
use Rattle.rpe_ltp.specs.LagSearch.{lag_scale}
use Rattle.rpe_ltp.proofs.lag_search.scaled_down.Goals as goal

pub returns-clause-values : goal.returns-clause-values
returns-clause-values c =
    let top : FitsSigned w16 c.greatest-top.result = search rules in
    let scale = simp to_z-of_z at c.scale-scale.ensures.value in
    let shrunk : c.loop-i.values ≡ map (λ x. int_shr x c.scale-scale.result) c.args.d.now =
    Fills-whole (pos 0) (λ k. int_shr (at c.args.d.now k) c.scale-scale.result) 40 c.loop-i.values (map (λ x. int_shr x c.scale-scale.result) c.args.d.now) c.loop-i.i (omega arith) c.loop-i.invariant.filled
    (length-map _ _ ∙ c.told-d) (λ j h. let inside : j < length c.args.d.now = omega (arith, c.told-d) in get_or-map (λ x. int_shr x c.scale-scale.result) c.args.d.now j (pos 0) (pos 0) inside) in
    shrunk ∙ ap (λ n. map (λ x. int_shr x n) c.args.d.now) (scale ∙ ap lag_scale c.greatest-top.ensures.value)
