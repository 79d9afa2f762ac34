use Rattle.std.proofs.Common.{rules, arith, ◌∙◌, ◌<◌, ◌≤◌, ap, map, pos, inl, inr, FitsSigned, w16, length}
use Rattle.std.proofs.lemmas.Int.{to_z-of_z}
use Rattle.std.proofs.lemmas.Bool.{cases_lt}
use Rattle.fixed_arith.specs.ArrayLaws.{MapsInPlace-whole}
use Rattle.std.proofs.lemmas.List.{get_or_past}
use Rattle.fixed_arith.specs.Signal.{at}
use Rattle.lar_filter.specs.Autocorrelation.{scale_of, scaled_word}
use Rattle.lar_filter.proofs.ScaleLaws.{scaled_small}
use Rattle.lar_filter.proofs.autocorrelation.scale_down.Goals as goal

pub returns-clause-samples : goal.returns-clause-samples
returns-clause-samples c =
    let top : FitsSigned w16 c.greatest.result = search rules in
    let scale = simp to_z-of_z at c.scale-scale.ensures.value in
    MapsInPlace-whole _ _ _ c.loop-sample.sample-index (omega (arith, c.told-samples)) c.loop-sample.invariant
    ∙ ap (λ n. map (scaled_word n) c.args.samples.now) (scale ∙ ap scale_of c.greatest.ensures.value)

pub returns-clause-small : goal.returns-clause-small
returns-clause-small c = λ i.
    let top : FitsSigned w16 c.greatest.result = search rules in
    let fits = simp to_z-of_z at c.scale-scale.ensures.fits in
    elim (cases_lt i 160) [
      | inl inside ↦ let done : i < c.loop-sample.sample-index = omega arith in
          rw (c.loop-sample.invariant.done i done) (scaled_small (at c.args.samples.now i) c.scale-scale.result c.scale-scale.ensures.most (omega (arith, fits, c.greatest.ensures.reach i)))
      | inr past ↦ let out : length c.loop-sample.samples ≤ i = omega (arith, c.told-samples, c.loop-sample.invariant.size) in
          rw (get_or_past c.loop-sample.samples i (pos 0) out) (omega arith)
    ]
