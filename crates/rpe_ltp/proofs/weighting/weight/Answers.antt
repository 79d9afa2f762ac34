use Rattle.std.proofs.Common.{arith, ◌∙◌, ◌+◌, ◌<◌}
use Rattle.fixed_arith.specs.Signal.{at}
use Rattle.rpe_ltp.specs.Weighting.{five_before}
use Rattle.rpe_ltp.proofs.WeightLaws.{weighted_same}
use Rattle.rpe_ltp.proofs.weighting.weight.Goals as goal

pub returns : goal.returns
returns c = λ k h.
    let done : k < c.loop-k.k = omega arith in
    c.loop-k.invariant.done k done
    ∙ weighted_same (λ i. at c.padded-wide.result (k + i)) (λ i. five_before c.args.e.now (k + i)) (λ i small. let inside : k + i < 50 = omega arith in c.padded-wide.ensures.values (k + i) inside)
