use Rattle.lar_filter.specs.Lattice.{StepsTo}
use Rattle.lar_filter.proofs.RunLaws.{RunsInPlace}
use Rattle.lar_filter.proofs.synthesis.Synthesis.run.Given as goal

abbrev pub invariant-loop-sample : goal.invariant-loop-sample
invariant-loop-sample l = RunsInPlace StepsTo l.rp l.fn.self l.fn.samples l.samples l.v l.sample-index
