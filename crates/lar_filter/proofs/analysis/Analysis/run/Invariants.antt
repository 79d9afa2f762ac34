use Rattle.lar_filter.specs.Rising.{RisesTo}
use Rattle.lar_filter.proofs.RunLaws.{RunsInPlace}
use Rattle.lar_filter.proofs.analysis.Analysis.run.Given as goal

abbrev pub invariant-loop-sample : goal.invariant-loop-sample
invariant-loop-sample l = RunsInPlace RisesTo l.rp l.fn.self l.fn.samples l.samples l.u l.sample-index
