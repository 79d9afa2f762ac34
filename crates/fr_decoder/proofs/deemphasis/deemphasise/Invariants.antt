use Rattle.fr_decoder.proofs.DeemphasisLaws.{Deemphasises}
use Rattle.fr_decoder.proofs.deemphasis.deemphasise.Given as goal

abbrev pub invariant-loop-sample : goal.invariant-loop-sample
invariant-loop-sample l = Deemphasises l.before l.fn.samples l.samples l.value l.sample-index
