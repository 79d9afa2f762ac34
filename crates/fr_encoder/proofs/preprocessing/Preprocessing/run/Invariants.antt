use Rattle.fr_encoder.proofs.PreprocessingLaws.{Preprocesses}
use Rattle.fr_encoder.proofs.preprocessing.Preprocessing.run.Given as goal

abbrev pub invariant-loop-sample : goal.invariant-loop-sample
invariant-loop-sample l = Preprocesses l.fn.self l.fn.samples l.samples l.self l.sample-index
