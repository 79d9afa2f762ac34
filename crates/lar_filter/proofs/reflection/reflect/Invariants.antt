use Rattle.lar_filter.specs.SchurLaws.{Reflects}
use Rattle.lar_filter.proofs.reflection.reflect.Given as goal

abbrev pub invariant-loop-n : goal.invariant-loop-n
invariant-loop-n l = Reflects l.values l.p l.k l.r l.n
