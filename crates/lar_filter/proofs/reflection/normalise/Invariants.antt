use Rattle.std.proofs.Common.{pos}
use Rattle.fixed_arith.specs.ArrayLaws.{Fills}
use Rattle.fixed_arith.specs.Signal.{at}
use Rattle.lar_filter.specs.Reflections.{normal_word}
use Rattle.lar_filter.proofs.reflection.normalise.Given as goal

abbrev pub invariant-loop-k : goal.invariant-loop-k
invariant-loop-k l = Fills (pos 0) (λ k. normal_word (at l.acf 0) (at l.acf k)) 9 l.values l.k
