use Rattle.lar_filter.proofs.LatticeLaws.{Descends}
use Rattle.lar_filter.proofs.synthesis.step.Given as goal

abbrev pub invariant-loop-i : goal.invariant-loop-i
invariant-loop-i l = Descends l.rp l.fn.v l.x l.v l.s l.i
