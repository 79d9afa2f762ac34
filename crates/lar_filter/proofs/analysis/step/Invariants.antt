use Rattle.lar_filter.proofs.RisingLaws.{Rises}
use Rattle.lar_filter.proofs.analysis.step.Given as goal

abbrev pub invariant-loop-i : goal.invariant-loop-i
invariant-loop-i l = Rises l.rp l.fn.u l.x l.u l.d l.w l.i
