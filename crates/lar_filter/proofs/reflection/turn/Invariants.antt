use Rattle.lar_filter.specs.SchurLaws.{Turning}
use Rattle.lar_filter.proofs.reflection.turn.Given as goal

abbrev pub invariant-loop-m : goal.invariant-loop-m
invariant-loop-m l = Turning l.r l.fn.p l.fn.k l.p l.k l.m
