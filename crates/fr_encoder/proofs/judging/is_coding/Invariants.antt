use Rattle.fr_encoder.proofs.Judged.{Judged}
use Rattle.fr_encoder.proofs.judging.is_coding.Given as goal

abbrev pub invariant-code : goal.invariant-code
invariant-code l = Judged l.pieces l.frames l.i l.encoder l.same
