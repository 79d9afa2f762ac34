use Rattle.std.proofs.Common.{pos, replicate, refl}
use Rattle.std.proofs.lemmas.List.{get_or-replicate}
use Rattle.rpe_ltp.proofs.LongTermLaws.{Remembers-start}
use Rattle.rpe_ltp.proofs.long_term.LongTerm.new.Goals as goal

pub returns : goal.returns
returns c = rw c.new.ensures (Remembers-start (replicate 120 (pos 0)) refl (λ i h. get_or-replicate 120 i (pos 0) (pos 0) h))
