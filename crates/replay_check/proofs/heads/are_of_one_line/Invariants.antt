use Rattle.std.proofs.Common.{take}
use Rattle.replay_check.specs.Journals.{AreNumbered}
use Rattle.replay_check.proofs.heads.are_of_one_line.Given as goal

abbrev pub invariant-journals : goal.invariant-journals
invariant-journals l = AreNumbered l.player.head 0 (take l.k l.filer-items)
