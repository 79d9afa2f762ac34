use Rattle.std.proofs.Common.{◌^◌}
use Rattle.replay_check.specs.Rule.{NoneCan}
use Rattle.replay_check.specs.Lists.{left_of, list_of}
use Rattle.replay_check.proofs.pick.pick.Given as goal

abbrev pub invariant-filers : goal.invariant-filers
invariant-filers l = NoneCan (2 ^ l.line.g) l.player l.who (l.line.machine) (left_of (list_of l.lists) l.at)
