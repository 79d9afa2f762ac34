use Rattle.std.proofs.Common.{◌≡◌, take}
use Rattle.player.specs.Beats.{all_counted}
use Rattle.player.proofs.calls.count_calls.Given as goal

abbrev pub invariant-loop-call : goal.invariant-loop-call
invariant-loop-call l = l.tally ≡ all_counted l.initial.tally (take l.call-index l.call-items)
