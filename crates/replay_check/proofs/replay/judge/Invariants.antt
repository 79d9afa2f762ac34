use Rattle.std.proofs.Common.{ℕ, ◌≡◌, ◌<◌, ◌+◌, ◌^◌, [], length}
use Rattle.replay_check.specs.Lists.{list_of, left_of, count_left}
use Rattle.replay_check.specs.Picks.{IsHere}
use Rattle.replay_check.proofs.Sofar.{Sofar}
use Rattle.replay_check.proofs.replay.judge.Given as goal

abbrev pub invariant-steps : goal.invariant-steps
invariant-steps l = record {
  filers : l.line.filers ≡ l.fn.line.filers;
  slots : l.line.g ≡ l.fn.line.g;
  long : length l.at.items ≡ length l.lists.filers + 1;
  here : IsHere l.line l.lists l.at.items;
  sofar : Sofar (2 ^ l.fn.line.g) l.player (list_of l.lists) l.line.machine l.at.items l.order.items;
}

abbrev pub decreases-steps : goal.decreases-steps
decreases-steps l = count_left l.lists.filers l.lists.player l.at.items

abbrev pub invariant-rest : goal.invariant-rest
invariant-rest l = (k : ℕ) → k < l.who → left_of (list_of l.lists) l.place-items k ≡ []
