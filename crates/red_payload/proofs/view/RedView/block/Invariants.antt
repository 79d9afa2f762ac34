use Rattle.std.proofs.Common.{◌≡◌, drop}
use Rattle.red_payload.proofs.view.RedView.block.Given as goal

abbrev pub invariant-loop : goal.invariant-loop
invariant-loop l = l.walk ≡ drop l.counter l.self
