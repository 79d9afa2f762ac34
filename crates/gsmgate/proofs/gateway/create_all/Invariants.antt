use Rattle.std.proofs.Common.{◌≡◌, length}
use Rattle.gsmgate.proofs.gateway.create_all.Given as goal

abbrev pub invariant-loop-path : goal.invariant-loop-path
invariant-loop-path g l = length l.sinks.items ≡ l.path-index
