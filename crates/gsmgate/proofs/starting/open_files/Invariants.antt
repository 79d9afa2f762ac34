use Rattle.std.proofs.Common.{◌≡◌, length}
use Rattle.gsmgate.proofs.starting.open_files.Given as goal

abbrev pub invariant-loop-path : goal.invariant-loop-path
invariant-loop-path g l = length l.inputs.items ≡ l.path-index
