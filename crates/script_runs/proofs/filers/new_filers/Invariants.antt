use Rattle.std.proofs.Common.{◌≡◌, replicate}
use Rattle.script_runs.specs.Calls.{new_filer}
use Rattle.script_runs.proofs.filers.new_filers.Given as goal

abbrev pub invariant-loop : goal.invariant-loop
invariant-loop l = l.filers.items ≡ replicate l.counter (new_filer l.delay)
