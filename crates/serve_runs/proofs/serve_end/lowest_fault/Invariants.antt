use Rattle.std.proofs.Common.{◌≡◌, drop}
use Rattle.serve_runs.specs.Serve.{lowest_fault}
use Rattle.serve_runs.proofs.serve_end.lowest_fault.Given as goal

abbrev pub invariant-filers : goal.invariant-filers
invariant-filers l = lowest_fault l.filers ≡ lowest_fault (drop l.k l.filers)
