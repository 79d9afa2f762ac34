use Rattle.std.proofs.Common.{◌≡◌, ℕ, ◌<◌}
use Rattle.std.specs.Prelude.{◌≤ℤ◌, ◌<ℤ◌}
use Rattle.rpe_ltp.specs.Weighting.{grid_power}
use Rattle.rpe_ltp.proofs.grid.best_grid.Given as goal

abbrev pub invariant-loop-m : goal.invariant-loop-m
invariant-loop-m l = record {
  within : l.grid < l.m;
  value : l.best ≡ grid_power l.x l.grid;
  greatest : (n : ℕ) → n < l.m → grid_power l.x n ≤ℤ l.best;
  first : (n : ℕ) → n < l.grid → grid_power l.x n <ℤ l.best;
}
