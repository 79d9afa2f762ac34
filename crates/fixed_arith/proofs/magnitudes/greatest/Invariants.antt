use Rattle.std.proofs.Common.{◌≡◌, ℕ, ◌<◌, ◌≤◌, ◌+◌, pos, ◌≤ℤ◌, take, get_or}
use Rattle.std.specs.Prelude.{unsigned_abs}
use Rattle.fixed_arith.specs.Sums.{greatest_of}
use Rattle.fixed_arith.proofs.magnitudes.greatest.Given as goal

abbrev pub invariant-loop-x : goal.invariant-loop-x
invariant-loop-x l = record {
  value : l.top ≡ greatest_of (take l.x-index l.xs);
  sign : pos 0 ≤ℤ l.top;
  reach : (j : ℕ) → j < l.x-index → unsigned_abs (get_or l.xs j (pos 0)) ≤ unsigned_abs l.top + 1;
}
