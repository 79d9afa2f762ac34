use Rattle.std.proofs.Common.{◌≡◌, ℕ, ◌<◌, ◌-◌, length}
use Rattle.fixed_arith.specs.Word.{sub_words, mult_r_words}
use Rattle.fixed_arith.specs.Signal.{at}
use Rattle.rpe_ltp.specs.History.{back_at}
use Rattle.rpe_ltp.proofs.long_term.remainder.Given as goal

abbrev pub invariant-loop-k : goal.invariant-loop-k
invariant-loop-k l = record {
  size : length l.left ≡ 40;
  done : (j : ℕ) → j < l.k → at l.left j ≡ sub_words (at l.d j) (mult_r_words l.gain (back_at l.history (l.lag - j)));
}
