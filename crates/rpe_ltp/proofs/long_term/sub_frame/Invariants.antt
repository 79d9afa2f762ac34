use Rattle.std.proofs.Common.{◌≡◌, ℕ, ◌<◌, ◌-◌, length}
use Rattle.fixed_arith.specs.Word.{add_words, mult_r_words}
use Rattle.fixed_arith.specs.Signal.{at}
use Rattle.rpe_ltp.specs.History.{back_at}
use Rattle.rpe_ltp.proofs.long_term.sub_frame.Given as goal

abbrev pub invariant-loop-k : goal.invariant-loop-k
invariant-loop-k l = record {
  size : length l.values ≡ 40;
  done : (j : ℕ) → j < l.k → at l.values j ≡ add_words (at l.pulses j) (mult_r_words l.gain (back_at l.history (l.lag - j)));
}
