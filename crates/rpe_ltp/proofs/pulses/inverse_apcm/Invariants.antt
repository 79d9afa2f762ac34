use Rattle.std.proofs.Common.{◌≡◌, ℕ, ◌<◌, pos, get_or, length}
use Rattle.rpe_ltp.specs.Pulses.{level_of, pulse_of}
use Rattle.rpe_ltp.proofs.pulses.inverse_apcm.Given as goal

abbrev pub invariant-loop-i : goal.invariant-loop-i
invariant-loop-i l = record {
  size : length l.values ≡ 13;
  done : (j : ℕ) → j < l.i → get_or l.values j (pos 0) ≡ pulse_of (level_of l.xmaxc) (get_or l.xmc j 0);
}
