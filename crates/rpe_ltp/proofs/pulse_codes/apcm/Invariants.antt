use Rattle.std.proofs.Common.{◌≡◌, ℕ, ◌<◌, pos, length, slice_index}
use Rattle.fixed_arith.specs.Signal.{at}
use Rattle.rpe_ltp.specs.Pulses.{level_of}
use Rattle.rpe_ltp.specs.PulseCodes.{pulse_code}
use Rattle.rpe_ltp.proofs.pulse_codes.apcm.Given as goal

abbrev pub invariant-loop-i : goal.invariant-loop-i
invariant-loop-i l = record {
  size : length l.xmc ≡ 13;
  done : (j : ℕ) → j < l.i → pos (slice_index l.xmc j) ≡ pulse_code (level_of l.xmaxc) (at l.xm j);
  small : (j : ℕ) → j < l.i → slice_index l.xmc j < 8;
}
