use Rattle.std.proofs.Common.{arith}
use Rattle.rpe_ltp.proofs.PulseLaws.{half_is}
use Rattle.rpe_ltp.proofs.pulses.half.Goals as goal

pub returns-else-shift-eq0 : goal.returns-else-shift-eq0
returns-else-shift-eq0 c = half_is c.args.shift (omega arith) c.requires
