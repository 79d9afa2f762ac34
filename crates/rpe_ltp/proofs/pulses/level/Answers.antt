use Rattle.std.proofs.Common.{arith, ◌∙◌, ap, sym}
use Rattle.rpe_ltp.specs.Pulses.{level_of}
use Rattle.rpe_ltp.proofs.PulseLaws.{level_zero, level_one, level_least, level_low, level_middle, level_high}
use Rattle.rpe_ltp.proofs.pulses.level.Goals as goal

pub returns-in-0-clause-level : goal.returns-in-0-clause-level
returns-in-0-clause-level c = level_zero ∙ ap level_of (sym c.in-0.is)

pub returns-in-1-clause-level : goal.returns-in-1-clause-level
returns-in-1-clause-level c = level_one ∙ ap level_of (sym c.in-1.is)

pub returns-in-2-clause-level : goal.returns-in-2-clause-level
returns-in-2-clause-level c = level_least c.args.xmaxc (omega arith) (omega arith)

pub returns-in-4-to-7-clause-level : goal.returns-in-4-to-7-clause-level
returns-in-4-to-7-clause-level c = level_low c.args.xmaxc (omega arith) (omega arith)

pub returns-in-8-to-15-clause-level : goal.returns-in-8-to-15-clause-level
returns-in-8-to-15-clause-level c = level_middle c.args.xmaxc (omega arith) (omega arith)

pub returns-in_default-clause-level : goal.returns-in_default-clause-level
returns-in_default-clause-level c = level_high c.args.xmaxc (omega arith) c.requires
