use Rattle.std.proofs.Common.{arith, refl}
use Rattle.rpe_ltp.proofs.PulseCodeLaws.{room, level_code_below}
use Rattle.rpe_ltp.proofs.pulse_codes.level_code.Goals as goal

pub overflow_cast-result : goal.overflow_cast-result
overflow_cast-result c = record { fits = omega (arith, level_code_below c.args.top c.digits_of-digits.result c.digits_of-digits.ensures.most c.digits_of-digits.ensures.digits) }

pub returns-clause-fits : goal.returns-clause-fits
returns-clause-fits c = level_code_below c.args.top c.digits_of-digits.result c.digits_of-digits.ensures.most c.digits_of-digits.ensures.digits

pub returns-clause-room : goal.returns-clause-room
returns-clause-room c = room c.args.top _ c.digits_of-digits.result c.requires c.digits_of-digits.ensures.most c.digits_of-digits.ensures.digits refl
