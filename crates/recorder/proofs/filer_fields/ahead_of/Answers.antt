use Rattle.std.proofs.Common.{arith}
use Rattle.recorder.proofs.FilerSpelled.{ahead_spelled}
use Rattle.recorder.proofs.filer_fields.ahead_of.Goals as goal

pub returns-then-passes-clause-text : goal.returns-then-passes-clause-text
returns-then-passes-clause-text c = (ahead_spelled c.args.fields.now c.read_u64-ahead.result (omega arith) (λ i. omega (arith, c.type_inv.fields i)) c.read_u64-ahead.ensures, omega arith)
