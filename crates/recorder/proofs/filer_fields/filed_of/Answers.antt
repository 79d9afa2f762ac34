use Rattle.std.proofs.Common.{arith}
use Rattle.recorder.proofs.FilerSpelled.{filed_spelled}
use Rattle.recorder.proofs.filer_fields.filed_of.Goals as goal

pub returns-in-Ok-clause-text : goal.returns-in-Ok-clause-text
returns-in-Ok-clause-text c = filed_spelled c.args.fields.now c.in-Ok.frame c.read_u64-number.result (omega arith) (λ i. omega (arith, c.type_inv.fields i)) c.read_u64-number.ensures c.in-Ok.ensures.frame.0
