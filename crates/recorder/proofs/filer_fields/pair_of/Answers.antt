use Rattle.std.proofs.Common.{arith}
use Rattle.recorder.proofs.FilerSpelled.{pair_spelled}
use Rattle.recorder.proofs.filer_fields.pair_of.Goals as goal

pub returns-clause-text : goal.returns-clause-text
returns-clause-text c = pair_spelled c.args.fields.now c.read_u32.result c.read_u32-2.result (omega arith) (λ i. omega (arith, c.type_inv.fields i)) c.read_u32.ensures c.read_u32-2.ensures
