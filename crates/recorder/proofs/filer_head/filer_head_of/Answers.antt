use Rattle.std.proofs.Common.{arith}
use Rattle.recorder.specs.Heads.{head_text, filer_magic}
use Rattle.recorder.proofs.FilerSpelled.{head_whole}
use Rattle.recorder.proofs.filer_head.filer_head_of.Goals as goal

pub returns-clause-text : goal.returns-clause-text
returns-clause-text c = head_whole c.args.octets.now (head_text filer_magic c.in-Ok.head) c.min.result (omega arith) (omega arith) c.in-Ok.ensures.text
