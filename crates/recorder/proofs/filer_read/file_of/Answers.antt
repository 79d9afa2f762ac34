use Rattle.recorder.specs.Filing.{reply_fault}
use Rattle.recorder.proofs.FilerSpelled.{file_spelled}
use Rattle.recorder.proofs.filer_read.file_of.Goals as goal

pub returns-in-Ok-reply_of-clause-text : goal.returns-in-Ok-reply_of-clause-text
returns-in-Ok-reply_of-clause-text c = file_spelled c.args.fields.now c.in-Ok.filed.1 c.in-Ok.filed.0 c.args.kind c.in-Ok-reply_of.reply c.in-Ok.ensures.text c.in-Ok-reply_of.ensures.kind c.in-Ok-reply_of.ensures.text

pub returns-in-Err-clause-fault : goal.returns-in-Err-clause-fault
returns-in-Err-clause-fault c = c.in-Err.ensures.fault (reply_fault c.args.kind c.args.from c.args.fields.now)
