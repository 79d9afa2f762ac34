use Rattle.std.proofs.Common.{sym, arith}
use Rattle.std.proofs.lemmas.List.{drop_all}
use Rattle.recorder.proofs.filer_read.reply_of.Goals as goal

pub returns-in-34-clause-text : goal.returns-in-34-clause-text
returns-in-34-clause-text c = sym (drop_all 41 c.args.fields.now (c.requires.width (omega arith)))

pub returns-in-35-clause-text : goal.returns-in-35-clause-text
returns-in-35-clause-text c = sym (drop_all 41 c.args.fields.now (c.requires.width (omega arith)))
