use Rattle.std.proofs.Common.{arith}
use Rattle.recorder.proofs.Taken.{fewer_none}
use Rattle.recorder.proofs.filer_reader.FilerReader.head.Goals as goal

pub returns-in-Some-Refused-clause-part : goal.returns-in-Some-Refused-clause-part
returns-in-Some-Refused-clause-part g c = fewer_none 14 (g.I.Source.left c.args.source.now) (omega arith)
