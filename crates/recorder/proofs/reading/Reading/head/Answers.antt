use Rattle.std.proofs.Common.{arith}
use Rattle.recorder.proofs.Taken.{fewer_none}
use Rattle.recorder.proofs.reading.Reading.head.Goals as goal

pub returns-in-Some-Refused-clause-part : goal.returns-in-Some-Refused-clause-part
returns-in-Some-Refused-clause-part g c = fewer_none 13 (g.I.Source.left c.args.source.now) (omega arith)
