use Rattle.std.proofs.Common.{arith}
use Rattle.recorder.proofs.Taken.{none_again}
use Rattle.recorder.proofs.filer_reader.FilerReader.next.Goals as goal

pub returns-in-Some-clause-part : goal.returns-in-Some-clause-part
returns-in-Some-clause-part g c = none_again c.answer_again.result 51 (g.I.Source.left c.args.source.now) (omega arith)
