use Rattle.std.proofs.Common.{arith}
use Rattle.player.proofs.Streaming.{Streams-start}
use Rattle.player.proofs.return_stream.ReturnStream.new.Goals as goal

pub returns-clause-start : goal.returns-clause-start
returns-clause-start c = Streams-start c.args.own c.args.sequence c.args.stamp c.new.result (omega (arith, c.ranges.sequence.fits)) (omega (arith, c.ranges.stamp.fits)) c.new.ensures
