use Rattle.std.proofs.Common.{arith}
use Rattle.g711_leg.proofs.SampleLaws.{samples_read}
use Rattle.g711_leg.proofs.codes.samples_of.Goals as goal

pub returns : goal.returns
returns c = samples_read c.args.block.now c.read_i16_into.new.dst (omega (arith, c.told-block)) c.read_i16_into.ensures
