use Rattle.std.proofs.Common.{arith}
use Rattle.player.proofs.Samples.{octets_again}
use Rattle.player.proofs.pieces.samples_of.Goals as goal

pub returns : goal.returns
returns c = octets_again c.args.octets.now c.read_i16_into.new.dst (omega (arith, c.told-octets)) c.fits-octets c.read_i16_into.ensures
