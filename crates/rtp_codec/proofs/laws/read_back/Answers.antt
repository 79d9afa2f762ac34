use Rattle.rtp_codec.proofs.Written.{written_is_read}
use Rattle.rtp_codec.proofs.laws.read_back.Goals as goal

pub returns : goal.returns
returns c = written_is_read
