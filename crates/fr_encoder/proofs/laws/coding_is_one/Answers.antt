use Rattle.fr_encoder.proofs.OneCoding.{one_coding}
use Rattle.fr_encoder.proofs.laws.coding_is_one.Goals as goal

pub returns : goal.returns
returns c = one_coding
