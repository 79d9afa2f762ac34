use Rattle.unwrap_ts.proofs.Extended.{only}
use Rattle.unwrap_ts.proofs.laws.only_extended.Goals as goal

pub returns : goal.returns
returns c = only
