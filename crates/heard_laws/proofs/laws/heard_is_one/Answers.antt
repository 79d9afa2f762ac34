use Rattle.heard_laws.proofs.OneHeard.{one_heard}
use Rattle.heard_laws.proofs.laws.heard_is_one.Goals as goal

pub returns : goal.returns
returns c = one_heard c.fields_are_one.ensures
