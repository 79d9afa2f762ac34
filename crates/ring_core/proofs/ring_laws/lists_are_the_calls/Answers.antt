use Rattle.ring_core.proofs.Closing.{listed_is}
use Rattle.ring_core.proofs.ring_laws.lists_are_the_calls.Goals as goal

pub returns : goal.returns
returns c = listed_is
