use Rattle.recorder.proofs.Unique.{first_is_one}
use Rattle.recorder.proofs.laws.scripts_have_one_fault.Goals as goal

pub returns : goal.returns
returns c = first_is_one
