use Rattle.recorder.proofs.Unique.{not_both}
use Rattle.recorder.proofs.laws.scripts_have_no_fault.Goals as goal

pub returns : goal.returns
returns c = not_both
