use Rattle.recorder.proofs.PlayerUnique.{not_both}
use Rattle.recorder.proofs.laws.player_journals_have_no_fault.Goals as goal

pub returns : goal.returns
returns c = not_both
