use Rattle.heard_laws.proofs.RunGivesBack.{run_gives_back}
use Rattle.heard_laws.proofs.laws.run_renders.Goals as goal

pub returns : goal.returns
returns c = run_gives_back c.journal_renders.ensures
