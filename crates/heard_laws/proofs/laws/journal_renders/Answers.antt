use Rattle.heard_laws.proofs.GivenBack.{journal_gives_back}
use Rattle.heard_laws.proofs.laws.journal_renders.Goals as goal

pub returns : goal.returns
returns c = journal_gives_back c.heard_is_one.ensures c.player_journals_have_no_fault.ensures
