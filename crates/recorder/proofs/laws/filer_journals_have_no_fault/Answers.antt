use Rattle.recorder.proofs.FilerUnique.{not_both}
use Rattle.recorder.proofs.laws.filer_journals_have_no_fault.Goals as goal

pub returns : goal.returns
returns c = not_both
