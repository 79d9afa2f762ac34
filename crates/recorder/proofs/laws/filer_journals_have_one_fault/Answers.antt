use Rattle.recorder.proofs.FilerUnique.{first_is_one}
use Rattle.recorder.proofs.laws.filer_journals_have_one_fault.Goals as goal

pub returns : goal.returns
returns c = first_is_one
