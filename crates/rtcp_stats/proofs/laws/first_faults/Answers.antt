use Rattle.rtcp_stats.proofs.Faults.{judged}
use Rattle.rtcp_stats.proofs.laws.first_faults.Goals as goal

pub returns : goal.returns
returns c = judged
