use Rattle.filer.proofs.Places.{rtcp_within}
use Rattle.filer.proofs.filer.Filer.take_rtcp.Goals as goal

pub returns-in-Err-clause-fits : goal.returns-in-Err-clause-fits
returns-in-Err-clause-fits c = rtcp_within c.args.datagram.now c.in-Err.fault c.requires c.in-Err.ensures.fault
