use Rattle.rtcp_stats.specs.Statistics.Event.{Reported}
use Rattle.rtcp_stats.proofs.Events.{events_more}
use Rattle.rtcp_stats.proofs.receiver.Receiver.report.Goals as goal

pub returns-clause-goes_on : goal.returns-clause-goes_on
returns-clause-goes_on c first es all =
    events_more first es (Reported c.args.ssrc c.args.at c.take_block.result) _ _ all c.take_block.ensures.block c.take_block.ensures.taken
