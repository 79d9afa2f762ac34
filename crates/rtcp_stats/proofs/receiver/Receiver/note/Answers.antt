use Rattle.rtcp_stats.specs.Statistics.Event.{Noted}
use Rattle.rtcp_stats.proofs.Events.{events_more}
use Rattle.rtcp_stats.proofs.receiver.Receiver.note.Goals as goal

pub returns-clause-goes_on : goal.returns-clause-goes_on
returns-clause-goes_on c first es all =
    events_more first es (Noted c.args.sequence c.args.timestamp c.args.at c.count.result) _ _ all c.count.ensures.valid c.count.ensures.noted
