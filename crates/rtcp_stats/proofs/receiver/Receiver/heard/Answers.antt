use Rattle.rtcp_stats.specs.Statistics.Event.{Heard}
use Rattle.rtcp_stats.proofs.Events.{events_more}
use Rattle.rtcp_stats.proofs.receiver.Receiver.heard.Goals as goal

pub returns-clause-goes_on : goal.returns-clause-goes_on
returns-clause-goes_on c first es all =
    events_more first es (Heard c.args.ntp c.args.at) _ _ all tt c.keep.ensures
