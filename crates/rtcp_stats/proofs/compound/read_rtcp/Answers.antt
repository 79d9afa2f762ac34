use Rattle.std.proofs.Common.{sym, ◌∙◌}
use Rattle.rtcp_stats.proofs.Faults.{at_the_start, fault_here, ends_here, goes_on, has_reports}
use Rattle.rtcp_stats.proofs.compound.read_rtcp.Goals as goal

pub packets-init : goal.packets-init
packets-init c = at_the_start _ c.if-datagram-ge2048.false

pub returns-in-Err-clause-fault : goal.returns-in-Err-clause-fault
returns-in-Err-clause-fault c = fault_here _ c.packets.at _ c.packets.invariant c.in-Err.ensures.end

pub of-requires : goal.of-requires
of-requires c =
    has_reports _ c.if-datagram-ge2048.false
    (ends_here _ c.packets.at c.packets.invariant c.in-Ok.ensures.end.0 (sym c.in-Ok.ensures.end.1 ∙ c.if-end-datagram.true))

pub returns-in-Ok-clause-fault : goal.returns-in-Ok-clause-fault
returns-in-Ok-clause-fault c =
    ends_here _ c.packets.at c.packets.invariant c.in-Ok.ensures.end.0 (sym c.in-Ok.ensures.end.1 ∙ c.if-end-datagram.true)

pub packets-preserved : goal.packets-preserved
packets-preserved c =
    goes_on _ c.packets.at c.in-Ok.end c.packets.invariant c.in-Ok.ensures.end.0 c.in-Ok.ensures.end.1 c.in-Ok.ensures.rises c.in-Ok.ensures.within c.if-end-datagram.false
