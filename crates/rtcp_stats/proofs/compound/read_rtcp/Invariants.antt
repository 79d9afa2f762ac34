use Rattle.std.proofs.Common.{length, ◌-◌}
use Rattle.rtcp_stats.proofs.Faults.{IsLeft}
use Rattle.rtcp_stats.proofs.compound.read_rtcp.Given as goal

abbrev pub invariant-packets : goal.invariant-packets
invariant-packets l = IsLeft l.datagram l.at

abbrev pub decreases-packets : goal.decreases-packets
decreases-packets l = length l.datagram - l.at
