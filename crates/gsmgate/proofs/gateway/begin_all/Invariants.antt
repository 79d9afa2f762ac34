use Rattle.std.proofs.Common.{◌≡◌}
use Rattle.gate_os.specs.Edges.{nanos_of}
use Rattle.gsmgate.specs.Gateway.{begun_at}
use Rattle.gsmgate.proofs.Opening.{mapped}
use Rattle.gsmgate.proofs.gateway.begin_all.Given as goal

abbrev pub invariant-loop-link : goal.invariant-loop-link
invariant-loop-link g l = l.link-items ≡ mapped (begun_at (nanos_of l.start)) l.link-index l.fn.links.items
