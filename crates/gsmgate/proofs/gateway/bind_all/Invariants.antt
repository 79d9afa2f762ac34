use Rattle.gate_os.specs.Edges.{lasting}
use Rattle.gsmgate.specs.Gateway.{AreFresh}
use Rattle.gsmgate.proofs.gateway.bind_all.Given as goal

abbrev pub invariant-loop-here : goal.invariant-loop-here
invariant-loop-here g l = AreFresh (lasting l.fn.places.ticks) l.here-index l.links.items
