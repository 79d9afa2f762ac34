use Rattle.std.proofs.Common.{◌≤◌, take}
use Rattle.g711_leg.specs.Legs.{Goes}
use Rattle.g711_leg.proofs.outlet.Out.take.Given as goal

abbrev pub invariant-loop-octet : goal.invariant-loop-octet
invariant-loop-octet g l = record {
  goes : Goes g.A.Sink g.P.Link l.fn.self l.self (take l.octet-index l.from);
  au : g.A.Sink.faults l.fn.self.au ≤ g.A.Sink.faults l.self.au;
  link : g.P.Link.faults l.fn.self.link ≤ g.P.Link.faults l.self.link;
}
