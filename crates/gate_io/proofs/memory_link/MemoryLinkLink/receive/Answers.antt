use Rattle.std.proofs.Common.{Some, sym, subst}
use Rattle.gate_io.specs.Links.{Receives}
use Rattle.gate_io.specs.LinkScript.{LinkState, after_first, log_of}
use Rattle.gate_io.proofs.Links.{received_is}
use Rattle.gate_io.proofs.memory_link.MemoryLinkLink.receive.Goals as goal

pub returns-clause-received : goal.returns-clause-received
returns-clause-received c =
    rw (c.answer_next.ensures.answer, c.answer_next.ensures.state) (received_is c.args.self.now c.args.self.now.left c.answer_next.new.into c.answer_next.ensures.octets)
