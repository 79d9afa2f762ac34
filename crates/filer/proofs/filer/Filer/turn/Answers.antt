use Rattle.std.proofs.Common.{take}
use Rattle.filer.specs.Turns.{standing}
use Rattle.filer.proofs.Turning.{turned-by}
use Rattle.filer.proofs.filer.Filer.turn.Goals as goal

pub returns-in-Ok-Datagram-clause-turned : goal.returns-in-Ok-Datagram-clause-turned
returns-in-Ok-Datagram-clause-turned g c =
    let came = rw c.in-Ok-Datagram.field-0-is at c.in-Ok-Datagram.ensures.received in
    turned-by g.S.FilerSide.did
    (standing c.args.self.now c.args.side.now (g.P.Link.log c.args.link.now) (g.J.Sink.given c.args.journal.now))
    (standing c.take_in.new.self c.take_in.new.side (g.P.Link.log c.take_in.new.link) (g.J.Sink.given c.take_in.new.journal))
    (g.P.Link.log c.receive.new.self) (take c.in-Ok-Datagram.len c.receive.new.into) c.in-Ok-Datagram.at c.take_in.result came c.take_in.ensures.took
