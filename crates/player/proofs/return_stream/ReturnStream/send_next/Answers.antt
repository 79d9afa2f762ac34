use Rattle.std.proofs.Common.{◌≡◌, false, sym, ap, ◌∙◌}
use Rattle.player.specs.Returning.{Stream}
use Rattle.player.proofs.Returned.{was_sent, was_lost}
use Rattle.player.proofs.return_stream.ReturnStream.send_next.Goals as goal

pub returns-in-Ok-clause-returns : goal.returns-in-Ok-clause-returns
returns-in-Ok-clause-returns g c =
    let all = rw c.in-Ok-Some.field-0-is at c.in-Ok-Some.ensures in
    let running : c.args.self.now.ended ≡ false = sym (ap (λ (s : Stream). s.ended) c.self.view_is) ∙ c.if-self.false in
    was_sent c.args.self.now c.next-octets.new.self (g.I.Source.left c.args.microphone.now) (g.I.Source.left c.take_piece.new.source) (g.P.Link.log c.args.reply.now) (g.P.Link.log c.send.new.self)
    c.in-Ok-Some.samples c.next-octets.result running all.piece c.next-octets.ensures.packet c.next-octets.ensures.state c.in-Ok.ensures.sent

pub returns-in-Err-send-clause-returns : goal.returns-in-Err-send-clause-returns
returns-in-Err-send-clause-returns g c =
    let all = rw c.in-Ok-Some.field-0-is at c.in-Ok-Some.ensures in
    let running : c.args.self.now.ended ≡ false = sym (ap (λ (s : Stream). s.ended) c.self.view_is) ∙ c.if-self.false in
    was_lost c.args.self.now c.next-octets.new.self (g.I.Source.left c.args.microphone.now) (g.I.Source.left c.take_piece.new.source) (g.P.Link.log c.args.reply.now) (g.P.Link.log c.send.new.self)
    c.in-Ok-Some.samples c.next-octets.result running all.piece c.next-octets.ensures.packet c.next-octets.ensures.state c.in-Err-send.ensures.sent
