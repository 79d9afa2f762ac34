use Rattle.std.proofs.Common.{refl, ap, ◌∙◌, arith}
use Rattle.g711_leg.specs.Legs.{OutState}
use Rattle.g711_leg.specs.OutLaws.{block_lost, block_sent}
use Rattle.g711_leg.proofs.outlet.Out.send_block.Goals as goal

pub returns-in-Ok-clause-goes : goal.returns-in-Ok-clause-goes
returns-in-Ok-clause-goes g c =
    rw (← c.self.view_is)
    (block_sent g.A.Sink g.P.Link _ _ c.send.result c.args.block.now c.codes_of-codes.result c.packet_of-packet.result
    (ap (λ (s : OutState _ _). s.rest) c.self.view_is ∙ c.requires) (omega (arith, c.told-block)) c.codes_of-codes.ensures c.packet_of-packet.ensures
    c.in-Ok.ensures.given c.send.ensures.sent c.send.ensures.stays refl (ap (λ (s : OutState _ _). s.rest) c.self.view_is ∙ c.requires) refl)

pub returns-in-Err-clause-goes : goal.returns-in-Err-clause-goes
returns-in-Err-clause-goes g c =
    rw (← c.self.view_is)
    (block_lost g.A.Sink g.P.Link _ _ c.args.block.now c.codes_of-codes.result
    (ap (λ (s : OutState _ _). s.rest) c.self.view_is ∙ c.requires) (omega (arith, c.told-block)) c.codes_of-codes.ensures
    c.in-Err.ensures.given refl refl)
