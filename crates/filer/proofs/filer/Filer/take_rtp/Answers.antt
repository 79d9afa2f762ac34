use Rattle.std.proofs.Common.{◌∙◌, ap, subst}
use Rattle.playout.specs.History.{Chained}
use Rattle.filer.specs.Takes.{Step, replies_of}
use Rattle.filer.proofs.Cases.{admitted_is}
use Rattle.filer.proofs.filer.Filer.take_rtp.Goals as goal

pub returns-in-Ok-2-clause-outcome : goal.returns-in-Ok-2-clause-outcome
returns-in-Ok-2-clause-outcome g c =
    c.admit.ensures.outcome
    ∙ ap (λ (s : Step). s.outcome)
    (admitted_is c.args.self.now c.args.datagram.now c.in-Ok.view c.args.at (replies_of c.admit.result) c.in-Ok.ensures.fault (λ e. c.if-count-eq0.false (c.count.ensures.count ∙ e)) c.in-Ok.ensures.packet)

pub returns-in-Ok-2-clause-after : goal.returns-in-Ok-2-clause-after
returns-in-Ok-2-clause-after g c =
    c.admit.ensures.after
    ∙ ap (λ (s : Step). s.after)
    (admitted_is c.args.self.now c.args.datagram.now c.in-Ok.view c.args.at (replies_of c.admit.result) c.in-Ok.ensures.fault (λ e. c.if-count-eq0.false (c.count.ensures.count ∙ e)) c.in-Ok.ensures.packet)

pub returns-in-Ok-2-clause-calls : goal.returns-in-Ok-2-clause-calls
returns-in-Ok-2-clause-calls g c =
    subst (λ (s : Step). Chained g.S.FilerSide.did c.args.side.now s.calls c.admit.new.side)
    (admitted_is c.args.self.now c.args.datagram.now c.in-Ok.view c.args.at (replies_of c.admit.result) c.in-Ok.ensures.fault (λ e. c.if-count-eq0.false (c.count.ensures.count ∙ e)) c.in-Ok.ensures.packet)
    c.admit.ensures.calls
