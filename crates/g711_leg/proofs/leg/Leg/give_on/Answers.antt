use Rattle.g711_leg.specs.LegLaws.{given_whole}
use Rattle.g711_leg.proofs.leg.Leg.give_on.Goals as goal

pub returns-then-self-clause-given : goal.returns-then-self-clause-given
returns-then-self-clause-given g c =
    rw (← c.self.view_is) (given_whole (g.O.Sink.given c.self.inside.speaker) (g.O.Sink.given c.give.new.self) c.take.result c.args.from.now c.in-Ok.ensures.given)
