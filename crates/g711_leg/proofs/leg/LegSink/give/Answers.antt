use Rattle.g711_leg.specs.LegLaws.{cause_of_sum, kin_by_give}
use Rattle.g711_leg.proofs.leg.LegSink.give.Goals as goal

pub returns-clause-kin : goal.returns-clause-kin
returns-clause-kin g c =
    let e = c.give_on.ensures in
    kin_by_give g.O.Sink g.A.Sink g.P.Link c.args.self.now c.give_on.new.self c.give_on.result c.args.from.now e.called e.ready e.start e.given e.goes e.later e.failed

pub returns-clause-cause : goal.returns-clause-cause
returns-clause-cause g c =
    let e = c.give_on.ensures in
    cause_of_sum g.O.Sink g.A.Sink g.P.Link c.args.self.now c.give_on.new.self c.give_on.result e.later e.failed
