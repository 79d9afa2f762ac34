use Rattle.g711_leg.proofs.LevelLaws.{about_a_high, about_a_low, about_mu}
use Rattle.g711_leg.proofs.compressing.level_about.Goals as goal

pub returns-in-Mu : goal.returns-in-Mu
returns-in-Mu c = rw c.in-Mu.is (about_mu c.args.size c.raised_level.result c.raised_level.ensures.about)

pub returns-in-A : goal.returns-in-A
returns-in-A c = rw c.in-A.is (about_a_low c.args.size c.if-size-lt256.true)

pub returns-in-A-2 : goal.returns-in-A-2
returns-in-A-2 c =
    let r = c.raised_level-in-A-2.ensures in
    rw c.in-A-2.is (about_a_high c.args.size _ r.about (r.lowest c.if-size-lt256.false))
