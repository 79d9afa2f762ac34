use Rattle.std.proofs.Common.{◌≡◌, ap, arith, length}
use Rattle.replay_check.specs.Lists.{Recording}
use Rattle.replay_check.proofs.Recordings.{as-long, count-filer, list-player, plays-many}
use Rattle.replay_check.proofs.recorded.Recorded.count.Goals as goal

pub index-requires : goal.index-requires
index-requires c =
    let long = as-long c.self.inside.filers.now c.self.inside.places.items c.self.invariant.calls in
    omega (arith, long, c.if-who-self.true, c.self.inside.places.ok.0)

pub returns-then-who-self : goal.returns-then-who-self
returns-then-who-self c =
    let many = count-filer c.self.inside.filers.now c.self.inside.places.items c.self.inside.player.now c.args.who c.index.result.now c.self.invariant.calls c.if-who-self.true c.index.ensures in
    rw (← c.self.view_is) (omega (arith, many, c.len.ensures, c.index.result.now.ok.0))

pub returns-else-who-self : goal.returns-else-who-self
returns-else-who-self c =
    let here : c.args.who ≡ length c.self.inside.filers.now = omega (arith, c.if-who-self.false, c.requires, ap (λ (r : Recording). length r.filers) c.self.view_is) in
    rw (← c.self.view_is, here, list-player c.self.inside.filers.now c.self.inside.player.now, plays-many c.self.inside.player.now.events) c.len-else-who-self.ensures.value
