use Rattle.std.proofs.Common.{◌<◌, ◌∙◌, ap, sym, arith, length, List, drop}
use Rattle.playout.specs.declared.call.Call.{Call}
use Rattle.replay_check.specs.Lists.{Recording, first_of}
use Rattle.replay_check.proofs.Places.{first-past}
use Rattle.replay_check.proofs.Recordings.{as-long, calls_at, call_at-found, call_at-is, count-filer, list-filer, place-within}
use Rattle.replay_check.proofs.recorded.Recorded.filed.Goals as goal

pub index-places-requires : goal.index-places-requires
index-places-requires c =
    let long = as-long c.self.inside.filers.now c.self.inside.places.items c.self.invariant.calls in
    omega (arith, long, c.requires, c.self.inside.places.ok.0, ap (λ (r : Recording). length r.filers) c.self.view_is)

pub get-requires : goal.get-requires
get-requires c =
    let below : c.args.who < length c.self.inside.filers.now = omega (arith, c.requires, ap (λ (r : Recording). length r.filers) c.self.view_is) in
    let are = calls_at c.self.inside.filers.now c.self.inside.places.items c.args.who c.index-self-who.result c.index-places.result.now c.self.invariant.calls below c.index-self-who.is c.index-places.ensures in
    let there : c.args.place < length c.index-places.result.now.items = omega (arith, c.if-place-len.true, c.len.ensures, c.index-places.result.now.ok.0) in
    rw (← c.index-self-who.is) (place-within c.index-self-who.result.events c.index-places.result.now.items c.args.place c.index.result.now are there c.index.ensures)

pub returns-then-place-len : goal.returns-then-place-len
returns-then-place-len c =
    let below : c.args.who < length c.self.inside.filers.now = omega (arith, c.requires, ap (λ (r : Recording). length r.filers) c.self.view_is) in
    let are = calls_at c.self.inside.filers.now c.self.inside.places.items c.args.who c.index-self-who.result c.index-places.result.now c.self.invariant.calls below c.index-self-who.is c.index-places.ensures in
    let there : c.args.place < length c.index-places.result.now.items = omega (arith, c.if-place-len.true, c.len.ensures, c.index-places.result.now.ok.0) in
    let within = place-within c.index-self-who.result.events c.index-places.result.now.items c.args.place c.index.result.now are there c.index.ensures in
    rw (← c.self.view_is)
    (c.call_of.ensures
    ∙ sym (call_at-is c.index-self-who.result.events c.index.result.now c.get.result.now within (rw (← c.index-self-who.is) at c.get.ensures.value))
    ∙ call_at-found c.index-self-who.result.events c.index-places.result.now.items _ c.args.place c.index.result.now are there c.index.ensures
    ∙ ap (λ (l : List Call). first_of (drop c.args.place l)) (sym (list-filer c.self.inside.filers.now c.self.inside.player.now c.args.who c.index-self-who.result below c.index-self-who.is)))

pub returns-else-place-len : goal.returns-else-place-len
returns-else-place-len c =
    let below : c.args.who < length c.self.inside.filers.now = omega (arith, c.requires, ap (λ (r : Recording). length r.filers) c.self.view_is) in
    let many = count-filer c.self.inside.filers.now c.self.inside.places.items c.self.inside.player.now c.args.who c.index-places.result.now c.self.invariant.calls below c.index-places.ensures in
    rw (← c.self.view_is) (first-past _ c.args.place (omega (arith, many, c.if-place-len.false, c.len.ensures, c.index-places.result.now.ok.0)))
