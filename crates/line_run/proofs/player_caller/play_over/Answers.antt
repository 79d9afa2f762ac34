use Rattle.std.proofs.Common.{◌≡◌, ◌≤◌, ◌⊎◌, inl, inr, ℕ, ap, sym, ◌∙◌, subst}
use Rattle.step_table.specs.Packed.{Where}
use Rattle.slot_ring.specs.Seen.{PassView}
use Rattle.line_run.specs.Seen.{player_seen, sink_seen}
use Rattle.line_run.proofs.Sounded.{played_over}
use Rattle.line_run.proofs.player_caller.play_over.Goals as goal

pub run-end-requires-clause-slots : goal.run-end-requires-clause-slots
run-end-requires-clause-slots g c = go c.player-player.ensures.slots
  where
    go : (c.args.plan.now.options.elastic ≡ 0) ⊎ (1 ≤ c.args.plan.now.options.g) → (c.player-player.result.elastic ≡ 0) ⊎ (1 ≤ c.new-side.result.ring.shape.g)
    go (inl none) = inl (c.player-player.ensures.starts.most_held ∙ none)
    go (inr some) = inr (subst (λ (n : ℕ). 1 ≤ n) (sym (ap (λ (x : PassView). x.ring.shape.g) c.new-side.ensures ∙ (ap (λ (r : Where). r.shape.g) c.requires.ring ∙ c.requires.slots))) some)

pub returns-clause-pass : goal.returns-clause-pass
returns-clause-pass g c =
    let o = c.args.plan.now.options in let e = c.run-end.ensures in let new = c.run-end.new in let k = c.args in
    let sink = sink_seen g.J.Sink in
    let size : c.new-side.result.ring.shape.g ≡ o.g = ap (λ (x : PassView). x.ring.shape.g) c.new-side.ensures ∙ (ap (λ (r : Where). r.shape.g) c.requires.ring ∙ c.requires.slots) in
    (played_over o (player_seen g.C.TickClock g.O.Sink g.I.Source g.P.Link k.clock.now k.speaker.now k.microphone.now k.reply.now) (player_seen g.C.TickClock g.O.Sink g.I.Source g.P.Link new.clock new.speaker new.microphone new.reply)
    (sink k.journal.now) (sink new.journal) k.pass c.new-side.result new.side c.into_pass.result c.player-player.result new.self _ _ _ _ c.run-end.result c.tally.result
    c.new-side.ensures c.into_pass.ensures c.requires.list size c.player-player.ensures.starts (e.told o.seed o.own o.sequence o.stamp o.ticks o.elastic c.player-player.ensures.starts) e.ticks e.within e.ended c.tally.ensures e.open).same

pub returns-clause-played : goal.returns-clause-played
returns-clause-played g c =
    let o = c.args.plan.now.options in let e = c.run-end.ensures in let new = c.run-end.new in let k = c.args in
    let sink = sink_seen g.J.Sink in
    let size : c.new-side.result.ring.shape.g ≡ o.g = ap (λ (x : PassView). x.ring.shape.g) c.new-side.ensures ∙ (ap (λ (r : Where). r.shape.g) c.requires.ring ∙ c.requires.slots) in
    (played_over o (player_seen g.C.TickClock g.O.Sink g.I.Source g.P.Link k.clock.now k.speaker.now k.microphone.now k.reply.now) (player_seen g.C.TickClock g.O.Sink g.I.Source g.P.Link new.clock new.speaker new.microphone new.reply)
    (sink k.journal.now) (sink new.journal) k.pass c.new-side.result new.side c.into_pass.result c.player-player.result new.self _ _ _ _ c.run-end.result c.tally.result
    c.new-side.ensures c.into_pass.ensures c.requires.list size c.player-player.ensures.starts (e.told o.seed o.own o.sequence o.stamp o.ticks o.elastic c.player-player.ensures.starts) e.ticks e.within e.ended c.tally.ensures e.open).played
