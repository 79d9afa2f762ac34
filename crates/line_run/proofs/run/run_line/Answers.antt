use Rattle.std.proofs.Common.{◌≡◌, ◌+◌, ℕ, sym, ap, ◌∙◌}
use Rattle.line_run.specs.Opening.{LineSeen}
use Rattle.line_run.specs.Seen.{link_seen, player_seen, sink_seen}
use Rattle.line_run.proofs.Completed.{completed}
use Rattle.line_run.proofs.OneHistory.{all_kin, line_told, still_numbered}
use Rattle.line_run.proofs.run.run_line.Goals as goal

pub end_line-requires-clause-callers : goal.end_line-requires-clause-callers
end_line-requires-clause-callers g c =
    let l = c.line.inside.plan in let inv = c.line.invariant in let filers : c.args.line.filers ≡ l.filers = ap (λ (x : LineSeen). x.filers) (sym c.line.view_is) in
    still_numbered l c.line.inside.ring (link_seen g.P.Link) (sink_seen g.J.Sink) g.J.Sink.kin c.line.inside.callers.items c.args.links.now.items c.args.journals.now.items _
    c.run_all.new.callers.items c.run_all.new.links.items c.run_all.new.journals.items _ c.run_all.new.player inv.0 inv.1 (c.requires.links ∙ filers) (c.requires.journals ∙ ap (λ (n : ℕ). 1 + n) filers) c.run_all.ensures.ran

pub returns-clause-ran : goal.returns-clause-ran
returns-clause-ran g c =
    let l = c.line.inside.plan in let inv = c.line.invariant in let filers : c.args.line.filers ≡ l.filers = ap (λ (x : LineSeen). x.filers) (sym c.line.view_is) in
    let k = c.args in let new = c.run_all.new in let e = c.end_line.ensures in let r = c.end_line.result in
    let link = link_seen g.P.Link in let sink = sink_seen g.J.Sink in
    let a = player_seen g.C.TickClock g.O.Sink g.I.Source g.P.Link k.clock.now k.speaker.now k.microphone.now k.reply.now in let b = player_seen g.C.TickClock g.O.Sink g.I.Source g.P.Link new.clock new.speaker new.microphone new.reply in
    let ps = k.links.now.items in let js = k.journals.now.items in
    let ran = line_told l c.line.inside.ring link sink g.J.Sink.kin c.line.inside.callers.items ps js a new.callers.items new.links.items new.journals.items b new.player
    inv.0 inv.1 (c.requires.links ∙ filers) (c.requires.journals ∙ ap (λ (n : ℕ). 1 + n) filers) c.run_all.ensures.ran k.line r.player r.played r.filers r.left c.line.view_is e.player inv.4 inv.5 e.filers e.lists e.history in
    ran

pub returns-clause-complete : goal.returns-clause-complete
returns-clause-complete g c =
    let l = c.line.inside.plan in let inv = c.line.invariant in let filers : c.args.line.filers ≡ l.filers = ap (λ (x : LineSeen). x.filers) (sym c.line.view_is) in
    let k = c.args in let new = c.run_all.new in let e = c.end_line.ensures in let r = c.end_line.result in
    let link = link_seen g.P.Link in let sink = sink_seen g.J.Sink in
    let a = player_seen g.C.TickClock g.O.Sink g.I.Source g.P.Link k.clock.now k.speaker.now k.microphone.now k.reply.now in let b = player_seen g.C.TickClock g.O.Sink g.I.Source g.P.Link new.clock new.speaker new.microphone new.reply in
    let ps = k.links.now.items in let js = k.journals.now.items in
    let ran = line_told l c.line.inside.ring link sink g.J.Sink.kin c.line.inside.callers.items ps js a new.callers.items new.links.items new.journals.items b new.player
    inv.0 inv.1 (c.requires.links ∙ filers) (c.requires.journals ∙ ap (λ (n : ℕ). 1 + n) filers) c.run_all.ensures.ran k.line r.player r.played r.filers r.left c.line.view_is e.player inv.4 inv.5 e.filers e.lists e.history in
    completed k.line link sink ps js new.links.items new.journals.items a b r.player r.played r.filers r.left ran c.requires.links c.requires.journals

pub returns-clause-journals_kin : goal.returns-clause-journals_kin
returns-clause-journals_kin g c =
    let l = c.line.inside.plan in let inv = c.line.invariant in let filers : c.args.line.filers ≡ l.filers = ap (λ (x : LineSeen). x.filers) (sym c.line.view_is) in
    all_kin l c.line.inside.ring (link_seen g.P.Link) (sink_seen g.J.Sink) g.J.Sink.kin c.line.inside.callers.items c.args.links.now.items c.args.journals.now.items _
    c.run_all.new.callers.items c.run_all.new.links.items c.run_all.new.journals.items _ c.run_all.new.player inv.0 inv.1 (c.requires.links ∙ filers) (c.requires.journals ∙ ap (λ (n : ℕ). 1 + n) filers) c.run_all.ensures.ran
