use Rattle.std.proofs.Common.{◌≡◌, ◌⊎◌, inl, inr, ◌+◌, map, length, Some, None, arith}
use Rattle.std.specs.Io.KnownBytes.{Appends}
use Rattle.gate_base.specs.Faults.{Rose}
use Rattle.line_run.specs.declared.line_end.LineEnd.{LineEnd}
use Rattle.line_run.specs.Seen.{link_seen, player_seen, sink_seen}
use Rattle.serve_runs.specs.Serve.{serve_lines}
use Rattle.gate_notes.specs.Exchange.{SomeRose}
use Rattle.serve_runs.proofs.ServeCauses.{comes, done-alone, link-cause, neither, read-cause, write-cause}
use Rattle.serve_runs.proofs.serve.run_serve.Goals as goal

some-none : (e : LineEnd) → Some e ≡ None → ⊥
some-none e h = cc

pub returns-clause-usage : goal.returns-clause-usage
returns-clause-usage g c = λ is.
    let e = c.run_line-end.result in
    absurd ((neither e.player e.filers c.finish-status.result (comes e.player e.filers c.finish-status.result (Appends (g.E.Sink.given c.args.notes.now) (g.E.Sink.given c.finish-status.new.notes) (serve_lines e.played e.filers)) c.finish-status.ensures.status)).0 is)

pub returns-clause-no_end : goal.returns-clause-no_end
returns-clause-no_end g c =
    let e = c.run_line-end.result in
    let n = neither e.player e.filers c.finish-status.result (comes e.player e.filers c.finish-status.result (Appends (g.E.Sink.given c.args.notes.now) (g.E.Sink.given c.finish-status.new.notes) (serve_lines e.played e.filers)) c.finish-status.ensures.status) in (
      λ h. absurd (some-none e h),
      λ h. elim h [
        | inl u ↦ absurd (n.0 u)
        | inr o ↦ absurd (n.1 o)
      ],
    )

pub returns-clause-refused : goal.returns-clause-refused
returns-clause-refused g c = λ is.
    let e = c.run_line-end.result in
    absurd ((neither e.player e.filers c.finish-status.result (comes e.player e.filers c.finish-status.result (Appends (g.E.Sink.given c.args.notes.now) (g.E.Sink.given c.finish-status.new.notes) (serve_lines e.played e.filers)) c.finish-status.ensures.status)).0 is)

pub returns-clause-starved : goal.returns-clause-starved
returns-clause-starved g c = λ is.
    let e = c.run_line-end.result in
    absurd ((neither e.player e.filers c.finish-status.result (comes e.player e.filers c.finish-status.result (Appends (g.E.Sink.given c.args.notes.now) (g.E.Sink.given c.finish-status.new.notes) (serve_lines e.played e.filers)) c.finish-status.ensures.status)).1 is)

pub returns-clause-read : goal.returns-clause-read
returns-clause-read g c = λ is.
    let e = c.run_line-end.result in
    let how = comes e.player e.filers c.finish-status.result (Appends (g.E.Sink.given c.args.notes.now) (g.E.Sink.given c.finish-status.new.notes) (serve_lines e.played e.filers)) c.finish-status.ensures.status in
    let a = player_seen g.C.TickClock g.O.Sink g.I.Source g.P.Link c.args.clock.now c.args.speaker.now c.args.microphone.now c.args.reply.now in
    let b = player_seen g.C.TickClock g.O.Sink g.I.Source g.P.Link c.run_line-end.new.clock c.run_line-end.new.speaker c.run_line-end.new.microphone c.run_line-end.new.reply in
    let opened = c.in-Ok.ensures.opened in
    let many : length c.args.links.now.items ≡ c.in-Ok.line.filers = omega (arith, opened.2, opened.4, c.len.ensures) in
    let more : length c.args.journals.now.items ≡ 1 + c.in-Ok.line.filers = omega (arith, opened.2, opened.4, opened.5, c.len-2.ensures) in
    read-cause c.in-Ok.line (link_seen g.P.Link) (sink_seen g.J.Sink) c.args.links.now.items c.args.journals.now.items c.run_line-end.new.links.items c.run_line-end.new.journals.items a b e.player e.played e.filers e.left c.run_line-end.ensures.ran many more c.finish-status.result how is

pub returns-clause-write : goal.returns-clause-write
returns-clause-write g c = λ is.
    let e = c.run_line-end.result in
    let how = comes e.player e.filers c.finish-status.result (Appends (g.E.Sink.given c.args.notes.now) (g.E.Sink.given c.finish-status.new.notes) (serve_lines e.played e.filers)) c.finish-status.ensures.status in
    let a = player_seen g.C.TickClock g.O.Sink g.I.Source g.P.Link c.args.clock.now c.args.speaker.now c.args.microphone.now c.args.reply.now in
    let b = player_seen g.C.TickClock g.O.Sink g.I.Source g.P.Link c.run_line-end.new.clock c.run_line-end.new.speaker c.run_line-end.new.microphone c.run_line-end.new.reply in
    let opened = c.in-Ok.ensures.opened in
    let many : length c.args.links.now.items ≡ c.in-Ok.line.filers = omega (arith, opened.2, opened.4, c.len.ensures) in
    let more : length c.args.journals.now.items ≡ 1 + c.in-Ok.line.filers = omega (arith, opened.2, opened.4, opened.5, c.len-2.ensures) in
    write-cause c.in-Ok.line (link_seen g.P.Link) (sink_seen g.J.Sink) c.args.links.now.items c.args.journals.now.items c.run_line-end.new.links.items c.run_line-end.new.journals.items a b e.player e.played e.filers e.left c.run_line-end.ensures.ran many more (Rose (g.E.Sink.faults c.args.notes.now) (g.E.Sink.faults c.finish-status.new.notes)) c.finish-status.result how c.finish-status.ensures.cause is

pub returns-clause-link : goal.returns-clause-link
returns-clause-link g c = λ is.
    let e = c.run_line-end.result in
    let how = comes e.player e.filers c.finish-status.result (Appends (g.E.Sink.given c.args.notes.now) (g.E.Sink.given c.finish-status.new.notes) (serve_lines e.played e.filers)) c.finish-status.ensures.status in
    let a = player_seen g.C.TickClock g.O.Sink g.I.Source g.P.Link c.args.clock.now c.args.speaker.now c.args.microphone.now c.args.reply.now in
    let b = player_seen g.C.TickClock g.O.Sink g.I.Source g.P.Link c.run_line-end.new.clock c.run_line-end.new.speaker c.run_line-end.new.microphone c.run_line-end.new.reply in
    let opened = c.in-Ok.ensures.opened in
    let many : length c.args.links.now.items ≡ c.in-Ok.line.filers = omega (arith, opened.2, opened.4, c.len.ensures) in
    let more : length c.args.journals.now.items ≡ 1 + c.in-Ok.line.filers = omega (arith, opened.2, opened.4, opened.5, c.len-2.ensures) in
    link-cause c.in-Ok.line (link_seen g.P.Link) (sink_seen g.J.Sink) c.args.links.now.items c.args.journals.now.items c.run_line-end.new.links.items c.run_line-end.new.journals.items a b e.player e.played e.filers e.left c.run_line-end.ensures.ran many more c.finish-status.result how is

pub returns-clause-complete : goal.returns-clause-complete
returns-clause-complete g c = λ fits none.
    let e = c.run_line-end.result in
    let how = comes e.player e.filers c.finish-status.result (Appends (g.E.Sink.given c.args.notes.now) (g.E.Sink.given c.finish-status.new.notes) (serve_lines e.played e.filers)) c.finish-status.ensures.status in
    let a = player_seen g.C.TickClock g.O.Sink g.I.Source g.P.Link c.args.clock.now c.args.speaker.now c.args.microphone.now c.args.reply.now in
    let b = player_seen g.C.TickClock g.O.Sink g.I.Source g.P.Link c.run_line-end.new.clock c.run_line-end.new.speaker c.run_line-end.new.microphone c.run_line-end.new.reply in
    let opened = c.in-Ok.ensures.opened in
    let many : length c.args.links.now.items ≡ c.in-Ok.line.filers = omega (arith, opened.2, opened.4, c.len.ensures) in
    let more : length c.args.journals.now.items ≡ 1 + c.in-Ok.line.filers = omega (arith, opened.2, opened.4, opened.5, c.len-2.ensures) in
    let failed = Rose (g.I.Source.faults c.args.microphone.now) (g.I.Source.faults c.run_line-end.new.microphone) ⊎ Rose (g.O.Sink.faults c.args.speaker.now) (g.O.Sink.faults c.run_line-end.new.speaker)
    ⊎ SomeRose (map g.J.Sink.faults c.args.journals.now.items) (map g.J.Sink.faults c.run_line-end.new.journals.items) ⊎ Rose (g.E.Sink.faults c.args.notes.now) (g.E.Sink.faults c.finish-status.new.notes)
    ⊎ SomeRose (map g.P.Link.faults c.args.links.now.items) (map g.P.Link.faults c.run_line-end.new.links.items) ⊎ Rose (g.P.Link.faults c.args.reply.now) (g.P.Link.faults c.run_line-end.new.reply) in
    inl (done-alone e.player e.filers c.finish-status.result failed how
    (λ is. inl (read-cause c.in-Ok.line (link_seen g.P.Link) (sink_seen g.J.Sink) c.args.links.now.items c.args.journals.now.items c.run_line-end.new.links.items c.run_line-end.new.journals.items a b e.player e.played e.filers e.left c.run_line-end.ensures.ran many more c.finish-status.result how is))
    (λ is. elim (write-cause c.in-Ok.line (link_seen g.P.Link) (sink_seen g.J.Sink) c.args.links.now.items c.args.journals.now.items c.run_line-end.new.links.items c.run_line-end.new.journals.items a b e.player e.played e.filers e.left c.run_line-end.ensures.ran many more (Rose (g.E.Sink.faults c.args.notes.now) (g.E.Sink.faults c.finish-status.new.notes)) c.finish-status.result how c.finish-status.ensures.cause is) [
      | inl h ↦ inr (inl h)
      | inr (inl h) ↦ inr (inr (inl h))
      | inr (inr h) ↦ inr (inr (inr (inl h)))
    ])
    (λ is. elim (link-cause c.in-Ok.line (link_seen g.P.Link) (sink_seen g.J.Sink) c.args.links.now.items c.args.journals.now.items c.run_line-end.new.links.items c.run_line-end.new.journals.items a b e.player e.played e.filers e.left c.run_line-end.ensures.ran many more c.finish-status.result how is) [
      | inl h ↦ inr (inr (inr (inr (inl h))))
      | inr h ↦ inr (inr (inr (inr (inr h))))
    ])
    none)
