use Rattle.std.proofs.Common.{◌≡◌, inr, inl}
use Rattle.std.proofs.KnownBytes.{Keeps-refl}
use Rattle.replay_check.specs.Render.{Renders}
use Rattle.replay_check.specs.declared.rendering.RenderEnd.TheVariants.{Refused}
use Rattle.replay_check.proofs.Rendered.{with-head, completes, stops-behind}
use Rattle.replay_check.proofs.rendering.render.Goals as goal

pub returns-in-Ok-clause-renders : goal.returns-in-Ok-clause-renders
returns-in-Ok-clause-renders g c =
    let p = c.play_events.ensures.played in
    inr (
      p.0,
      p.1,
      with-head c.args.seed c.in-Ok.head c.play_events.result (g.I.Source.left c.args.journal.now) (g.I.Source.left c.head.new.source) (g.O.Sink.given c.args.pcm.now) (g.O.Sink.given c.play_events.new.pcm)
          p.0 p.1 p.2 (c.in-Ok.ensures.text c.new-reader.ensures) p.3,
    )

pub returns-in-Ok-clause-complete : goal.returns-in-Ok-clause-complete
returns-in-Ok-clause-complete g c =
    completes c.args.seed c.play_events.result (g.I.Source.left c.args.journal.now) (g.O.Sink.given c.args.pcm.now) (g.O.Sink.given c.play_events.new.pcm) c.player_journals_have_no_fault.ensures (returns-in-Ok-clause-renders g c)

pub returns-in-Err-Fault-clause-complete : goal.returns-in-Err-Fault-clause-complete
returns-in-Err-Fault-clause-complete g c = λ octets j told whole f is.
    let all = rw c.in-Err-Fault.field-0-is at c.in-Err-Fault.ensures in
    let given = g.O.Sink.given c.args.pcm.now in
    let refused : Renders c.args.seed (Refused c.in-Err-Fault.fault) (g.I.Source.left c.args.journal.now) given given = inl (all.fault c.new-reader.ensures, Keeps-refl given) in
    let same : Refused c.in-Err-Fault.fault ≡ Refused f = rw c.in-Err-Fault.fault-is at is in
    completes c.args.seed (Refused c.in-Err-Fault.fault) (g.I.Source.left c.args.journal.now) given given c.player_journals_have_no_fault.ensures refused octets j told whole f same

pub returns-in-Ok-clause-stops : goal.returns-in-Ok-clause-stops
returns-in-Ok-clause-stops g c =
    stops-behind c.args.seed c.in-Ok.head c.play_events.result (g.I.Source.left c.args.journal.now) (g.I.Source.left c.head.new.source) (g.I.Source.left c.play_events.new.journal) (g.O.Sink.given c.args.pcm.now)
    (g.O.Sink.given c.play_events.new.pcm) (c.in-Ok.ensures.text c.new-reader.ensures) c.play_events.ensures.stops

pub returns-in-Err-Fault-clause-stops : goal.returns-in-Err-Fault-clause-stops
returns-in-Err-Fault-clause-stops g c =
    let all = rw c.in-Err-Fault.field-0-is at c.in-Err-Fault.ensures in
    inl (Keeps-refl (g.O.Sink.given c.args.pcm.now), all.part)

pub returns-in-Err-ReadFailed-clause-stops : goal.returns-in-Err-ReadFailed-clause-stops
returns-in-Err-ReadFailed-clause-stops g c =
    let all = rw c.in-Err-ReadFailed.field-0-is at c.in-Err-ReadFailed.ensures in
    inl (Keeps-refl (g.O.Sink.given c.args.pcm.now), all.part)
