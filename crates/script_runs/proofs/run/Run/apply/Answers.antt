use Rattle.std.proofs.Common.{List, ℕ, [], sym, subst}
use Rattle.gate_io.specs.Flow.{Gives}
use Rattle.recorder.specs.declared.events.ScriptEvent.{ScriptEvent}
use Rattle.script_runs.specs.Applies.{Applies}
use Rattle.script_runs.proofs.Events.{beat-applies, tick-applies}
use Rattle.script_runs.proofs.Playbacks.{Gives-none, silent-goes-on}
use Rattle.script_runs.proofs.run.Run.apply.Goals as goal

pub returns-in-Tick-clause-applied : goal.returns-in-Tick-clause-applied
returns-in-Tick-clause-applied g c =
    let did = c.play.ensures.applied in
    let noted = g.E.Sink.given c.args.notes.now in (
      did.0,
      did.1,
      did.2,
      subst (λ (e : ScriptEvent). Applies e c.args.self did.0 did.1) (sym c.in-Tick.is) (tick-applies c.args.self did.0 did.1 did.3),
      did.4,
      did.5,
      did.6,
      subst (λ (l : List ℕ). Gives noted noted c.play.result l) (sym did.7) (Gives-none noted c.play.result),
    )

pub returns-in-File-clause-applied : goal.returns-in-File-clause-applied
returns-in-File-clause-applied g c =
    let did = c.file.ensures.applied in (
      did.0,
      did.1,
      [],
      subst (λ (e : ScriptEvent). Applies e c.args.self did.0 did.1) (sym c.in-File.is) did.2,
      did.3,
      silent-goes-on c.args.self.line.filers did.1.calls c.args.playback.now did.4,
      Gives-none (g.O.Sink.given c.args.output.now) c.file.result,
      did.5,
    )

pub returns-in-Datagram-clause-applied : goal.returns-in-Datagram-clause-applied
returns-in-Datagram-clause-applied g c =
    let did = c.datagram.ensures.applied in (
      did.0,
      did.1,
      [],
      subst (λ (e : ScriptEvent). Applies e c.args.self did.0 did.1) (sym c.in-Datagram.is) did.2,
      did.3,
      silent-goes-on c.args.self.line.filers did.1.calls c.args.playback.now did.4,
      Gives-none (g.O.Sink.given c.args.output.now) c.datagram.result,
      did.5,
    )

pub returns-in-Datagram-clause-kin : goal.returns-in-Datagram-clause-kin
returns-in-Datagram-clause-kin g c = (g.met.O.Sink.kin_same c.args.output.now, c.datagram.ensures.kin)

pub returns-in-Beat-clause-applied : goal.returns-in-Beat-clause-applied
returns-in-Beat-clause-applied g c =
    let did = c.play-in-Beat.ensures.applied in
    let noted = g.E.Sink.given c.args.notes.now in (
      did.0,
      did.1,
      did.2,
      subst (λ (e : ScriptEvent). Applies e c.args.self did.0 did.1) (sym c.in-Beat.is) (beat-applies c.args.self did.0 did.1 did.3),
      did.4,
      did.5,
      did.6,
      subst (λ (l : List ℕ). Gives noted noted c.play-in-Beat.result l) (sym did.7) (Gives-none noted c.play-in-Beat.result),
    )
