use Rattle.std.proofs.Common.{refl}
use Rattle.script_runs.specs.Calls.{bare, made_by}
use Rattle.script_runs.specs.declared.run.Run.{Run}
use Rattle.script_runs.proofs.Events.{plays, told-lines}
use Rattle.script_runs.proofs.Playbacks.{beat-goes-on}
use Rattle.script_runs.proofs.run.Run.play.Goals as goal

pub returns-in-Ok-clause-applied : goal.returns-in-Ok-clause-applied
returns-in-Ok-clause-applied g c =
    let old = c.args.self in
    let calls = c.ask-calls.result in
    let asked = c.ask-calls.ensures in
    let new : Run = record { line = c.back.result; filers = old.filers; opened = c.opened_after.result; played = c.count_calls.new.tally; filed = old.filed } in
    let played = c.in-Ok.ensures.played in (
      new,
      bare (made_by old.line.filers calls),
      played.0,
      plays c.args.opened old new c.of-side.result c.ask-calls.new.side calls c.of-side.ensures c.back.ensures asked.asks asked.told asked.side asked.position asked.goes_on refl c.opened_after.ensures c.count_calls.ensures refl,
      refl,
      beat-goes-on old.line.filers calls c.args.playback.now c.beat.new.self played.0 played.1,
      played.2,
      told-lines old.line.filers c.of-side.result.g calls asked.told,
    )

pub returns-in-Err-clause-applied : goal.returns-in-Err-clause-applied
returns-in-Err-clause-applied g c =
    let old = c.args.self in
    let calls = c.ask-calls.result in
    let asked = c.ask-calls.ensures in
    let new : Run = record { line = c.back.result; filers = old.filers; opened = c.opened_after.result; played = c.count_calls.new.tally; filed = old.filed } in
    let played = c.in-Err.ensures.played in (
      new,
      bare (made_by old.line.filers calls),
      played.0,
      plays c.args.opened old new c.of-side.result c.ask-calls.new.side calls c.of-side.ensures c.back.ensures asked.asks asked.told asked.side asked.position asked.goes_on refl c.opened_after.ensures c.count_calls.ensures refl,
      tt,
      beat-goes-on old.line.filers calls c.args.playback.now c.beat.new.self played.0 played.1,
      played.2,
      told-lines old.line.filers c.of-side.result.g calls asked.told,
    )
