use Rattle.gate_io.specs.FlowLaws.{AppendsPart-longer, Gives-after}
use Rattle.recorder.specs.declared.events.ScriptEvent.TheVariants.{File, Tick}
use Rattle.recorder.specs.Script.{event_text}
use Rattle.replay_check.proofs.make.give_round.Goals as goal

pub returns-in-Ok-clause-given : goal.returns-in-Ok-clause-given
returns-in-Ok-clause-given g c =
    let given = g.O.Sink.given in
    Gives-after (given c.args.sink.now) (given c.write_script.new.sink) (given c.write_script-in-Ok.new.sink) c.write_script-in-Ok.result
    (event_text (File c.args.round.now.caller c.args.round.now.number c.args.round.now.frame)) (event_text Tick) c.in-Ok.ensures.given c.write_script-in-Ok.ensures.given

pub returns-in-Err-clause-given : goal.returns-in-Err-clause-given
returns-in-Err-clause-given g c =
    AppendsPart-longer (g.O.Sink.given c.args.sink.now) (g.O.Sink.given c.write_script.new.sink)
    (event_text (File c.args.round.now.caller c.args.round.now.number c.args.round.now.frame)) (event_text Tick) c.in-Err.ensures.given
