use Rattle.gate_io.specs.FlowLaws.{AppendsPart-longer, Gives-after}
use Rattle.gate_notes.specs.Notes.{held_line, ticks_line}
use Rattle.gate_notes.proofs.notes.give_plays.Goals as goal

pub returns-in-Ok-clause-given : goal.returns-in-Ok-clause-given
returns-in-Ok-clause-given g c =
    let given = g.E.Sink.given in
    Gives-after (given c.args.notes.now) (given c.give_ticks.new.notes) (given c.give_held.new.notes) c.give_held.result (ticks_line c.args.tally.now) (held_line c.args.tally.now) c.in-Ok.ensures.given c.give_held.ensures.given

pub returns-in-Err-clause-given : goal.returns-in-Err-clause-given
returns-in-Err-clause-given g c =
    AppendsPart-longer (g.E.Sink.given c.args.notes.now) (g.E.Sink.given c.give_ticks.new.notes) (ticks_line c.args.tally.now) (held_line c.args.tally.now) c.in-Err.ensures.given
