use Rattle.std.proofs.Common.{codes}
use Rattle.gate_io.specs.FlowLaws.{AppendsPart-longer, Gives-after}
use Rattle.gate_notes.specs.Notes.{play_lines, tally_line}
use Rattle.gate_notes.proofs.notes.give_summary.Goals as goal

pub returns-in-Ok-clause-given : goal.returns-in-Ok-clause-given
returns-in-Ok-clause-given g c =
    let given = g.E.Sink.given in
    Gives-after (given c.args.notes.now) (given c.give_plays.new.notes) (given c.give_tally.new.notes) c.give_tally.result (play_lines c.args.plays.now) (tally_line (codes "all") c.args.tally.now) c.in-Ok.ensures.given c.give_tally.ensures.given

pub returns-in-Err-clause-given : goal.returns-in-Err-clause-given
returns-in-Err-clause-given g c =
    AppendsPart-longer (g.E.Sink.given c.args.notes.now) (g.E.Sink.given c.give_plays.new.notes) (play_lines c.args.plays.now) (tally_line (codes "all") c.args.tally.now) c.in-Err.ensures.given
