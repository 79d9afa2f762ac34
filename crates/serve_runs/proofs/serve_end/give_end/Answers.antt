use Rattle.gate_io.specs.FlowLaws.{AppendsPart-longer, Gives-after}
use Rattle.gate_notes.specs.Notes.{play_lines}
use Rattle.serve_runs.specs.Serve.{link_lines}
use Rattle.serve_runs.proofs.serve_end.give_end.Goals as goal

pub returns-in-Ok-clause-given : goal.returns-in-Ok-clause-given
returns-in-Ok-clause-given g c =
    let given = g.E.Sink.given in
    Gives-after (given c.args.notes.now) (given c.give_plays.new.notes) (given c.give_links.new.notes) c.give_links.result (play_lines c.args.end.now.played) (link_lines 0 c.args.end.now.filers)
    c.in-Ok.ensures.given c.give_links.ensures.given

pub returns-in-Err-clause-given : goal.returns-in-Err-clause-given
returns-in-Err-clause-given g c =
    let given = g.E.Sink.given in
    AppendsPart-longer (given c.args.notes.now) (given c.give_plays.new.notes) (play_lines c.args.end.now.played) (link_lines 0 c.args.end.now.filers) c.in-Err.ensures.given
