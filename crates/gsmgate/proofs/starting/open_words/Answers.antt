use Rattle.std.proofs.Common.{map}
use Rattle.std.specs.String.{string_bytes}
use Rattle.std.proofs.KnownBytes.{Keeps-refl}
use Rattle.command_line.specs.Lines.{line_of}
use Rattle.gsmgate.specs.Commands.{noting}
use Rattle.gsmgate.proofs.Opening.{opened}
use Rattle.gsmgate.proofs.starting.open_words.Goals as goal

pub returns-in-Ok-open_places : goal.returns-in-Ok-open_places
returns-in-Ok-open_places g c =
    let words = map string_bytes c.args.words.items in
    let given = g.E.Sink.given c.args.notes.now in
    let faults = g.E.Sink.faults c.args.notes.now in
    opened words (line_of words) c.in-Ok.places c.in-Ok-open_places.started (noting given given faults faults) c.in-Ok.ensures.ok c.in-Ok.ensures.line c.in-Ok-open_places.ensures (Keeps-refl given)
