-- A player's run that came to its end has a journal that gives back what its speaker got.
use Rattle.heard_laws.specs.Rendered.{JournalRenders, RunRenders}

pub run_gives_back : JournalRenders → RunRenders
run_gives_back journal_renders seed own sequence stamp elastic before now made calls a b h head few gave =
    (gave.samples, gave.speaker, journal_renders seed h elastic made calls gave.samples head gave.beats gave.told few gave.heard)
