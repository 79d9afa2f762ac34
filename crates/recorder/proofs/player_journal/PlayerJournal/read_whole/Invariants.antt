use Rattle.std.proofs.Common.{◌≡◌, ◌≤◌, ◌-◌, true, Some, None}
use Rattle.recorder.specs.Heads.{head_text, play_magic}
use Rattle.recorder.specs.Journals.{opening_behind}
use Rattle.recorder.specs.Play.{AllPlayFit, play_event_text}
use Rattle.recorder.proofs.JournalSofar.{Sofar}
use Rattle.recorder.proofs.player_journal.PlayerJournal.read_whole.Given as goal

abbrev pub invariant-events : goal.invariant-events
invariant-events g l = record {
  sofar : Sofar play_event_text (head_text play_magic l.head) l.reader.reading.at l.reader.reading.count (g.I.Source.left l.fn.source) (g.I.Source.left l.source) l.events.items;
  fits : AllPlayFit l.head.g true l.events.items;
  opening : l.reader.opening ≡ opening_behind true l.events.items;
  head : l.reader.reading.head ≡ Some l.head;
  over : l.reader.reading.over ≡ None;
  later : g.I.Source.faults l.fn.source ≤ g.I.Source.faults l.source;
}

abbrev pub decreases-events : goal.decreases-events
decreases-events g l = 16777216 - l.reader.reading.count
