use Rattle.std.proofs.Common.{◌≡◌, ◌≤◌, ◌-◌, Some, None}
use Rattle.std.specs.List.{AllByRecursion}
use Rattle.recorder.specs.Filing.{FilerFits, filer_event_text, filer_head_text}
use Rattle.recorder.proofs.JournalSofar.{Sofar}
use Rattle.recorder.proofs.filer_journal.FilerJournal.read_whole.Given as goal

abbrev pub invariant-events : goal.invariant-events
invariant-events g l = record {
  sofar : Sofar filer_event_text (filer_head_text l.head.head l.head.caller) l.reader.reading.at l.reader.reading.count (g.I.Source.left l.fn.source) (g.I.Source.left l.source) l.events.items;
  fits : AllByRecursion FilerFits l.events.items;
  head : l.reader.head ≡ Some l.head;
  over : l.reader.reading.over ≡ None;
  later : g.I.Source.faults l.fn.source ≤ g.I.Source.faults l.source;
}

abbrev pub decreases-events : goal.decreases-events
decreases-events g l = 16777216 - l.reader.reading.count
