use Rattle.std.proofs.Common.{take}
use Rattle.replay_check.specs.Journals.{AllRecordsFit}
use Rattle.replay_check.specs.Lists.{AllCallsAt}
use Rattle.replay_check.proofs.recorded.Recorded.of.Given as goal

abbrev pub invariant-journals : goal.invariant-journals
invariant-journals l = record {
  places : AllCallsAt (take l.filer-index l.filers) l.places.items;
  fits : AllRecordsFit (take l.filer-index l.filers);
}
