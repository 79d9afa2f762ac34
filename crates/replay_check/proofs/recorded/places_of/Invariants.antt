use Rattle.std.proofs.Common.{◌≡◌, ◌++◌, drop, map}
use Rattle.replay_check.specs.Journals.{calls_in}
use Rattle.replay_check.specs.Lists.{call_at}
use Rattle.replay_check.proofs.Recordings.{some_calls}
use Rattle.replay_check.proofs.recorded.places_of.Given as goal

abbrev pub invariant-events : goal.invariant-events
invariant-events l = map (call_at l.fn.journal.events) l.places.items ++ some_calls (calls_in (drop l.place l.fn.journal.events)) ≡ some_calls (calls_in l.fn.journal.events)
