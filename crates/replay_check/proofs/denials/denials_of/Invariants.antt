use Rattle.std.proofs.Common.{◌≡◌, ◌+◌, length, take}
use Rattle.playout.specs.History.{moves}
use Rattle.replay_check.specs.Denials.{AreDenials}
use Rattle.replay_check.specs.Journals.{plays_in}
use Rattle.replay_check.proofs.denials.denials_of.Given as goal

abbrev pub invariant-events : goal.invariant-events
invariant-events l = record {
  room : length l.denials.items ≡ length l.fn.player.events + 1024;
  moved : l.moved ≡ moves (take l.place (plays_in l.fn.player.events));
  denials : AreDenials l.denials.items (take l.place (plays_in l.fn.player.events));
}
