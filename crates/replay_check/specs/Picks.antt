-- What is picked of lists of calls, over a line.
use Rattle.std.specs.Prelude.{ℕ, ◌≡◌, ◌+◌, ◌^◌, List, Option, MatchOption, length, slice_index}
use Rattle.playout.specs.declared.call.Call.{Call}
use Rattle.playout.specs.Line.{Line}
use Rattle.playout.specs.Machine.{Replies}
use Rattle.replay_check.specs.declared.pick.Choice.{Choice}
use Rattle.replay_check.specs.Rule.{Can, CanQuietly, IsNext, IsQuiet, IsTaken, NoneCan, Waits}
use Rattle.replay_check.specs.Journals.{plays_in}
use Rattle.replay_check.specs.Lists.{Recording}
use Rattle.replay_check.specs.Denials.{number_at}
use Rattle.replay_check.specs.Verdict.{Lists}

-- the line stands at the number that the player's next tick or retire takes, where so many calls of each caller were taken
abbrev pub IsHere : Line → Recording → List ℕ → Type 0
IsHere line lists at = line.machine.position ≡ number_at (plays_in lists.player.events) (slice_index at (length lists.filers))

-- the call is possible
abbrev pub IsPossible : Line → Lists → ℕ → Call → Type 0
IsPossible line lists player call = Replies (2 ^ line.g) line.machine call × (Waits player line.machine lists call → ⊥)

-- the caller's next call, where it is possible
abbrev pub FindsNext : Option Call → Line → Lists → ℕ → ℕ → Type 0
FindsNext found line lists player who =
    MatchOption found (Can (2 ^ line.g) player line.machine lists who → ⊥) (λ call. (rest : List Call) × IsNext (2 ^ line.g) player line.machine lists who call rest)

-- the player's next call, where it takes nothing and is possible
abbrev pub FindsQuiet : Option Call → Line → Lists → ℕ → Type 0
FindsQuiet found line lists player =
    MatchOption found (CanQuietly (2 ^ line.g) player line.machine lists → ⊥) (λ call. (rest : List Call) × IsNext (2 ^ line.g) player line.machine lists player call rest × IsQuiet call)

-- the caller whose call the rule takes, with that call, where any caller has a possible one
abbrev pub Picks : Option Choice → Line → Lists → ℕ → Type 0
Picks picked line lists player =
    MatchOption picked (NoneCan (2 ^ line.g) player (player + 1) line.machine lists)
    (λ p. IsTaken (2 ^ line.g) player line.machine lists p.who × ((rest : List Call) × IsNext (2 ^ line.g) player line.machine lists p.who p.call rest))
