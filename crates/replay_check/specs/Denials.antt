-- Which numbers the player's calls say are absent, and behind which of its calls none does any more.
use Rattle.std.specs.Prelude.{ℕ, ◌+◌, ◌<◌, ◌↔◌, List, take, drop, true, false, set, slice_index}
use Rattle.playout.specs.declared.call.Call.{Call}
use Rattle.playout.specs.declared.call.Call.TheVariants.{LookCall, HoldCall}
use Rattle.playout.specs.Machine.{start}
use Rattle.playout.specs.History.{moves}
use Rattle.replay_check.specs.Rule.{Absent}

-- the number that the player's next tick or retire takes, where so many of its calls were made
abbrev pub number_at : List Call → ℕ → ℕ
number_at plays place = start + moves (take place plays)

-- one of the player's calls from this place on says that the number is absent
abbrev pub IsDenied : List Call → ℕ → ℕ → Type 0
IsDenied plays n place = Absent n (number_at plays place) (drop place plays)

-- for each number, from the first on, the place behind the last of the player's calls that says that it is absent
abbrev pub AreDenials : List ℕ → List Call → Type 0
AreDenials denials plays = (i place : ℕ) → IsDenied plays (start + i) place ↔ (place < slice_index denials i)

-- what one call more, behind so many calls and so many ticks and retires, makes of them
abbrev pub denials_with : Call → ℕ → ℕ → List ℕ → List ℕ
denials_with (LookCall ahead false) moved place denials = set denials (moved + ahead) (place + 1)
denials_with (HoldCall true) moved place denials = set denials moved (place + 1)
denials_with _ moved place denials = denials

-- a look reaches less far ahead than this
abbrev pub LooksWithin : ℕ → Call → Type 0
LooksWithin most (LookCall ahead filled) = ahead < most
LooksWithin most _ = Unit {0}
