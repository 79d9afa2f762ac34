-- What the line asks of a call.
use Rattle.std.specs.Prelude.{ℕ, ◌<◌, ◌^◌}
use Rattle.playout.specs.declared.call.Call.{Call}
use Rattle.playout.specs.declared.call.Call.TheVariants.{FileCall, SourceCall, BaseCall, PeekCall, TickCall, LookCall, HoldCall, RetireCall}

-- the number of a file is in its range, and a tick or a retire comes where the numbers do not end
abbrev pub IsMakeable : ℕ → Call → Type 0
IsMakeable position (FileCall n f reply) = n < 2 ^ 47
IsMakeable position (SourceCall x held) = Unit {0}
IsMakeable position (BaseCall x held) = Unit {0}
IsMakeable position (PeekCall held) = Unit {0}
IsMakeable position (TickCall item) = position < 2 ^ 33
IsMakeable position (LookCall ahead filled) = Unit {0}
IsMakeable position (HoldCall held) = Unit {0}
IsMakeable position (RetireCall item) = position < 2 ^ 33
