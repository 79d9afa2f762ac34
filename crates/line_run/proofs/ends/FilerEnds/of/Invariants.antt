use Rattle.std.proofs.Common.{◌≡◌, length, map}
use lib.ListN.{take}
use Rattle.line_run.specs.Callers.{told}
use Rattle.line_run.proofs.ends.FilerEnds.of.Given as goal

abbrev pub invariant-loop-i : goal.invariant-loop-i
invariant-loop-i l = record { told : take l.i l.kept ≡ map told (take l.i l.callers); long : length l.kept ≡ 64 }
