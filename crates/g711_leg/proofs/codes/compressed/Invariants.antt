use Rattle.std.proofs.Common.{◌≡◌, length, map, take}
use Rattle.g711_leg.specs.Best.{code_of}
use Rattle.g711_leg.proofs.codes.compressed.Given as goal

abbrev pub invariant-loop-i : goal.invariant-loop-i
invariant-loop-i l = record {
  so_far : take l.i l.codes ≡ map (code_of l.law) (take l.i l.samples);
  whole : length l.codes ≡ 160;
}
