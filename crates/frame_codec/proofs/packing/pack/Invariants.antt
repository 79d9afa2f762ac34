use Rattle.std.proofs.Common.{◌≡◌, ◌+◌, ◌*◌, ◌++◌, length, take}
use Rattle.std.specs.Prelude.{flat_map}
use Rattle.frame_codec.specs.Bits.{digits}
use Rattle.frame_codec.specs.Frame.{spelled, lar_widths, sub_bits}
use Rattle.frame_codec.proofs.packing.pack.Given as goal

abbrev pub invariant-loop-part : goal.invariant-loop-part
invariant-loop-part l = record {
  written : l.bits ≡ digits 4 13 ++ (spelled lar_widths l.params.larc ++ flat_map sub_bits (take l.part-index l.part-items));
  len : length l.bits ≡ 40 + 56 * l.part-index;
}
