use Rattle.step_table.specs.Kinds.{split}
use Rattle.slot_ring.proofs.ring.SlotRing.split.Given as goal

abbrev pub ghosts-split_as : goal.ghosts-split_as
ghosts-split_as g a = record { kind = split a.k }
