use Rattle.step_table.specs.Kinds.{load}
use Rattle.slot_ring.proofs.ring.SlotRing.file.Given as goal

abbrev pub ghosts-file_as : goal.ghosts-file_as
ghosts-file_as g a = record { kind = load a.number a.frame.now }
