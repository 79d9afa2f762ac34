use Rattle.step_table.specs.Kinds.{base}
use Rattle.slot_ring.proofs.ring.SlotRing.base.Given as goal

abbrev pub ghosts-base_as : goal.ghosts-base_as
ghosts-base_as g a = record { kind = base a.ts }
