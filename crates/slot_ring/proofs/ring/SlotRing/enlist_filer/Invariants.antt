use Rattle.step_table.specs.Kinds.{enlist}
use Rattle.slot_ring.proofs.ring.SlotRing.enlist_filer.Given as goal

abbrev pub ghosts-enlist_filer_as : goal.ghosts-enlist_filer_as
ghosts-enlist_filer_as g a = record { kind = enlist a.k }
