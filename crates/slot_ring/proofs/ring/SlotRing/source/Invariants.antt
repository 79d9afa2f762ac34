use Rattle.step_table.specs.Kinds.{source}
use Rattle.slot_ring.proofs.ring.SlotRing.source.Given as goal

abbrev pub ghosts-source_as : goal.ghosts-source_as
ghosts-source_as g a = record { kind = source a.ssrc }
