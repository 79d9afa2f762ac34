use Rattle.step_table.specs.Kinds.{enlist}
use Rattle.slot_ring.proofs.ring.SlotRing.enlist_player.Given as goal

abbrev pub ghosts-enlist_player_as : goal.ghosts-enlist_player_as
ghosts-enlist_player_as g a = record { kind = enlist a.k }
