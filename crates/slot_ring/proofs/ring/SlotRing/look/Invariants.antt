use Rattle.ring_core.specs.declared.player_steps.Glance.TheVariants.{Ahead}
use Rattle.step_table.specs.Kinds.{glance}
use Rattle.slot_ring.proofs.ring.SlotRing.look.Given as goal

abbrev pub ghosts-glance : goal.ghosts-glance
ghosts-glance g a = record { kind = glance (Ahead a.ahead) }
