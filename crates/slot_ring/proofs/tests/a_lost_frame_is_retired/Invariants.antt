use Rattle.slot_ring.proofs.tests.a_lost_frame_is_retired.Given as goal

abbrev pub ghosts-lost_frame : goal.ghosts-lost_frame
ghosts-lost_frame g a = record { name = a.counted.name; parts = a.counted.parts }
