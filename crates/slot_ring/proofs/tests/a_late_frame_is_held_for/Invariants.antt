use Rattle.slot_ring.proofs.tests.a_late_frame_is_held_for.Given as goal

abbrev pub ghosts-late_frames : goal.ghosts-late_frames
ghosts-late_frames g a = record { name = a.counted.name; parts = a.counted.parts }
