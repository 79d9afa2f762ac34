use Rattle.slot_ring.proofs.tests.two_filers_share_a_slot.Given as goal

abbrev pub ghosts-two_filers : goal.ghosts-two_filers
ghosts-two_filers g a = record { name = a.counted.name; parts = a.counted.parts }
