use Rattle.slot_ring.proofs.threads.run_filing.Given as goal

abbrev pub ghosts-file_over : goal.ghosts-file_over
ghosts-file_over a = record { name = a.counted.name; parts = a.counted.parts }
