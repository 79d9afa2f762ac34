use Rattle.slot_ring.proofs.threads.run_playing.Given as goal

abbrev pub ghosts-play_over : goal.ghosts-play_over
ghosts-play_over a = record { name = a.counted.name; parts = a.counted.parts }
