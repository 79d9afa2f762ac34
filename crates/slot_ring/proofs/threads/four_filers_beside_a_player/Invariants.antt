use Rattle.slot_ring.proofs.threads.four_filers_beside_a_player.Given as goal

abbrev pub ghosts-run_contest : goal.ghosts-run_contest
ghosts-run_contest g a = record { name = a.counted.name; parts = a.counted.parts }
