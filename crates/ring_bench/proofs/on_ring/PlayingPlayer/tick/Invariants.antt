use Rattle.ring_bench.proofs.on_ring.PlayingPlayer.tick.Given as goal

abbrev pub ghosts-tick_once : goal.ghosts-tick_once
ghosts-tick_once a = record { name = a.counted.name; parts = a.counted.parts }
