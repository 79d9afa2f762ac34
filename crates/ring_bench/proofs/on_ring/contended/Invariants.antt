use Rattle.ring_bench.proofs.on_ring.contended.Given as goal

abbrev pub ghosts-open : goal.ghosts-open
ghosts-open g a = record { name = a.counted.name; parts = a.counted.parts }
