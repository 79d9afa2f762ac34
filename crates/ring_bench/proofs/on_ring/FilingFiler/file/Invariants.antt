use Rattle.ring_bench.proofs.on_ring.FilingFiler.file.Given as goal

abbrev pub ghosts-file_once : goal.ghosts-file_once
ghosts-file_once a = record { name = a.counted.name; parts = a.counted.parts }
