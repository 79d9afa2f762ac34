use Rattle.slot_ring.proofs.tests.sides_share_a_ring.Given as goal

abbrev pub ghosts-open_counted : goal.ghosts-open_counted
ghosts-open_counted g a = record { name = a.counted.name; parts = a.counted.parts }

abbrev pub ghosts-filer_side : goal.ghosts-filer_side
ghosts-filer_side g a = record { name = a.counted.name; parts = a.counted.parts }

abbrev pub ghosts-player_side : goal.ghosts-player_side
ghosts-player_side g a = record { name = a.counted.name; parts = a.counted.parts }
