use Rattle.line_run.proofs.gathering.end_line.Given as goal

abbrev pub ghosts-leave_and_close : goal.ghosts-leave_and_close
ghosts-leave_and_close a = record { name = a.counted.name; parts = a.counted.parts }
