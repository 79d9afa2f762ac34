use Rattle.line_run.proofs.opening.open_line.Given as goal

abbrev pub ghosts-enlist_all : goal.ghosts-enlist_all
ghosts-enlist_all a = record { name = a.name.name; parts = a.name.parts }
