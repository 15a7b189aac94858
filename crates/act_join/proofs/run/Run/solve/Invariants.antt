use Rattle.act_join.proofs.run.Run.solve.Given as goal

abbrev pub ghosts-solve_as : goal.ghosts-solve_as
ghosts-solve_as g a = record { name = a.blank.name; parts = a.blank.parts }
