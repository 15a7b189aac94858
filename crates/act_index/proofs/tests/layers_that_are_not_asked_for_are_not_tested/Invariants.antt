use Rattle.act_index.proofs.tests.layers_that_are_not_asked_for_are_not_tested.Given as goal

abbrev pub ghosts-layered : goal.ghosts-layered
ghosts-layered g a = record { name = a.blank.name; parts = a.blank.parts }
