use Rattle.act_index.proofs.tests.trainings_keep_the_keys.Given as goal

abbrev pub ghosts-trained : goal.ghosts-trained
ghosts-trained g a = record { name = a.blank.name; parts = a.blank.parts }
