use Rattle.act_index.proofs.answer_tests.batches_name_points_and_keys.Given as goal

abbrev pub ghosts-batches : goal.ghosts-batches
ghosts-batches g a = record { name = a.blank.name; parts = a.blank.parts }
