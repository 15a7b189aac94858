use Rattle.act_index.proofs.answer_tests.a_replaced_zone_has_its_new_shape.Given as goal

abbrev pub ghosts-replaced : goal.ghosts-replaced
ghosts-replaced g a = record { name = a.blank.name; parts = a.blank.parts }
