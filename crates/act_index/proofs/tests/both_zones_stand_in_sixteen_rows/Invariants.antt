use Rattle.act_index.proofs.tests.both_zones_stand_in_sixteen_rows.Given as goal

abbrev pub ghosts-refusals : goal.ghosts-refusals
ghosts-refusals g a = record { name = a.blank.name; parts = a.blank.parts }
