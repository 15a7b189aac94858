use Rattle.act_index.proofs.tests.updates_are_refused_for_their_causes.Given as goal

abbrev pub ghosts-refusals : goal.ghosts-refusals
ghosts-refusals g a = record { name = a.blank.name; parts = a.blank.parts }
