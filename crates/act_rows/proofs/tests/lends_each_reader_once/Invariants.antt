use Rattle.act_rows.proofs.tests.lends_each_reader_once.Given as goal

abbrev pub ghosts-read : goal.ghosts-read
ghosts-read g a = record { name = a.blank.name; parts = a.blank.parts }
