use Rattle.act_index.proofs.tests.an_idle_reader_holds_no_version.Given as goal

abbrev pub ghosts-with_idle_reader : goal.ghosts-with_idle_reader
ghosts-with_idle_reader g a = record { name = a.blank.name; parts = a.blank.parts }
