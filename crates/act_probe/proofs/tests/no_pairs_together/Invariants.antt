use Rattle.act_probe.proofs.tests.no_pairs_together.Given as goal

abbrev pub ghosts-joined : goal.ghosts-joined
ghosts-joined a b = record { name = b.blank.name; parts = b.blank.parts }
