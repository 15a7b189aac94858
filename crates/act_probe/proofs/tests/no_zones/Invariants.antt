use Rattle.act_probe.proofs.tests.no_zones.Given as goal

abbrev pub ghosts-found : goal.ghosts-found
ghosts-found a b = record { name = b.blank.name; parts = b.blank.parts }
