use Rattle.act_index.proofs.held_tests.a_held_version_keeps_its_rows.Given as goal

abbrev pub ghosts-three_held-L-Ledger : goal.ghosts-three_held-L-Ledger
ghosts-three_held-L-Ledger g a = record { name = a.writes.name; parts = a.writes.parts }

abbrev pub ghosts-three_held-M-Ledger : goal.ghosts-three_held-M-Ledger
ghosts-three_held-M-Ledger g a = record { name = a.reads.name; parts = a.reads.parts }
