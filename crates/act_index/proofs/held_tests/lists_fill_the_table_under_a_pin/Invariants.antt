use Rattle.act_index.proofs.held_tests.lists_fill_the_table_under_a_pin.Given as goal

abbrev pub ghosts-lists_held-L-Ledger : goal.ghosts-lists_held-L-Ledger
ghosts-lists_held-L-Ledger g a = record { name = a.writes.name; parts = a.writes.parts }

abbrev pub ghosts-lists_held-M-Ledger : goal.ghosts-lists_held-M-Ledger
ghosts-lists_held-M-Ledger g a = record { name = a.reads.name; parts = a.reads.parts }
