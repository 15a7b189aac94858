use Rattle.act_rows_uses.proofs.tests.reads_what_is_published_beside_it.Given as goal

abbrev pub ghosts-both-L-Ledger : goal.ghosts-both-L-Ledger
ghosts-both-L-Ledger g a = record { name = a.writes.name; parts = a.writes.parts }

abbrev pub ghosts-both-M-Ledger : goal.ghosts-both-M-Ledger
ghosts-both-M-Ledger g a = record { name = a.reads.name; parts = a.reads.parts }
