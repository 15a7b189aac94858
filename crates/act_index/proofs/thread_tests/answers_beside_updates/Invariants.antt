use Rattle.act_index.proofs.thread_tests.answers_beside_updates.Given as goal

abbrev pub ghosts-both-L-Ledger : goal.ghosts-both-L-Ledger
ghosts-both-L-Ledger g a = record { name = a.writes.name; parts = a.writes.parts }

abbrev pub ghosts-both-M-Ledger : goal.ghosts-both-M-Ledger
ghosts-both-M-Ledger g a = record { name = a.reads.name; parts = a.reads.parts }
