use Rattle.act_join.proofs.worker.Worker.work.Given as goal

abbrev pub ghosts-work_as : goal.ghosts-work_as
ghosts-work_as g a = record { name = a.blank.name; parts = a.blank.parts }
