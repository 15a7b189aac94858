use Rattle.act_join.proofs.SolveFacts.{returned_makes}
use Rattle.act_join.proofs.WorkerFacts.{dismissed}
use Rattle.act_join.proofs.team.dismiss_one.Goals as goal

pub returns-clause-made : goal.returns-clause-made
returns-clause-made c = returned_makes c.args.writer.now c.give_back.new.self c.args.worker.reader.ticket c.give_back.ensures.same

pub returns-clause-settled : goal.returns-clause-settled
returns-clause-settled c = λ table before batches works s.
    let old = c.args.writer.now in
    let new = c.give_back.new.self in
    dismissed old new table before batches c.args.worker c.args.slots.now.items c.put_all_found.new.slots.items
    (returned_makes old new c.args.worker.reader.ticket c.give_back.ensures.same) c.give_back.ensures.begins works c.put_all_found.ensures s
