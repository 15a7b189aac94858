use Rattle.act_join.proofs.WorkerFacts.{settled_empty}
use Rattle.act_join.proofs.team.settle.Goals as goal

pub returns-in-Ok-clause-settled : goal.returns-in-Ok-clause-settled
returns-in-Ok-clause-settled c = λ table before batches same works.
    c.dismiss.ensures.settled table before batches works
    (settled_empty before c.args.writer.now.desk.history batches c.args.count c.in-Ok.slots.items c.in-Ok.ensures same)
