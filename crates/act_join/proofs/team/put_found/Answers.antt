use Rattle.act_join.proofs.WorkerFacts.{settled_found}
use Rattle.act_join.proofs.team.put_found.Goals as goal

pub returns : goal.returns
returns c = λ before now batches f s. settled_found before now batches c.args.slots.now.items c.args.one f s
