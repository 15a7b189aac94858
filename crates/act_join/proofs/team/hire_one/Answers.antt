use Rattle.act_join.proofs.SolveFacts.{lent_makes}
use Rattle.act_join.proofs.WorkerFacts.{hired}
use Rattle.act_join.proofs.team.hire_one.Goals as goal

pub returns-clause-made : goal.returns-clause-made
returns-clause-made c = lent_makes c.args.writer.now c.lend.new.self c.in-Ok.ensures.ok.1

pub returns-clause-works : goal.returns-clause-works
returns-clause-works c = λ batches same.
    hired c.args.writer.now batches c.args.claims.now.keeper (record { reader = c.in-Ok.reader; claimer = c.in-Some.claimer; found = c.new.result; alloc = c.args.alloc })
    c.in-Ok.ensures.ok.3 c.in-Ok.ensures.ok.2 c.new.ensures.items c.in-Some.ensures.some.2 same
