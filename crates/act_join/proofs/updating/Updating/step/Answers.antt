use Rattle.act_join.proofs.UpdatingFacts.{along_done}
use Rattle.act_join.proofs.updating.Updating.step.Goals as goal

pub returns-in-Ok-clause-along : goal.returns-in-Ok-clause-along
returns-in-Ok-clause-along g c = λ start points updates along.
    let same = c.in-Ok.ensures.same in
    along_done start points updates c.args.self.now c.keep.new.self c.in-Some.update c.in-Ok-Done.says along
    (rw same.2 c.in-Some.ensures.items)
    (rw (same.0, same.1) (rw c.in-Ok-Done.field-0-is at c.in-Ok-Done.ensures.steps))
    c.in-Ok.ensures.decided
    (rw same.0 (rw c.version-before.ensures.version at c.in-Ok.ensures.counts))
