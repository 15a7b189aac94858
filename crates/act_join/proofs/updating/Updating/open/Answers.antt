use Rattle.act_join.proofs.PartsFacts.{thresholds_taken}
use Rattle.act_join.proofs.updating.Updating.open.Goals as goal

pub returns-clause-thresholds : goal.returns-clause-thresholds
returns-clause-thresholds c = thresholds_taken c.take_apart.result c.clear.new.self.items c.take_apart.new.waiting.items c.args.steps.items c.clear.ensures.items c.take_apart.ensures.waiting c.requires
