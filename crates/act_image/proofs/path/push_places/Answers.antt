use Rattle.std.proofs.Common.{◌∙◌}
use Rattle.act_image.proofs.OldFacts.{places_step}
use Rattle.act_image.proofs.path.push_places.Goals as goal

pub loop-i-preserved : goal.loop-i-preserved
loop-i-preserved c = c.loop-i.invariant ∙ places_step c.loop-i.sources.items c.push.new.self.items c.args.first c.loop-i.i c.args.count c.loop-i-test.true c.in_ok-push.ensures.items
