use Rattle.act_image.proofs.SlotFacts.{new_step}
use Rattle.act_image.proofs.slots.push_new.Goals as goal

pub loop-i-preserved : goal.loop-i-preserved
loop-i-preserved c = new_step c.args.slots.now.items c.loop-i.slots.items c.push.new.self.items c.loop-i._i c.loop-i.invariant c.in_ok-push.ensures.items
