use Rattle.act_image.proofs.ChainFacts.{own_step}
use Rattle.act_image.proofs.kept.push_own.Goals as goal

pub loop-row-preserved : goal.loop-row-preserved
loop-row-preserved c = own_step c.args.rows.now.items c.loop-row.rows.items c.push.new.self.items c.args.chain c.loop-row.row c.loop-row.invariant c.in_ok-push.ensures.items
