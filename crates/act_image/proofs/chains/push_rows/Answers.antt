use Rattle.act_image.proofs.BuildFacts.{rows_step}
use Rattle.act_image.proofs.chains.push_rows.Goals as goal

pub loop-row-preserved : goal.loop-row-preserved
loop-row-preserved c = rows_step c.args.rows.now.items c.loop-row.rows.items c.push.new.self.items c.args.chain c.loop-row.row c.loop-row.invariant c.in_ok-push.ensures.items
