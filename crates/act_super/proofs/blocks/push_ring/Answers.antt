use Rattle.std.proofs.Common.{refl}
use Rattle.act_super.proofs.BlockFacts.{edge_more}
use Rattle.act_super.proofs.blocks.push_ring.Goals as goal

pub loop-to-preserved : goal.loop-to-preserved
loop-to-preserved c = rw c.in_ok-push.ensures.items (edge_more c.loop-to.sides.items _ _ _ c.loop-to.to-index _ _ c.loop-to-test.true refl c.loop-to.invariant)
