use Rattle.act_super.proofs.BlockFacts.{ring_more}
use Rattle.act_super.proofs.blocks.Blocks.of.Goals as goal

pub loop-k-preserved : goal.loop-k-preserved
loop-k-preserved c =
    ring_more c.loop-k.sides.items c.push_ring.new.sides.items c.args.shape.now c.loop-k.k c.ring.result.now c.ring.ensures.item c.in_ok-push_ring.ensures c.loop-k.invariant
