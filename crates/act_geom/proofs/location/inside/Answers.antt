use Rattle.std.proofs.Common.{arith}
use Rattle.act_geom.proofs.Parity.{odd_more}
use Rattle.act_geom.proofs.location.inside.Goals as goal
use Rattle.act_geom.proofs.location.inside.Goals.{then-ring_is_odd, else-ring_is_odd}

pub loop-k-preserved : goal.loop-k-preserved
loop-k-preserved c =
    odd_more c.args.p c.args.shape.now c.loop-k.k c.ring.result.now c.loop-k.odd c.if-ring_is_odd.odd c.ring.ensures.item c.loop-k.invariant
    (elim c.if-ring_is_odd.branch [ then-ring_is_odd w ↦ grind arith | else-ring_is_odd w ↦ grind arith ])
