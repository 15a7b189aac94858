use Rattle.std.proofs.lemmas.List.Elements.{AllWithin-none, AllWithin-upto, All-from_all_within}
use Rattle.act_grid.specs.Hull.{IsIn}
use Rattle.act_super.proofs.FrameFacts.{wider_same, wider_more, one_more}
use Rattle.act_super.proofs.frame.with_ring.Goals as goal

pub loop-p-init : goal.loop-p-init
loop-p-init c = (wider_same c.args.frame, AllWithin-none (IsIn c.args.frame) c.args.ring.now 0)

pub loop-p-preserved : goal.loop-p-preserved
loop-p-preserved c = (
  wider_more _ _ _ c.loop-p.invariant.0 c.with_point-wide.ensures.wider,
  one_more c.loop-p.wide c.with_point-wide.result c.args.ring.now c.loop-p.p-index _ c.loop-p-test.true c.with_point-wide.ensures.wider c.loop-p.invariant.1 c.with_point-wide.ensures.holds,
)

pub returns-clause-wider : goal.returns-clause-wider
returns-clause-wider c = c.loop-p.invariant.0

pub returns-clause-holds : goal.returns-clause-holds
returns-clause-holds c =
    All-from_all_within (IsIn c.loop-p.wide) c.args.ring.now (AllWithin-upto (IsIn c.loop-p.wide) c.args.ring.now 0 c.loop-p.p-index _ c.loop-p-test.false c.loop-p.invariant.1)
