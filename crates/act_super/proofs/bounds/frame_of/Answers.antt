use Rattle.std.proofs.Common.{arith, subst}
use Rattle.std.proofs.lemmas.List.{take_all}
use Rattle.std.specs.List.{All}
use Rattle.act_super.specs.Bounds.{IsSideIn}
use Rattle.act_super.proofs.BlockFacts.{sides_more}
use Rattle.act_super.proofs.bounds.frame_of.Goals as goal

pub loop-side-preserved : goal.loop-side-preserved
loop-side-preserved c =
    sides_more c.loop-side.frame c.with_side-frame.result c.args.sides.now c.loop-side.side-index _ c.loop-side-test.true c.with_side-frame.ensures.wider c.loop-side.invariant
    (record { from = c.with_side-frame.ensures.from; to = c.with_side-frame.ensures.to })

pub returns : goal.returns
returns c = subst (All (IsSideIn c.loop-side.frame)) (take_all c.loop-side.side-index c.args.sides.now (omega (arith, c.loop-side-test.false))) c.loop-side.invariant
