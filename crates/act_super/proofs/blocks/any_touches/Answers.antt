use Rattle.std.proofs.Common.{◌∙◌, sym}
use Rattle.act_geom.specs.Touch.{touches_hull}
use Rattle.act_super.proofs.BlockFacts.{any_after, any_here, bound_at, bound_behind}
use Rattle.act_super.proofs.blocks.any_touches.Goals as goal

pub block_touches-requires-clause-bound : goal.block_touches-requires-clause-bound
block_touches-requires-clause-bound c =
    bound_at 16 c.args.blocks.now c.loop-bounds.bounds-index c.bounds-item.result c.loop-bounds.rest.now c.cut.result.0.now c.loop-bounds-test.true c.bounds-item.is c.cut.ensures.first c.loop-bounds.invariant.bound

pub returns-then-block_touches : goal.returns-then-block_touches
returns-then-block_touches c =
    any_here 16 (touches_hull c.args.hull) c.args.sides.now c.loop-bounds.rest.now c.cut.result.0.now c.cut.result.1.now c.cut.ensures.first c.cut.ensures.rest c.loop-bounds.invariant.none
    (sym c.block_touches.ensures ∙ c.if-block_touches.true)

pub loop-bounds-preserved : goal.loop-bounds-preserved
loop-bounds-preserved c = record {
  bound = bound_behind 16 c.args.blocks.now c.loop-bounds.bounds-index c.bounds-item.result c.loop-bounds.rest.now c.cut.result.1.now c.loop-bounds-test.true c.cut.ensures.rest c.loop-bounds.invariant.bound;
  none = any_after 16 (touches_hull c.args.hull) c.args.sides.now c.loop-bounds.rest.now c.cut.result.0.now c.cut.result.1.now c.cut.ensures.first c.cut.ensures.rest c.loop-bounds.invariant.none
      (sym c.block_touches.ensures ∙ c.if-block_touches.false);
}
