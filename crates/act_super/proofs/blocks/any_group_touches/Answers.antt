use Rattle.std.proofs.Common.{◌∙◌, sym}
use Rattle.act_geom.specs.Touch.{touches_hull}
use Rattle.act_super.proofs.BlockFacts.{any_after, any_here, bound_at, bound_behind, group_blocks, other_blocks}
use Rattle.act_super.proofs.blocks.any_group_touches.Goals as goal

pub group_touches-requires-clause-group : goal.group_touches-requires-clause-group
group_touches-requires-clause-group c =
    bound_at 1024 c.args.groups.now c.loop-bounds.bounds-index c.bounds-item.result c.loop-bounds.rest.now c.cut.result.0.now c.loop-bounds-test.true c.bounds-item.is c.cut.ensures.first c.loop-bounds.invariant.bound

pub group_touches-requires-clause-bound : goal.group_touches-requires-clause-bound
group_touches-requires-clause-bound c =
    group_blocks c.loop-bounds.under.now c.cut_group.result.0.now c.loop-bounds.rest.now c.cut.result.0.now c.cut_group.ensures.first c.cut.ensures.first c.loop-bounds.invariant.under

pub returns-then-group_touches : goal.returns-then-group_touches
returns-then-group_touches c =
    any_here 1024 (touches_hull c.args.hull) c.args.sides.now c.loop-bounds.rest.now c.cut.result.0.now c.cut.result.1.now c.cut.ensures.first c.cut.ensures.rest c.loop-bounds.invariant.none
    (sym c.group_touches.ensures ∙ c.if-group_touches.true)

pub loop-bounds-preserved : goal.loop-bounds-preserved
loop-bounds-preserved c = record {
  bound = bound_behind 1024 c.args.groups.now c.loop-bounds.bounds-index c.bounds-item.result c.loop-bounds.rest.now c.cut.result.1.now c.loop-bounds-test.true c.cut.ensures.rest c.loop-bounds.invariant.bound;
  under = other_blocks c.loop-bounds.under.now c.cut_group.result.1.now c.loop-bounds.rest.now c.cut.result.1.now c.cut_group.ensures.rest c.cut.ensures.rest c.loop-bounds.invariant.under;
  none = any_after 1024 (touches_hull c.args.hull) c.args.sides.now c.loop-bounds.rest.now c.cut.result.0.now c.cut.result.1.now c.cut.ensures.first c.cut.ensures.rest c.loop-bounds.invariant.none
      (sym c.group_touches.ensures ∙ c.if-group_touches.false);
}
