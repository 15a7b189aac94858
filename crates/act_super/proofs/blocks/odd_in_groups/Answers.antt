use Rattle.std.proofs.Common.{◌∙◌, ap}
use Rattle.act_geom.specs.Inside.{counts, differ}
use Rattle.act_super.proofs.BlockFacts.{bound_at, bound_behind, group_blocks, odd_after, other_blocks}
use Rattle.act_super.proofs.blocks.odd_in_groups.Goals as goal

pub group_is_odd-requires : goal.group_is_odd-requires
group_is_odd-requires c = record {
  group = bound_at 1024 c.args.groups.now c.loop-bounds.bounds-index c.bounds-item.result c.loop-bounds.rest.now c.cut.result.0.now c.loop-bounds-test.true c.bounds-item.is c.cut.ensures.first c.loop-bounds.invariant.bound;
  bound = group_blocks c.loop-bounds.under.now c.cut_group.result.0.now c.loop-bounds.rest.now c.cut.result.0.now c.cut_group.ensures.first c.cut.ensures.first c.loop-bounds.invariant.under;
}

pub loop-bounds-preserved : goal.loop-bounds-preserved
loop-bounds-preserved c = record {
  bound = bound_behind 1024 c.args.groups.now c.loop-bounds.bounds-index c.bounds-item.result c.loop-bounds.rest.now c.cut.result.1.now c.loop-bounds-test.true c.cut.ensures.rest c.loop-bounds.invariant.bound;
  under = other_blocks c.loop-bounds.under.now c.cut_group.result.1.now c.loop-bounds.rest.now c.cut.result.1.now c.cut_group.ensures.rest c.cut.ensures.rest c.loop-bounds.invariant.under;
  parity = odd_after 1024 (counts c.args.p) c.loop-bounds.rest.now c.cut.result.0.now c.cut.result.1.now c.loop-bounds.odd c.differs-odd.result _ c.cut.ensures.first c.cut.ensures.rest c.loop-bounds.invariant.parity
      (c.differs-odd.ensures ∙ ap (differ c.loop-bounds.odd) c.group_is_odd.ensures);
}
