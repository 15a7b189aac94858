use Rattle.std.proofs.Common.{◌∙◌, ap}
use Rattle.act_geom.specs.Inside.{counts, differ}
use Rattle.act_super.proofs.BlockFacts.{bound_at, bound_behind, odd_after}
use Rattle.act_super.proofs.blocks.odd_in.Goals as goal

pub block_is_odd-requires : goal.block_is_odd-requires
block_is_odd-requires c = record {
  bound = bound_at 16 c.args.blocks.now c.loop-bounds.bounds-index c.bounds-item.result c.loop-bounds.rest.now c.cut.result.0.now c.loop-bounds-test.true c.bounds-item.is c.cut.ensures.first c.loop-bounds.invariant.bound;
}

pub loop-bounds-preserved : goal.loop-bounds-preserved
loop-bounds-preserved c = record {
  bound = bound_behind 16 c.args.blocks.now c.loop-bounds.bounds-index c.bounds-item.result c.loop-bounds.rest.now c.cut.result.1.now c.loop-bounds-test.true c.cut.ensures.rest c.loop-bounds.invariant.bound;
  parity = odd_after 16 (counts c.args.p) c.loop-bounds.rest.now c.cut.result.0.now c.cut.result.1.now c.loop-bounds.odd c.differs-odd.result _ c.cut.ensures.first c.cut.ensures.rest c.loop-bounds.invariant.parity
      (c.differs-odd.ensures ∙ ap (differ c.loop-bounds.odd) c.block_is_odd.ensures);
}
