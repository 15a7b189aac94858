use Rattle.std.proofs.Common.{◌∙◌, [], sym, subst, append-nil}
use Rattle.act_super.specs.Bounds.{AreBound}
use Rattle.act_super.proofs.BlockFacts.{bounds_more, empty_is}
use Rattle.act_super.proofs.blocks.bounds_of.Goals as goal

pub loop-rest-preserved : goal.loop-rest-preserved
loop-rest-preserved c =
    bounds_more c.args.size c.loop-rest.bounds.items c.push.new.self.items c.of.result c.args.sides.now c.loop-rest.rest.now c.cut.result.0.now c.cut.result.1.now
    c.in_ok-push.ensures.items c.cut.ensures.first c.cut.ensures.rest c.loop-rest.invariant c.of.ensures

pub returns : goal.returns
returns c = subst (λ bs. AreBound c.args.size bs c.args.sides.now) (append-nil c.loop-rest.bounds.items) (c.loop-rest.invariant [] (empty_is c.loop-rest.rest.now (sym c.is_empty.ensures ∙ c.loop-rest-test.false)))
