use Rattle.std.proofs.Common.{◌∙◌}
use Rattle.act_super.proofs.BlockFacts.{drop_least, take_least}
use Rattle.act_super.proofs.blocks.cut.Goals as goal

pub returns-clause-first : goal.returns-clause-first
returns-clause-first c = c.split_at.ensures.front ∙ take_least c.args.sides.now c.args.size c.min.result c.min.ensures

pub returns-clause-rest : goal.returns-clause-rest
returns-clause-rest c = c.split_at.ensures.back ∙ drop_least c.args.sides.now c.args.size c.min.result c.min.ensures
