use Rattle.act_super.proofs.FrameFacts.{wider_more}
use Rattle.act_super.proofs.bounds.with_side.Goals as goal

pub returns-clause-wider : goal.returns-clause-wider
returns-clause-wider c = wider_more _ _ _ c.with_point.ensures.wider c.with_point-2.ensures.wider
