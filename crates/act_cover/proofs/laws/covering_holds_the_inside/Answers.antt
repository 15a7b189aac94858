use Rattle.act_cover.proofs.Holding.{covering_holds}
use Rattle.act_cover.proofs.laws.covering_holds_the_inside.Goals as goal

pub returns : goal.returns
returns c = covering_holds
