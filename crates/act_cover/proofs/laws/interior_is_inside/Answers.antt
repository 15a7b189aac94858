use Rattle.act_cover.proofs.Holding.{interior_inside}
use Rattle.act_cover.proofs.laws.interior_is_inside.Goals as goal

pub returns : goal.returns
returns c = interior_inside
