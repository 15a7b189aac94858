use Rattle.act_geom.proofs.OneEdge.{missed_law}
use Rattle.act_geom.proofs.laws.touching_goes_up.Goals as goal

pub returns : goal.returns
returns c = missed_law
