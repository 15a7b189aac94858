use Rattle.act_geom.proofs.ClassFacts.{class_goes_down}
use Rattle.act_geom.proofs.laws.class_goes_down.Goals as goal

pub returns : goal.returns
returns c = class_goes_down
