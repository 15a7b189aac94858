use Rattle.std.proofs.Common.{refl}
use Rattle.act_geom.specs.Walk.Expects.{AtRings}
use Rattle.act_geom.proofs.walk.Walk.start.Goals as goal

pub returns : goal.returns
returns c = λ rings full. AtRings refl rings full refl refl
