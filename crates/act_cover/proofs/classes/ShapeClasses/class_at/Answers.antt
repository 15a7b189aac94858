use Rattle.act_cover.specs.Covering.{class_at}
use Rattle.act_cover.proofs.classes.ShapeClasses.class_at.Goals as goal

pub returns : goal.returns
unfolding class_at
returns c = c.class_of.ensures
