use Rattle.act_geom.proofs.ClassFacts.{answer_inside, answer_outside}
use Rattle.act_geom.proofs.laws.class_answers_for_points.Goals as goal

pub returns-clause-inside : goal.returns-clause-inside
returns-clause-inside c = answer_inside

pub returns-clause-outside : goal.returns-clause-outside
returns-clause-outside c = answer_outside
