use Rattle.act_grid.specs.Cell.{hull_of}
use Rattle.act_geom.proofs.OneAnswer.{one_answer}
use Rattle.act_geom.proofs.laws.pure_cell_has_one_answer.Goals as goal

pub returns : goal.returns
returns c = λ cell. one_answer (hull_of cell)
