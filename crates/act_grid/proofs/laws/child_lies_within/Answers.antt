use Rattle.act_grid.proofs.CellOrder.{child_within}
use Rattle.act_grid.proofs.laws.child_lies_within.Goals as goal

pub returns : goal.returns
returns c = child_within
