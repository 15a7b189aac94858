use Rattle.act_grid.proofs.CellOrder.{some_child}
use Rattle.act_grid.proofs.laws.children_cover.Goals as goal

pub returns : goal.returns
returns c = some_child
