use Rattle.act_grid.proofs.CellOrder.{one_cell}
use Rattle.act_grid.proofs.laws.a_level_has_one_cell.Goals as goal

pub returns : goal.returns
returns c = one_cell
