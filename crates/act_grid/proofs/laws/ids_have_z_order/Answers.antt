use Rattle.act_grid.proofs.CellOrder.{id_order}
use Rattle.act_grid.proofs.laws.ids_have_z_order.Goals as goal

pub returns : goal.returns
returns c = id_order
