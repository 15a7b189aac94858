use Rattle.act_grid.proofs.CellOrder.{part_from_point, part_within, some_order}
use Rattle.act_grid.proofs.laws.apart_or_part.Goals as goal

pub returns-clause-part : goal.returns-clause-part
returns-clause-part c = part_from_point

pub returns-clause-within : goal.returns-clause-within
returns-clause-within c = part_within

pub returns-clause-order : goal.returns-clause-order
returns-clause-order c = some_order
