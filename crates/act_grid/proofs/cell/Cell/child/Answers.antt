use Rattle.std.proofs.Common.{arith}
use Rattle.act_grid.proofs.CellFacts.{path_below}
use Rattle.act_grid.proofs.cell.Cell.child.Goals as goal

pub overflow_mul-result : goal.overflow_mul-result
overflow_mul-result c = omega (arith, path_below _ c.self.invariant)

pub overflow_add-result-2 : goal.overflow_add-result-2
overflow_add-result-2 c = omega (arith, path_below _ c.self.invariant)
