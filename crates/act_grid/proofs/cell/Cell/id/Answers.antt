use Rattle.std.proofs.Common.{ap, ◌∙◌, arith}
use Rattle.act_grid.specs.Cell.{id_of}
use Rattle.act_grid.proofs.CellFacts.{id_is, id_below}
use Rattle.act_grid.proofs.cell.Cell.id.Goals as goal

pub overflow_add-result : goal.overflow_add-result
overflow_add-result c = omega (arith, id_is _ c.self.invariant, id_below _ c.self.invariant)

pub returns : goal.returns
returns c = id_is _ c.self.invariant ∙ ap id_of c.self.view_is
