use Rattle.std.proofs.Common.{◌≡◌, drop}
use Rattle.act_image.specs.Fresh.{same_cells}
use Rattle.act_image.proofs.turned.same_cells.Given as goal

abbrev pub invariant-loop-i : goal.invariant-loop-i
invariant-loop-i l = same_cells l.cells l.others ≡ same_cells (drop l.i l.cells) (drop l.i l.others)
