use Rattle.std.proofs.Common.{take}
use Rattle.act_super.specs.Choices.{StandFor}
use Rattle.act_image.proofs.KeyFacts.{first_points}
use Rattle.act_image.proofs.turned.ids_of.Given as goal

abbrev pub invariant-loop-cell : goal.invariant-loop-cell
invariant-loop-cell l = StandFor l.ids.items (take l.cell-index (first_points l.cells))
