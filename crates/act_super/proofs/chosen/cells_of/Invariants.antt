use Rattle.std.proofs.Common.{◌≡◌, take}
use Rattle.act_super.specs.Choices.{cells_in}
use Rattle.act_super.proofs.chosen.cells_of.Given as goal

abbrev pub invariant-loop-choice : goal.invariant-loop-choice
invariant-loop-choice l = l.cells.items ≡ cells_in (take l.choice-index l.choices)
