use Rattle.std.proofs.Common.{◌++◌, List, length}
use Rattle.act_super.specs.declared.bounds.Bounds.{Bounds}
use Rattle.act_super.specs.Bounds.{AreBound}
use Rattle.act_super.proofs.blocks.bounds_of.Given as goal

-- with the bounds of what is left, these are those of all
abbrev pub invariant-loop-rest : goal.invariant-loop-rest
invariant-loop-rest l = (more : List Bounds) → AreBound l.size more l.rest → AreBound l.size (l.bounds.items ++ more) l.sides

abbrev pub decreases-loop-rest : goal.decreases-loop-rest
decreases-loop-rest l = length l.rest
