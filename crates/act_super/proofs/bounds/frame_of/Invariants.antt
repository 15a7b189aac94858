use Rattle.std.proofs.Common.{All, take}
use Rattle.act_super.specs.Bounds.{IsSideIn}
use Rattle.act_super.proofs.bounds.frame_of.Given as goal

-- the edges so far lie in the box
abbrev pub invariant-loop-side : goal.invariant-loop-side
invariant-loop-side l = All (IsSideIn l.frame) (take l.side-index l.sides)
