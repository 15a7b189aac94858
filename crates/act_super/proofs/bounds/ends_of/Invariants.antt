use Rattle.std.proofs.Common.{take}
use Rattle.act_super.specs.Bounds.{TellEnds, ends_of}
use Rattle.act_super.proofs.bounds.ends_of.Given as goal

-- the ends of the edges so far
abbrev pub invariant-loop-side : goal.invariant-loop-side
invariant-loop-side l = TellEnds l.ends (ends_of (take l.side-index l.sides))
