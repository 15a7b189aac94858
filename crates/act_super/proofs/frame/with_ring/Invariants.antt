use Rattle.std.specs.List.{AllWithin}
use Rattle.act_grid.specs.Hull.{IsIn}
use Rattle.act_super.specs.Frames.{IsWider}
use Rattle.act_super.proofs.frame.with_ring.Given as goal

abbrev pub invariant-loop-p : goal.invariant-loop-p
invariant-loop-p l = IsWider l.fn.frame l.wide × AllWithin (IsIn l.wide) l.ring 0 l.p-index
