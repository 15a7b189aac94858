use Rattle.std.specs.List.{All, AllWithin}
use Rattle.act_grid.specs.Hull.{IsIn}
use Rattle.act_super.proofs.frame.frame_of.Given as goal

abbrev pub invariant-loop-k : goal.invariant-loop-k
invariant-loop-k l = AllWithin (λ ring. All (IsIn l.frame) ring) l.shape 0 l.k
