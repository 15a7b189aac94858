use Rattle.std.proofs.Common.{◌≡◌, drop}
use Rattle.act_super.specs.Shapes.{same_rings}
use Rattle.act_super.proofs.same.same.Given as goal

abbrev pub invariant-loop-k : goal.invariant-loop-k
invariant-loop-k l = same_rings l.a l.b ≡ same_rings (drop l.k l.a) (drop l.k l.b)
