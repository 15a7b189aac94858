use Rattle.std.proofs.Common.{◌≡◌, ◌++◌, drop}
use Rattle.act_geom.specs.Edges.{edges_of}
use Rattle.act_super.specs.Bounds.{edges_in}
use Rattle.act_super.proofs.blocks.Blocks.of.Given as goal

-- the edges so far and those of the rings to come are those of the shape
abbrev pub invariant-loop-k : goal.invariant-loop-k
invariant-loop-k l = edges_in l.sides.items ++ edges_of (drop l.k l.shape) ≡ edges_of l.shape
