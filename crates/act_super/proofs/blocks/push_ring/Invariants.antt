use Rattle.std.proofs.Common.{◌≡◌, ◌++◌, ◌∷◌, drop}
use Rattle.act_geom.specs.Edges.{edges_to, ring_edges}
use Rattle.act_super.specs.Bounds.{edges_in}
use Rattle.act_super.proofs.blocks.push_ring.Given as goal

-- the edges so far and those to come are those of the ring
abbrev pub invariant-loop-to : goal.invariant-loop-to
invariant-loop-to l = edges_in l.sides.items ++ edges_to l.first (l.from ∷ drop l.to-index l.to-items) ≡ edges_in l.fn.sides.items ++ ring_edges l.ring
