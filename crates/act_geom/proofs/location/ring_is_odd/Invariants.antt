use Rattle.std.proofs.Common.{◌≡◌, ◌∷◌, drop}
use Rattle.act_geom.specs.Edges.{edges_to, ring_edges}
use Rattle.act_geom.specs.Inside.{counts, differ, is_odd_by}
use Rattle.act_geom.proofs.location.ring_is_odd.Given as goal

-- the edges so far and those to come have the ring's parity
abbrev pub invariant-loop-to : goal.invariant-loop-to
invariant-loop-to l =
    differ l.odd (is_odd_by (counts l.p) (edges_to l.first (l.from ∷ drop l.to-index l.to-items))) ≡ is_odd_by (counts l.p) (ring_edges l.fn.ring)
