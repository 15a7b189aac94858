use Rattle.std.proofs.Common.{◌≡◌, ◌∷◌, drop}
use Rattle.std.specs.List.{list_any}
use Rattle.act_geom.specs.Edges.{edges_to, ring_edges}
use Rattle.act_geom.specs.Touch.{touches_hull}
use Rattle.act_geom.proofs.class.ring_touches.Given as goal

-- no edge so far touches the hull
abbrev pub invariant-loop-to : goal.invariant-loop-to
invariant-loop-to l =
    list_any (touches_hull l.hull) (edges_to l.first (l.from ∷ drop l.to-index l.to-items)) ≡ list_any (touches_hull l.hull) (ring_edges l.fn.ring)
