use Rattle.std.proofs.Common.{◌≡◌, drop}
use Rattle.std.specs.List.{list_any}
use Rattle.act_geom.specs.Edges.{edges_of}
use Rattle.act_geom.specs.Touch.{touches_hull}
use Rattle.act_geom.proofs.class.class_of.Given as goal

-- no edge so far touches the hull
abbrev pub invariant-loop-k : goal.invariant-loop-k
invariant-loop-k l = list_any (touches_hull l.hull) (edges_of (drop l.k l.shape)) ≡ list_any (touches_hull l.hull) (edges_of l.shape)
