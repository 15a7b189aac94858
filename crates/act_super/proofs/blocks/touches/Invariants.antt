use Rattle.std.proofs.Common.{◌≡◌, drop}
use Rattle.std.specs.List.{list_any}
use Rattle.act_geom.specs.Touch.{touches_hull}
use Rattle.act_super.specs.Bounds.{edges_in}
use Rattle.act_super.proofs.blocks.touches.Given as goal

-- no edge so far touches the hull
abbrev pub invariant-loop-side : goal.invariant-loop-side
invariant-loop-side l = list_any (touches_hull l.hull) (edges_in (drop l.side-index l.sides)) ≡ list_any (touches_hull l.hull) (edges_in l.sides)
