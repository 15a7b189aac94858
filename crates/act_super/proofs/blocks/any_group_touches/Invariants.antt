use Rattle.std.proofs.Common.{◌≡◌, drop}
use Rattle.std.specs.List.{list_any}
use Rattle.act_geom.specs.Touch.{touches_hull}
use Rattle.act_super.specs.Bounds.{AreBound, edges_in}
use Rattle.act_super.proofs.blocks.any_group_touches.Given as goal

-- no edge so far touches the hull
abbrev pub invariant-loop-bounds : goal.invariant-loop-bounds
invariant-loop-bounds l = record {
  bound : AreBound 1024 (drop l.bounds-index l.groups) l.rest;
  under : AreBound 16 l.under l.rest;
  none : list_any (touches_hull l.hull) (edges_in l.rest) ≡ list_any (touches_hull l.hull) (edges_in l.sides);
}
