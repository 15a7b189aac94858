-- How a shape lies on a closed box of grid points.
use Rattle.std.specs.Prelude.{cond, List}
use Rattle.std.specs.List.{list_any}
use Rattle.act_grid.specs.declared.Point.{Point}
use Rattle.act_grid.specs.declared.Hull.{Hull}
use Rattle.act_geom.specs.declared.class.Class.{Class}
use Rattle.act_geom.specs.declared.class.Class.TheVariants.{Inside, Outside, Mixed}
use Rattle.act_geom.specs.Edges.{edges_of}
use Rattle.act_geom.specs.Inside.{is_inside}
use Rattle.act_geom.specs.Touch.{touches_hull}

-- Mixed where an edge touches the hull, else as its first point is
abbrev pub class_on : List (List Point) → Hull → Class
class_on rings h = cond (list_any (touches_hull h) (edges_of rings)) Mixed (cond (is_inside rings h.lo) Inside Outside)
