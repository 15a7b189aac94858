-- Equal shapes, as a test.
use Rattle.std.specs.Prelude.{Bool, ◌&&◌, List}
use lib.Pointwise.{pointwise}
use Rattle.std.specs.Ordering.{int_eq}
use Rattle.act_grid.specs.declared.Point.{Point}

abbrev pub same_point : Point → Point → Bool
same_point p q = int_eq p.x q.x && int_eq p.y q.y

-- the two shapes have the same list of rings
abbrev pub same_rings : List (List Point) → List (List Point) → Bool
same_rings a b = pointwise (pointwise same_point) a b
