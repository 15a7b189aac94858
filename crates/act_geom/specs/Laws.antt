-- Laws of touching and of classes.
use Rattle.std.specs.Prelude.{◌≡◌, ◌≢◌, true, false, List}
use Rattle.act_grid.specs.declared.Point.{Point}
use Rattle.act_grid.specs.declared.Hull.{Hull}
use Rattle.act_grid.specs.Hull.{IsIn, IsWithin}
use Rattle.act_grid.specs.Cell.{Address, hull_of}
use Rattle.act_geom.specs.declared.class.Class.TheVariants.{Inside, Outside, Mixed}
use Rattle.act_geom.specs.Edges.{Edge}
use Rattle.act_geom.specs.Inside.{is_inside}
use Rattle.act_geom.specs.Touch.{touches_hull, Misses}
use Rattle.act_geom.specs.Class.{class_on}

-- where no edge touches a cell, all its grid points are inside or none is
abbrev pub PureCellHasOneAnswer : Type 0
PureCellHasOneAnswer =
    (c : Address) (rings : List (List Point)) (p q : Point) → Misses (hull_of c) rings
    → IsIn (hull_of c) p → IsIn (hull_of c) q → is_inside rings p ≡ is_inside rings q

-- the grid points of a box that is Inside are inside
abbrev pub InsideAnswers : Type 0
InsideAnswers =
    (rings : List (List Point)) (h : Hull) (p : Point) → IsIn h p → class_on rings h ≡ Inside → is_inside rings p ≡ true

-- those of a box that is Outside are not
abbrev pub OutsideAnswers : Type 0
OutsideAnswers =
    (rings : List (List Point)) (h : Hull) (p : Point) → IsIn h p → class_on rings h ≡ Outside → is_inside rings p ≡ false

-- an edge that misses a box misses each box in it
abbrev pub TouchingGoesUp : Type 0
TouchingGoesUp = (h k : Hull) (e : Edge) → IsWithin h k → touches_hull h e ≡ false → touches_hull k e ≡ false

-- what is Inside or Outside on a box is so on each box in it
abbrev pub ClassGoesDown : Type 0
ClassGoesDown =
    (rings : List (List Point)) (h k : Hull) → IsWithin h k → class_on rings h ≢ Mixed → class_on rings k ≡ class_on rings h
