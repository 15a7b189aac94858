-- Coverings: the cells of a level that a shape may meet.
use Rattle.std.specs.Prelude.{ℕ, zero, suc, Bool, true, false, List, [], ◌∷◌}
use Rattle.std.specs.List.{flat_map, filter}
use Rattle.act_grid.specs.declared.Point.{Point}
use Rattle.act_grid.specs.Cell.{Address, root_cell, child_of, hull_of}
use Rattle.act_geom.specs.declared.class.Class.{Class}
use Rattle.act_geom.specs.declared.class.Class.TheVariants.{Inside, Outside, Mixed}
use Rattle.act_geom.specs.Class.{class_on}

-- how the shape lies on a cell
unfoldable pub class_at : List (List Point) → Address → Class
class_at rings c = class_on rings (hull_of c)

-- the class isn't Outside
abbrev pub is_on : Class → Bool
is_on Inside = true
is_on Outside = false
is_on Mixed = true

-- the class is Inside
abbrev pub is_within : Class → Bool
is_within Inside = true
is_within Outside = false
is_within Mixed = false

-- those of the cells that aren't Outside
abbrev pub cells_on : List (List Point) → List Address → List Address
cells_on rings cells = filter (λ c. is_on (class_at rings c)) cells

-- the quarters of a cell, in Z order
abbrev pub children_of : Address → List Address
children_of c = child_of c 0 ∷ child_of c 1 ∷ child_of c 2 ∷ child_of c 3 ∷ []

-- what a cell of this class gives way to: an Inside cell stays, a Mixed one is replaced by its children that aren't Outside
abbrev pub refined_as : Class → List (List Point) → Address → List Address
refined_as Inside rings c = c ∷ []
refined_as Outside rings c = []
refined_as Mixed rings c = cells_on rings (children_of c)

abbrev pub refined : List (List Point) → Address → List Address
refined rings c = refined_as (class_at rings c) rings c

-- the cells of a level: the root cell where it isn't Outside, and then what those of the level above give way to
unfoldable pub cells_at : List (List Point) → ℕ → List Address
cells_at rings zero = cells_on rings (root_cell ∷ [])
cells_at rings (suc level) = flat_map (refined rings) (cells_at rings level)
