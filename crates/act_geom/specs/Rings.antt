-- The rings of a shape: lists of vertices, the closing vertex not repeated.
use Rattle.std.specs.Prelude.{ℕ, ◌≤◌, List, length, sum_by, All}
use Rattle.act_grid.specs.declared.Point.{Point}
use Rattle.act_geom.specs.declared.shape.TheConstants.{MOST_VERTICES}

-- how many vertices the rings have together
abbrev pub vertices_of : List (List Point) → ℕ
vertices_of rings = sum_by length rings

-- what the rings of each shape keep: at least three vertices a ring, and not too many in all
pub record IsShape (rings : List (List Point)) : Type 0 where
  pub full : All (λ ring. 3 ≤ length ring) rings
  pub few : vertices_of rings ≤ MOST_VERTICES
