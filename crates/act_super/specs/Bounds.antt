-- What bounds edges: a box around them, and their ends.
use Rattle.std.specs.Prelude.{◌≡◌, ℕ, Bool, true, ◌||◌, cond, int_lt, List, [], ◌∷◌, All, drop, map, take}
use Rattle.std.specs.List.{flat_map, list_any}
use Rattle.act_grid.specs.declared.Point.{Point}
use Rattle.act_grid.specs.declared.Hull.{Hull}
use Rattle.act_grid.specs.Hull.{IsIn}
use Rattle.act_geom.specs.declared.class.Class.{Class}
use Rattle.act_geom.specs.declared.class.Class.TheVariants.{Inside, Outside, Mixed}
use Rattle.act_geom.specs.Edges.{Edge}
use Rattle.act_geom.specs.Inside.{counts, is_above, is_odd_by}
use Rattle.act_geom.specs.Touch.{touches_hull}
use Rattle.act_super.specs.declared.blocks.Side.{Side}
use Rattle.act_super.specs.declared.bounds.Bounds.{Bounds}
use Rattle.act_super.specs.declared.ends.Ends.{Ends}

abbrev pub edge_of : Side → Edge
edge_of side = record { a = side.a; b = side.b }

abbrev pub edges_in : List Side → List Edge
edges_in sides = map edge_of sides

-- both ends lie in the box
pub record IsSideIn (f : Hull) (s : Side) : Type 0 where
  pub from : IsIn f s.a
  pub to : IsIn f s.b

-- both ends of each edge
abbrev pub ends_of : List Side → List Point
ends_of sides = flat_map (λ s. s.a ∷ s.b ∷ []) sides

-- an odd number of the points that are kept lies above a row exactly where an odd number of these does, if each found its place
abbrev pub TellEnds : Ends → List Point → Type 0
TellEnds e ends = e.all ≡ true → (p : Point) → is_odd_by (λ v. is_above v p) (take e.len e.points) ≡ is_odd_by (λ v. is_above v p) ends

-- the edges have these bounds
pub record IsBound (b : Bounds) (sides : List Side) : Type 0 where
  pub framed : All (IsSideIn b.frame) sides
  pub told : TellEnds b.ends (ends_of sides)

-- each so many edges have their bounds
abbrev pub AreBound : ℕ → List Bounds → List Side → Type 0
AreBound n [] sides = sides ≡ []
AreBound n (b ∷ bounds) sides = IsBound b (take n sides) × AreBound n bounds (drop n sides)

-- the point lies below the box or above it
abbrev pub is_beside : Hull → Point → Bool
is_beside f p = int_lt p.y f.lo.y || int_lt f.hi.y p.y

-- how a shape of these edges lies on a hull
abbrev pub class_by : List Edge → Hull → Class
class_by edges h = cond (list_any (touches_hull h) edges) Mixed (cond (is_odd_by (counts h.lo) edges) Inside Outside)
