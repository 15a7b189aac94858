-- Point in polygon by the crossing-number rule of the textbooks, over whole numbers.
use Rattle.std.specs.Prelude.{ℤ, pos, ◌-ℤ◌, ◌*ℤ◌, Bool, true, false, cond, not, int_lt, List, [], ◌∷◌}
use Rattle.act_grid.specs.declared.Point.{Point}
use Rattle.act_geom.specs.Edges.{Edge, edges_of}

-- above 0 where p lies on the left of the way from a to b, below 0 on the right, 0 on its line
abbrev pub side : Point → Point → Point → ℤ
side a b p = (b.x -ℤ a.x) *ℤ (p.y -ℤ a.y) -ℤ (p.x -ℤ a.x) *ℤ (b.y -ℤ a.y)

-- p lies strictly on the left of the way from a to b
abbrev pub is_left : Point → Point → Point → Bool
is_left a b p = int_lt (pos 0) (side a b p)

-- v lies strictly above the row of p
abbrev pub is_above : Point → Point → Bool
is_above v p = int_lt p.y v.y

-- exactly one end is above the point, which lies on the left of the way from the lower end to the upper
abbrev pub counts : Point → Edge → Bool
counts p e =
    cond (is_above e.a p) (cond (is_above e.b p) false (is_left e.b e.a p)) (cond (is_above e.b p) (is_left e.a e.b p) false)

-- exactly one of the two is true
abbrev pub differ : Bool → Bool → Bool
differ true b = not b
differ false b = b

-- an odd number of items passes
abbrev pub is_odd_by : {X : Type 0} → (X → Bool) → List X → Bool
is_odd_by f [] = false
is_odd_by f (x ∷ xs) = differ (f x) (is_odd_by f xs)

-- an odd number of edges counts for the point
abbrev pub is_inside : List (List Point) → Point → Bool
is_inside rings p = is_odd_by (counts p) (edges_of rings)
