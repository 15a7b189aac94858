-- The edges of a shape.
use Rattle.std.specs.Prelude.{List, [], ◌∷◌, ◌++◌}
use Rattle.act_grid.specs.declared.Point.{Point}

-- the straight way from one vertex to another
pub record Edge : Type 0 where
  pub a : Point
  pub b : Point

-- from each vertex to the next, and from the last one to `first`
abbrev pub edges_to : Point → List Point → List Edge
edges_to first [] = []
edges_to first (a ∷ []) = record { a = a; b = first } ∷ []
edges_to first (a ∷ (b ∷ rest)) = record { a = a; b = b } ∷ edges_to first (b ∷ rest)

-- from each vertex of a ring to the next, and from its last one to its first
abbrev pub ring_edges : List Point → List Edge
ring_edges [] = []
ring_edges (a ∷ rest) = edges_to a (a ∷ rest)

-- the edges of all rings
abbrev pub edges_of : List (List Point) → List Edge
edges_of [] = []
edges_of (ring ∷ rest) = ring_edges ring ++ edges_of rest
