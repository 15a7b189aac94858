-- The words of a shape's body, as they stand in rows.
use Rattle.std.specs.Prelude.{ℕ, ℤ, pos, negsuc, ◌+◌, ◌-◌, ◌*◌, ◌^◌, Bool, cond, ◌&&◌, nat_lt, List, ◌∷◌, length, map}
use Rattle.std.specs.List.{flat_map}
use Rattle.act_grid.specs.declared.Point.{Point}

-- how far a coordinate is from the low side of the grid
abbrev pub offset_of : ℤ → ℕ
offset_of (pos n) = n + 2 ^ 31
offset_of (negsuc n) = 2 ^ 31 - 1 - n

-- the coordinate is on the grid
abbrev pub is_on_grid : ℤ → Bool
is_on_grid (pos n) = nat_lt n (2 ^ 31)
is_on_grid (negsuc n) = nat_lt n (2 ^ 31)

-- the word of a vertex; a point off the grid has none, and 2^64 stands for that
abbrev pub vertex_word : Point → ℕ
vertex_word p = cond (is_on_grid p.x && is_on_grid p.y) (offset_of p.x * 2 ^ 32 + offset_of p.y) (2 ^ 64)

-- the number of vertices, and then the vertices
abbrev pub ring_words : List Point → List ℕ
ring_words ring = length ring ∷ map vertex_word ring

-- the number of rings, and then the rings
abbrev pub body_of : List (List Point) → List ℕ
body_of rings = length rings ∷ flat_map ring_words rings
