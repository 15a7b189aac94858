-- Edges that touch a closed box of grid points.
use Rattle.std.specs.Prelude.{◌≡◌, Bool, false, not, ◌&&◌, ◌||◌, int_lt, List, All}
use Rattle.act_grid.specs.declared.Point.{Point}
use Rattle.act_grid.specs.declared.Hull.{Hull}
use Rattle.act_geom.specs.Edges.{Edge, edges_of}
use Rattle.act_geom.specs.Inside.{is_left}

-- the closed box of the edge meets the hull
abbrev pub box_meets : Hull → Edge → Bool
box_meets h e =
    (not (int_lt e.a.x h.lo.x && int_lt e.b.x h.lo.x) && not (int_lt h.hi.x e.a.x && int_lt h.hi.x e.b.x))
    && (not (int_lt e.a.y h.lo.y && int_lt e.b.y h.lo.y) && not (int_lt h.hi.y e.a.y && int_lt h.hi.y e.b.y))

-- the four corners of the hull lie strictly on the left of the way from a to b
abbrev pub all_left : Hull → Point → Point → Bool
all_left h a b =
    (is_left a b (record { x = h.lo.x; y = h.lo.y }) && is_left a b (record { x = h.hi.x; y = h.lo.y }))
    && (is_left a b (record { x = h.lo.x; y = h.hi.y }) && is_left a b (record { x = h.hi.x; y = h.hi.y }))

-- the boxes meet, and the corners don't all lie strictly on one side of the edge's line
abbrev pub touches_hull : Hull → Edge → Bool
touches_hull h e = box_meets h e && not (all_left h e.a e.b || all_left h e.b e.a)

-- no edge of the rings touches the hull
abbrev pub Misses : Hull → List (List Point) → Type 0
Misses h rings = All (λ e. touches_hull h e ≡ false) (edges_of rings)
