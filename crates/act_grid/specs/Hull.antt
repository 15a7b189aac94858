-- Closed boxes of grid points.
use Rattle.std.specs.Prelude.{ℕ, ◌-◌, ℤ, pos, ◌+ℤ◌, ◌≤ℤ◌}
use Rattle.act_grid.specs.declared.point.Point.{Point}
use Rattle.act_grid.specs.declared.hull.Hull.{Hull}

-- the point lies in the box, its border counted
pub record IsIn (h : Hull) (p : Point) : Type 0 where
  pub west : h.lo.x ≤ℤ p.x
  pub east : p.x ≤ℤ h.hi.x
  pub south : h.lo.y ≤ℤ p.y
  pub north : p.y ≤ℤ h.hi.y

-- the smaller box lies in the larger one, and has a point
pub record IsWithin (larger smaller : Hull) : Type 0 where
  pub low : IsIn larger smaller.lo
  pub high : IsIn larger smaller.hi
  pub wide : smaller.lo.x ≤ℤ smaller.hi.x
  pub tall : smaller.lo.y ≤ℤ smaller.hi.y

-- the grid points of the square with this low corner and side
abbrev pub square : ℤ → ℤ → ℕ → Hull
square x y side = record { lo = record { x = x; y = y }; hi = record { x = x +ℤ pos (side - 1); y = y +ℤ pos (side - 1) } }
