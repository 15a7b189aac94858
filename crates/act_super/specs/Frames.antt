-- Boxes around shapes.
use Rattle.std.specs.Prelude.{◌≤ℤ◌, Bool, ◌&&◌, ◌||◌, int_le, int_lt, List, All}
use Rattle.act_grid.specs.declared.Point.{Point}
use Rattle.act_grid.specs.declared.Hull.{Hull}
use Rattle.act_grid.specs.Hull.{IsIn}

-- each vertex lies in the box
abbrev pub IsFrame : Hull → List (List Point) → Type 0
IsFrame f rings = All (λ ring. All (IsIn f) ring) rings

-- the second box reaches as far as the first one on each side
pub record IsWider (f g : Hull) : Type 0 where
  pub west : g.lo.x ≤ℤ f.lo.x
  pub east : f.hi.x ≤ℤ g.hi.x
  pub south : g.lo.y ≤ℤ f.lo.y
  pub north : f.hi.y ≤ℤ g.hi.y

-- the boxes share no point
abbrev pub is_apart : Hull → Hull → Bool
is_apart f h = (int_lt f.hi.x h.lo.x || int_lt h.hi.x f.lo.x) || (int_lt f.hi.y h.lo.y || int_lt h.hi.y f.lo.y)

-- each corner of the second box lies in the first
abbrev pub is_around : Hull → Hull → Bool
is_around h f = (int_le h.lo.x f.lo.x && int_le f.hi.x h.hi.x) && (int_le h.lo.y f.lo.y && int_le f.hi.y h.hi.y)
