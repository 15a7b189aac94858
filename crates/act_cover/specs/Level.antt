-- The level of a covering: how deep a budget of cells reaches.
use Rattle.std.specs.Prelude.{ℕ, zero, suc, Bool, ◌&&◌, cond, nat_le, List, length}
use Rattle.std.specs.List.{filter}
use Rattle.act_grid.specs.declared.Point.{Point}
use Rattle.act_grid.specs.Cell.{Address}
use Rattle.act_cover.specs.Covering.{class_at, is_within, cells_at}

-- each level from 0 to this one has at most so many cells
unfoldable pub fits_to : List (List Point) → ℕ → ℕ → Bool
fits_to rings most zero = nat_le (length (cells_at rings 0)) most
fits_to rings most (suc level) = fits_to rings most level && nat_le (length (cells_at rings (suc level))) most

-- the greatest number up to n that passes the test, and 0 where none above 0 does
unfoldable pub greatest : (ℕ → Bool) → ℕ → ℕ
greatest test zero = 0
greatest test (suc n) = cond (test (suc n)) (suc n) (greatest test n)

-- the greatest level up to 28 to which the cells fit
unfoldable pub level_of : List (List Point) → ℕ → ℕ
level_of rings most = greatest (fits_to rings most) 28

-- the covering for a budget of cells: the cells of that level
unfoldable pub covering_of : List (List Point) → ℕ → List Address
covering_of rings most = cells_at rings (level_of rings most)

-- the interior covering: its Inside cells
unfoldable pub interior_of : List (List Point) → ℕ → List Address
interior_of rings most = filter (λ c. is_within (class_at rings c)) (covering_of rings most)
