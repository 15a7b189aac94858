-- Cells that are held with their classes.
use Rattle.std.specs.Prelude.{◌≡◌, ℕ, ◌+◌, ◌<◌, ◌≤◌, Bool, List, ◌++◌, length, map, MatchBool}
use Rattle.std.specs.List.{All}
use Rattle.act_grid.specs.declared.Point.{Point}
use Rattle.act_grid.specs.Cell.{Address}
use Rattle.act_cover.specs.declared.held.Held.{Held}
use Rattle.act_cover.specs.Covering.{class_at, cells_at}

-- the class that is held of the cell is its class
abbrev pub IsTrueOf : List (List Point) → Held → Type 0
IsTrueOf rings h = class_at rings h.cell ≡ h.class

-- the cells that are held
abbrev pub cells_of : List Held → List Address
cells_of held = map (λ (h : Held). h.cell) held

-- the cells were put at the end, within the budget
pub record IsPut (rings : List (List Point)) (most : ℕ) (old new : List Held) (more : List Address) : Type 0 where
  pub cells : cells_of new ≡ cells_of old ++ more
  pub true_of : All (IsTrueOf rings) new
  pub fits : length old ≤ most → length new ≤ most

-- the cells were put, or the budget was too small for them
abbrev pub Puts : List (List Point) → ℕ → List Held → List Held → List Address → Bool → Type 0
Puts rings most old new cells room = MatchBool room (IsPut rings most old new cells) (most < length old + length cells)

-- the cells of a level are held
pub record IsReached (rings : List (List Point)) (level : ℕ) (held : List Held) : Type 0 where
  pub cells : cells_of held ≡ cells_at rings level
  pub true_of : All (IsTrueOf rings) held
