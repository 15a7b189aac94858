-- Trained cells with their ids for looking up.
use Rattle.std.specs.Prelude.{ℕ, List, All, map}
use Rattle.std.specs.List.Sorted.{IsNonDecreasing, IsPermutation}
use Rattle.act_grid.specs.Cell.{Address, IsCell, id_of}

-- the second list has the ids of the cells in ascending order
pub record IsIndexed (cells : List Address) (ids : List ℕ) : Type 0 where
  pub each : All IsCell cells
  pub same : IsPermutation (map id_of cells) ids
  pub rises : IsNonDecreasing ids
