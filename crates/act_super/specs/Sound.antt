-- What is kept of a state, and of a change that was prepared on it.
use Rattle.std.specs.Prelude.{◌≡◌, ◌⊎◌, ◌<◌, ◌≤◌, ◌+◌, ◌++◌, ℕ, List, [], ◌∷◌, Option, Some, None, length, take, drop}
use Rattle.std.specs.Borrow.{Bor}
use Rattle.act_grid.specs.declared.Settings.{Settings}
use Rattle.act_grid.specs.Cell.{Address}
use Rattle.act_cover.specs.Level.{level_of}
use Rattle.act_super.specs.declared.next.Change.{Change}
use Rattle.act_super.specs.declared.next.Change.TheVariants as change
use Rattle.act_super.specs.declared.standing.Standing.{Standing}
use Rattle.act_super.specs.Places.{IsRising, zones_with}
use Rattle.act_super.specs.Packs.{reference_limit}
use Rattle.act_super.specs.Sizes.{most_references, rows_with}
use Rattle.act_super.specs.Standings.{AreLevelled, shapes_in, standing_rows}
use Rattle.act_super.specs.Training.{fit, most_trained}

-- the keys ascend, a standing with its Level stands beside each, the trained cells are their own Fit, and the two numbers
-- are the Size of the state and what it is with no trained cell
pub record IsSound (settings : Settings) (keys : List ℕ) (standings : List Standing) (trained : List Address) (size plain : ℕ) : Type 0 where
  pub lengths : length standings ≡ length keys
  pub rising : IsRising keys
  pub few : length keys ≤ 4294967295
  pub levels : AreLevelled settings.cells standings
  pub sized : size ≡ rows_with settings (zones_with keys (shapes_in standings)) trained
  pub plainly : plain ≡ rows_with settings (zones_with keys (shapes_in standings)) []
  pub fits : size ≤ settings.rows
  pub plain_fits : plain ≤ settings.rows
  pub referenced : most_references settings (zones_with keys (shapes_in standings)) ≤ reference_limit
  pub kept : fit settings (zones_with keys (shapes_in standings)) trained ≡ trained
  pub few_trained : length trained ≤ most_trained

-- the standing that a change brings has its Level for this budget of cells, and the cells that a training adds begin in
-- the trained list
abbrev pub IsLevelled : ℕ → List Address → Change → Type 0
IsLevelled cells trained (change.Add key s) = s.level ≡ level_of s.shape cells
IsLevelled cells trained (change.DropZone key) = Unit {0}
IsLevelled cells trained (change.Replace key s) = s.level ≡ level_of s.shape cells
IsLevelled cells trained (change.Train from) = from ≤ length trained

-- the standing behind a reference, where there is one
abbrev pub lone : Option (Bor Standing) → List Standing
lone None = []
lone (Some r) = r.now ∷ []

-- the standings before a place, perhaps one more, and those from a place on
abbrev pub spliced : List Standing → ℕ → Option (Bor Standing) → ℕ → List Standing
spliced standings from new to = take from standings ++ lone new ++ drop to standings

-- of these standings and cells the second are the first of them, and as many fit as they are, at each step
pub record IsStart (limit : ℕ) (standings : List Standing) (cells taken : List Address) : Type 0 where
  pub first : taken ≡ take (length taken) cells
  pub within : length taken ≤ length cells
  pub few : length taken ≤ most_trained
  pub each : (n : ℕ) → n ≤ length taken → standing_rows (take n cells) standings ≤ limit

-- of these standings and cells the second are the first of them up to the first one that doesn't fit
pub record IsFit (limit : ℕ) (standings : List Standing) (cells taken : List Address) : Type 0 where
  pub first : taken ≡ take (length taken) cells
  pub within : length taken ≤ length cells
  pub few : length taken ≤ most_trained
  pub each : (n : ℕ) → n ≤ length taken → standing_rows (take n cells) standings ≤ limit
  pub last : (length taken ≡ length cells) ⊎ ((length taken ≡ most_trained) ⊎ (limit < standing_rows (take (length taken + 1) cells) standings))
