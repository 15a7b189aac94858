-- Entries of a history as lists of numbers, which tell them.
use Rattle.std.specs.Prelude.{◌≡◌, ◌==◌, ◌++◌, ℕ, ℤ, pos, negsuc, ◌+◌, if◌then◌else◌, List, [], ◌∷◌, length, slice_index}
use Rattle.std.specs.List.{flat_map}
use Rattle.act_grid.specs.declared.Point.{Point}
use Rattle.act_grid.specs.declared.Settings.{Settings}
use Rattle.act_grid.specs.Cell.{Address}
use Rattle.act_super.specs.declared.entry.Entry.{Entry}
use Rattle.act_super.specs.declared.entry.Entry.TheVariants as entry
use Rattle.act_super.specs.Histories.{IsLegal}
use Rattle.act_rows.specs.History.{History}

-- a coordinate by its sign and how far it is from 0 or from -1
abbrev pub coordinate_code : ℤ → List ℕ
coordinate_code (pos n) = 0 ∷ n ∷ []
coordinate_code (negsuc n) = 1 ∷ n ∷ []

abbrev pub point_code : Point → List ℕ
point_code p = coordinate_code p.x ++ coordinate_code p.y

-- a list by its length and then its items
abbrev pub ring_code : List Point → List ℕ
ring_code ring = length ring ∷ flat_map point_code ring

abbrev pub shape_code : List (List Point) → List ℕ
shape_code rings = length rings ∷ flat_map ring_code rings

abbrev pub cell_code : Address → List ℕ
cell_code cell = cell.level ∷ cell.path ∷ []

abbrev pub cells_code : List Address → List ℕ
cells_code cells = length cells ∷ flat_map cell_code cells

abbrev pub settings_code : Settings → List ℕ
settings_code settings = settings.digits ∷ settings.rows ∷ settings.cells ∷ settings.workers ∷ []

-- an entry by its kind, the settings, and what it is made of
abbrev pub code : Settings → Entry → List ℕ
code settings (entry.Add key shape) = 0 ∷ settings_code settings ++ key ∷ shape_code shape
code settings (entry.DropZone key) = 1 ∷ settings_code settings ++ key ∷ []
code settings (entry.Train cells) = 2 ∷ settings_code settings ++ cells_code cells
code settings (entry.Replace key shape) = 3 ∷ settings_code settings ++ key ∷ shape_code shape

abbrev pub codes : Settings → List Entry → History
codes settings [] = []
codes settings (change ∷ changes) = code settings change ∷ codes settings changes

-- the history is that of these entries, each of them legal
pub record IsTold (h : History) (settings : Settings) (entries : List Entry) : Type 0 where
  pub coded : h ≡ codes settings entries
  pub legal : IsLegal settings entries

-- how many entries of a history aren't trainings
abbrev pub updates_in : History → ℕ
updates_in [] = 0
updates_in (x ∷ xs) = (if slice_index x 0 == 2 then 0 else 1) + updates_in xs
