-- Zones that stand, with what is kept beside their shapes.
use Rattle.std.specs.Prelude.{◌≡◌, ℕ, ◌+◌, List, [], map, All, sum_by}
use Rattle.std.specs.Borrow.{Bor}
use Rattle.act_grid.specs.declared.Point.{Point}
use Rattle.act_grid.specs.Cell.{Address, root_cell}
use Rattle.act_cover.specs.Covering.{class_at}
use Rattle.act_super.specs.declared.standing.Standing.{Standing}
use Rattle.act_cover.specs.Level.{level_of}
use Rattle.act_super.specs.Grounds.{Ground, is_among}
use Rattle.act_super.specs.Packs.{node_rows}
use Rattle.act_super.specs.Sizes.{chain_rows}
use Rattle.act_super.specs.Trees.{most, under}

-- the standings behind references
abbrev pub values : List (Bor Standing) → List Standing
values refs = map (λ r. r.now) refs

-- standings on the grid, with these trained cells
abbrev pub standing_ground : List Address → Ground Standing
standing_ground trained = record { class = λ s c. class_at s.shape c; level = λ s. s.level; trained = is_among trained }

-- the rows of these standings with these trained cells
unfoldable pub standing_rows : List Address → List Standing → ℕ
standing_rows trained standings = node_rows (under (standing_ground trained) standings root_cell) + sum_by (λ s. chain_rows s.shape) standings

-- the greatest number of references of a leaf, where no cell is trained
unfoldable pub standing_most : List Standing → ℕ
standing_most standings = most (under (standing_ground []) standings root_cell)

-- beside each shape stands its Level
abbrev pub AreLevelled : ℕ → List Standing → Type 0
AreLevelled cells standings = All (λ (s : Standing). s.level ≡ level_of s.shape cells) standings

abbrev pub shapes_in : List Standing → List (List (List Point))
shapes_in standings = map (λ (s : Standing). s.shape) standings
