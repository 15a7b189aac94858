-- Cells: the squares that come from the domain by quartering it again and again.
use Rattle.std.specs.Prelude.{◌≡◌, ℕ, zero, suc, ◌+◌, ◌-◌, ◌*◌, ◌/◌, ◌%◌, ◌^◌, ◌<◌, ◌≤◌, pos, ◌-ℤ◌}
use Rattle.act_grid.specs.declared.hull.Hull.{Hull}
use Rattle.act_grid.specs.Hull.{square}

-- how often the domain was quartered, and the child numbers from the top, two bits each
pub record Address : Type 0 where
  pub level : ℕ
  pub path : ℕ

-- at most 30 levels, and a child number for each
pub record IsCell (c : Address) : Type 0 where
  pub deep : c.level ≤ 30
  pub short : c.path < 4 ^ c.level

-- the whole domain
abbrev pub root_cell : Address
root_cell = record { level = 0; path = 0 }

-- a quarter of the cell
abbrev pub child_of : Address → ℕ → Address
child_of c q = record { level = c.level + 1; path = c.path * 4 + q }

-- the cell of which it is a quarter
abbrev pub parent_of : Address → Address
parent_of c = record { level = c.level - 1; path = c.path / 4 }

-- the number of the cell: its path, a bit 1, and bits 0 up to 61 bits
abbrev pub id_of : Address → ℕ
id_of c = c.path * 2 ^ (61 - 2 * c.level) + 2 ^ (60 - 2 * c.level)

-- the side in grid units
abbrev pub side_of : Address → ℕ
side_of c = 2 ^ (32 - c.level)

-- how many cells of the level lie west of the one with this path: the low bits of the child numbers
unfoldable pub column : ℕ → ℕ → ℕ
column zero path = 0
column (suc level) path = column level (path / 4) * 2 + path % 2

-- how many lie south of it: the high bits
abbrev pub row : ℕ → ℕ → ℕ
row level path = column level (path / 2)

-- the grid points of the cell
abbrev pub hull_of : Address → Hull
hull_of c =
    square (pos (column c.level c.path * side_of c) -ℤ pos (2 ^ 31)) (pos (row c.level c.path * side_of c) -ℤ pos (2 ^ 31)) (side_of c)

-- the second cell is the first one or lies in it: its path begins with that of the first
pub record IsPart (c d : Address) : Type 0 where
  pub below : c.level ≤ d.level
  pub begins : d.path / 4 ^ (d.level - c.level) ≡ c.path

-- all grid points of the first cell come before all of the second in Z order
abbrev pub ComesBefore : Address → Address → Type 0
ComesBefore c d = (c.path + 1) * 4 ^ (30 - c.level) ≤ d.path * 4 ^ (30 - d.level)

-- the entries of a node of this level that the cell fills: the first one, and how many
abbrev pub first_entry : Address → ℕ → ℕ
first_entry c node_level = c.path % 4 ^ (c.level - node_level) * 4 ^ (node_level + 4 - c.level)

abbrev pub entries_filled : Address → ℕ → ℕ
entries_filled c node_level = 4 ^ (node_level + 4 - c.level)

-- the cell of an entry of the node of this level above the cell
abbrev pub entry_cell : Address → ℕ → ℕ → Address
entry_cell c node_level entry = record { level = node_level + 4; path = c.path / 4 ^ (c.level - node_level) * 256 + entry }
