-- How many rows a state takes, and how many references a leaf has.
use Rattle.std.specs.Prelude.{ℕ, ◌+◌, ◌/◌, List, [], length, map, filter, sum_by}
use Rattle.act_grid.specs.declared.Point.{Point}
use Rattle.act_grid.specs.declared.Settings.{Settings}
use Rattle.act_grid.specs.Cell.{Address, root_cell}
use Rattle.act_geom.specs.Rings.{vertices_of}
use Rattle.act_cover.specs.Covering.{class_at, is_on, is_within}
use Rattle.act_super.specs.declared.entry.Zone.{Zone}
use Rattle.act_super.specs.declared.entry.State.{State}
use Rattle.act_super.specs.declared.refs.ZoneRef.{ZoneRef}
use Rattle.act_super.specs.Grounds.{leaf_at, zone_ground}
use Rattle.act_super.specs.Trees.{most, under}
use Rattle.act_super.specs.Packs.{node_rows}

-- the rows of a shape's chain: 255 words of its body a row, the body having a word for the number of rings, for each
-- ring and for each vertex
abbrev pub chain_rows : List (List Point) → ℕ
chain_rows shape = (1 + length shape + vertices_of shape + 254) / 255

-- the rows of all zones' chains
abbrev pub chains_of : List Zone → ℕ
chains_of zones = sum_by (λ zone. chain_rows zone.shape) zones

-- the rows of the nodes and of their lists, where these cells are trained
unfoldable pub tree_rows : Settings → List Zone → List Address → ℕ
tree_rows settings zones trained = node_rows (under (zone_ground settings trained) zones root_cell)

-- the rows of these zones with these trained cells
unfoldable pub rows_with : Settings → List Zone → List Address → ℕ
rows_with settings zones trained = tree_rows settings zones trained + chains_of zones

-- the Size of a state
abbrev pub size_of : Settings → State → ℕ
size_of settings state = rows_with settings state.zones state.trained

-- the greatest number of references of a leaf, where no cell is trained
unfoldable pub most_references : Settings → List Zone → ℕ
most_references settings zones = most (under (zone_ground settings []) zones root_cell)

-- the references of a leaf: the zones that aren't Outside on it, by ascending key, each a true hit where it is Inside
abbrev pub refs_of : List Zone → Address → List ZoneRef
refs_of zones c =
    map (λ (zone : Zone). record { key = zone.key; hit = is_within (class_at zone.shape c) }) (filter (λ zone. is_on (class_at zone.shape c)) zones)

-- the leaf of a state that holds the point
abbrev pub leaf_of : Settings → State → Point → Address
leaf_of settings state p = leaf_at (zone_ground settings state.trained) state.zones p
