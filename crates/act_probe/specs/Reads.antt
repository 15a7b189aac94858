-- How many words of rows are read for a point.
use Rattle.std.specs.Prelude.{ℕ, ◌+◌, ◌-◌, ◌/◌, ◌==◌, ◌&&◌, cond, nat_lt, length, sum_by}
use Rattle.act_grid.specs.declared.layers.Layers.{Layers}
use Rattle.act_grid.specs.declared.Point.{Point}
use Rattle.act_grid.specs.declared.Settings.{Settings}
use Rattle.act_grid.specs.Cell.{Address}
use Rattle.act_grid.specs.Layers.{has_layer, layer_of}
use Rattle.act_geom.specs.Body.{body_of}
use Rattle.act_cover.specs.Covering.{class_at}
use Rattle.act_super.specs.declared.entry.State.{State}
use Rattle.act_super.specs.declared.entry.Zone.{Zone}
use Rattle.act_super.specs.Grounds.{is_mixed, leaf_at}
use Rattle.act_super.specs.Nodes.{count_at, ground_of}
use Rattle.act_super.specs.Packs.{list_words}
use Rattle.act_super.specs.Sizes.{chain_rows}

-- the nodes on the way to a leaf
abbrev pub nodes_above : Address → ℕ
nodes_above leaf = cond (leaf.level == 0) 1 ((leaf.level + 3) / 4)

-- the words of a leaf's list, where it has one
abbrev pub list_reads : ℕ → ℕ
list_reads n = cond (nat_lt 2 n) (list_words n) 0

-- the words of a shape's body, and the first words of its chain's rows after the first
abbrev pub body_reads : Zone → ℕ
body_reads zone = length (body_of zone.shape) + (chain_rows zone.shape - 1)

-- the words of a zone that has to be tested on a leaf
abbrev pub test_reads : Layers → Address → Zone → ℕ
test_reads layers leaf zone = cond (is_mixed (class_at zone.shape leaf) && has_layer layers (layer_of zone.key)) (body_reads zone) 0

-- the words that are read for a point: a word a node, those of the list, a word a reference, and those of the zones to be tested
unfoldable pub reads_of : Settings → State → Point → Layers → ℕ
reads_of settings state p layers =
    let leaf = leaf_at (ground_of settings state) state.zones p in
    nodes_above leaf + list_reads (count_at state leaf) + count_at state leaf + sum_by (test_reads layers leaf) state.zones
