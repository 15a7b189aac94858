-- The way down to a leaf.
use Rattle.std.specs.Prelude.{◌≡◌, ℕ, ◌+◌, ◌-◌, ◌*◌, ◌/◌, ◌^◌, ◌<◌, false, Option, Some, None}
use Rattle.act_grid.specs.declared.Point.{Point}
use Rattle.act_grid.specs.declared.Settings.{Settings}
use Rattle.act_grid.specs.Hull.{IsIn}
use Rattle.act_grid.specs.Cell.{Address, IsCell, hull_of}
use Rattle.act_entry.specs.declared.entry.Entry.{Entry}
use Rattle.act_entry.specs.declared.entry.Entry.TheVariants as entry
use Rattle.act_super.specs.declared.entry.State.{State}
use Rattle.act_super.specs.Grounds.{leaf_at}
use Rattle.act_super.specs.Nodes.{IsNode, entry_cell, first_leaf, ground_of, is_parted}
use Rattle.act_super.specs.Stands.{Layout, leaf_entry}
use Rattle.act_probe.specs.Reads.{nodes_above}

-- the id of the cell of level 30 that holds the point
pub record IsTop (id : ℕ) (p : Point) : Type 0 where
  pub odd : id ≡ id / 2 * 2 + 1
  pub cell : IsCell (record { level = 30; path = id / 2 })
  pub inside : IsIn (hull_of (record { level = 30; path = id / 2 })) p

-- the cell of a level above a cell of level 30
abbrev pub over : ℕ → ℕ → Address
over path l = record { level = l; path = path / 4 ^ (30 - l) }

-- the leaf that holds a point
abbrev pub leaf_of : Settings → State → Point → Address
leaf_of settings state p = leaf_at (ground_of settings state) state.zones p

-- the entry of a node that stands for the leaf, found after so many nodes
pub record IsReached (settings : Settings) (state : State) (layout : Layout) (p : Point) (found : Entry) (nodes : ℕ) : Type 0 where
  pub node : Address
  pub place : ℕ
  pub is_node : IsNode settings state node
  pub within : place < 256
  pub whole : is_parted settings state (entry_cell node place) ≡ false
  pub leaf : first_leaf settings state (entry_cell node place) ≡ leaf_of settings state p
  pub inside : IsIn (hull_of (leaf_of settings state p)) p
  pub is : found ≡ leaf_entry layout settings state node (leaf_of settings state p)
  pub count : nodes ≡ nodes_above (leaf_of settings state p)

-- the node of an entry, where it is one
abbrev pub child_in : Entry → Option ℕ
child_in (entry.Child row) = Some row
child_in entry.Empty = None
child_in (entry.One a) = None
child_in (entry.Two a b) = None
child_in (entry.Table row place) = None
