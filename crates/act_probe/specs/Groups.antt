-- The ways of several points down to their leaves.
use Rattle.std.specs.Prelude.{◌≡◌, ℕ, ◌*◌, ◌/◌, Option, Some, None}
use Rattle.act_grid.specs.declared.Settings.{Settings}
use Rattle.act_entry.specs.declared.entry.Entry.{Entry}
use Rattle.act_entry.specs.Entries.{entry_of}
use Rattle.act_super.specs.declared.entry.State.{State}
use Rattle.act_super.specs.Nodes.{IsNode}
use Rattle.act_super.specs.Stands.{Layout}
use Rattle.act_probe.specs.declared.group.Trunk.{Trunk}
use Rattle.act_probe.specs.declared.group.Way.{Way}
use Rattle.act_probe.specs.Ways.{IsReached, IsTop, child_in, over}

-- the entry names the node on the way at this depth, of which nothing was read, or it is that of the way's leaf
abbrev pub IsOn : Settings → State → Layout → ℕ → Way → Entry → Option ℕ → Type 0
IsOn settings state layout depth way entry (Some row) =
    IsNode settings state (over (way.id / 2) (4 * depth)) × (row ≡ layout.node (over (way.id / 2) (4 * depth))) × (way.nodes ≡ depth)
IsOn settings state layout depth way entry None = IsReached settings state layout way.point entry way.nodes

-- the word that was read last is that of such an entry
pub record Goes (settings : Settings) (state : State) (layout : Layout) (depth : ℕ) (way : Way) : Type 0 where
  pub top : IsTop way.id way.point
  pub entry : Entry
  pub word : entry_of way.word ≡ Some entry
  pub on : IsOn settings state layout depth way entry (child_in entry)

-- a way as far as others lead with it
abbrev pub led : Trunk → Way → Way
led trunk way = record way { nodes = trunk.nodes; word = trunk.word }

-- the word that was read last is that of the leaf's entry
pub record IsDown (settings : Settings) (state : State) (layout : Layout) (way : Way) : Type 0 where
  pub entry : Entry
  pub word : entry_of way.word ≡ Some entry
  pub reached : IsReached settings state layout way.point entry way.nodes
