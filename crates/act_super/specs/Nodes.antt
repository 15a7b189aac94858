-- The trie nodes of a state: one at the root, and one at each split cell of level 4, 8, .., 24.
use Rattle.std.specs.Prelude.{◌≡◌, ◌⊎◌, ℕ, zero, suc, ◌+◌, ◌-◌, ◌*◌, ◌%◌, ◌==◌, Bool, true, cond, nat_lt, List, [], ◌∷◌, ◌++◌, length}
use Rattle.act_grid.specs.declared.Settings.{Settings}
use Rattle.act_grid.specs.Cell.{Address, IsCell, root_cell, child_of, hull_of}
use Rattle.act_super.specs.declared.entry.State.{State}
use Rattle.act_super.specs.declared.entry.Zone.{Zone}
use Rattle.act_super.specs.declared.pack.Pack.{Pack}
use Rattle.act_super.specs.Grounds.{Ground, leaf_at, same_cell, some_asks, zone_ground}
use Rattle.act_super.specs.NodeParts.{leaves_near, splits_near}
use Rattle.act_super.specs.Packs.{empty_pack, list_words, put_leaf}
use Rattle.act_super.specs.Sizes.{refs_of}

-- how the zones of a state lie on cells
abbrev pub ground_of : Settings → State → Ground Zone
ground_of settings state = zone_ground settings state.trained

-- the leaf that holds the first grid point of a cell
abbrev pub first_leaf : Settings → State → Address → Address
first_leaf settings state c = leaf_at (ground_of settings state) state.zones (hull_of c).lo

-- the cell is reached and split: the leaf at its first point is smaller
abbrev pub is_parted : Settings → State → Address → Bool
is_parted settings state c = nat_lt c.level (first_leaf settings state c).level

-- a node stands at the root, and at each split cell whose level is a multiple of 4
pub record IsNode (settings : Settings) (state : State) (c : Address) : Type 0 where
  pub cell : IsCell c
  pub step : c.level % 4 ≡ 0
  pub split : (c ≡ root_cell) ⊎ (is_parted settings state c ≡ true)

-- the nodes from a reached cell down, for at most n more levels, each before those under it
unfoldable pub nodes_within : {X : Type 0} → Ground X → ℕ → List X → Address → List Address
nodes_within g zero items c = []
nodes_within g (suc n) items c =
    cond (some_asks g c items)
    (cond (c.level % 4 == 0) (c ∷ []) []
    ++ nodes_within g n items (child_of c 0) ++ nodes_within g n items (child_of c 1) ++ nodes_within g n items (child_of c 2) ++ nodes_within g n items (child_of c 3))
    []

-- all nodes: the root node stands where nothing is split, too
unfoldable pub nodes_of : Settings → State → List Address
nodes_of settings state =
    cond (some_asks (ground_of settings state) root_cell state.zones) (nodes_within (ground_of settings state) 28 state.zones root_cell) (root_cell ∷ [])

-- the cell of an entry of a node, four levels below it, in Z order
abbrev pub entry_cell : Address → ℕ → Address
entry_cell c entry = record { level = c.level + 4; path = c.path * 256 + entry }

-- the leaves that belong to a node, and the cells of its child nodes, in Z order
abbrev pub node_leaves : Settings → State → Address → List Address
node_leaves settings state c = leaves_near (ground_of settings state) 4 state.zones c

abbrev pub node_children : Settings → State → Address → List Address
node_children settings state c = splits_near (ground_of settings state) 4 state.zones c

-- how many references a leaf has
abbrev pub count_at : State → Address → ℕ
count_at state c = length (refs_of state.zones c)

-- a place in the list rows of a node, counted from the first one
pub record Start : Type 0 where
  pub row : ℕ
  pub place : ℕ

-- where the next list begins: after the last one, or at the start of the next row where it doesn't fit
abbrev pub start_of : Pack → ℕ → Start
start_of s n =
    cond (nat_lt 256 (s.at + list_words n)) (record { row = s.rows; place = 0 }) (record { row = s.rows - 1; place = s.at })

-- where the list of a leaf begins among those of these leaves
abbrev pub list_start : State → Pack → List Address → Address → Start
list_start state s [] leaf = record { row = 0; place = 0 }
list_start state s (c ∷ leaves) leaf =
    cond (same_cell c leaf) (start_of s (count_at state c)) (list_start state (put_leaf s (count_at state c)) leaves leaf)

-- the list rows of a node
abbrev pub pack_of : State → Pack → List Address → Pack
pack_of state s [] = s
pack_of state s (c ∷ leaves) = pack_of state (put_leaf s (count_at state c)) leaves

abbrev pub list_rows : Settings → State → Address → ℕ
list_rows settings state c = (pack_of state empty_pack (node_leaves settings state c)).rows
