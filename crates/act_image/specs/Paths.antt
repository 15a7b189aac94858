-- The walk over the nodes of a new state that takes the branches which stay from the nodes of the image before.
use Rattle.std.specs.Prelude.{◌≡◌, ℕ, zero, suc, ◌+◌, ◌<◌, ◌≤◌, ◌==◌, ◌&&◌, ◌||◌, Bool, false, cond, List, [], ◌∷◌, ◌++◌, Option, Some, None, length, map, take, drop, slice_index, slice_index_or}
use Rattle.std.specs.List.{AllByRecursion, flat_map, sum_by}
use Rattle.act_grid.specs.declared.Settings.{Settings}
use Rattle.act_grid.specs.Cell.{Address, root_cell}
use Rattle.act_super.specs.declared.entry.Entry.{Entry}
use Rattle.act_super.specs.declared.entry.State.{State}
use Rattle.act_super.specs.Grounds.{is_among, same_cell}
use Rattle.act_super.specs.Nodes.{IsNode, is_parted, node_children, nodes_of}
use Rattle.act_super.specs.Stands.{Layout}
use Rattle.act_image.specs.declared.lists.ListWord.{ListWord}
use Rattle.act_image.specs.declared.nodes.NodePlace.{NodePlace}
use Rattle.act_image.specs.declared.path.Path.{Path}
use Rattle.act_image.specs.declared.path.Walker.{Walker}
use Rattle.act_image.specs.declared.slots.Slot.TheVariants as slot
use Rattle.act_image.specs.declared.spots.Spot.{Spot}
use Rattle.act_image.specs.Fresh.{branch_stays}
use Rattle.act_image.specs.Kept.{kept_slots, list_slots, node_slot}
use Rattle.act_image.specs.Pics.{no_node, node_at, node_of, part_of}
use Rattle.act_image.specs.Plans.{lists_of, nodes_from, places_from, spots_of, under_of}

-- the nodes of the image of a state, how many child nodes each has, and all its rows; these are the cells of the nodes
pub record IsOld (settings : Settings) (state : State) (nodes : List NodePlace) (under rows : List ℕ) (cells : List Address) : Type 0 where
  pub same : (f : Address → ℕ) → sum_by f cells ≡ sum_by f (nodes_of settings state)
  pub are : AllByRecursion (IsNode settings state) cells
  pub queue : cells ≡ root_cell ∷ flat_map (node_children settings state) cells
  pub nodes_are : nodes ≡ places_from settings state 0 cells
  pub under_are : under ≡ under_of settings state cells
  pub enough : length nodes + length (flat_map (lists_of settings state) cells) ≤ length rows

-- which rows of that image serve for its nodes and their lists
abbrev pub layout_of : List NodePlace → List ℕ → Layout
layout_of nodes rows = record {
  node = λ c. slice_index rows (node_at nodes c);
  lists = λ c. part_of rows (length nodes + (node_of nodes c).first) (node_of nodes c).count;
  chain = λ key. [];
}

-- where the child nodes of each node begin, behind those of the nodes before
abbrev pub starts_from : ℕ → List ℕ → List ℕ
starts_from next [] = []
starts_from next (n ∷ under) = next ∷ starts_from (next + n) under

-- so many places from one on
abbrev pub places_on : ℕ → ℕ → List (Option ℕ)
places_on first zero = []
places_on first (suc n) = Some first ∷ places_on (first + 1) n

-- some source is this place
abbrev pub has_source : List (Option ℕ) → ℕ → Bool
has_source [] i = false
has_source (None ∷ sources) i = has_source sources i
has_source (Some j ∷ sources) i = (j == i) || has_source sources i

-- no two nodes have one cell
abbrev pub HaveOwnCells : List NodePlace → Type 0
HaveOwnCells nodes =
    (i j : ℕ) → i < length nodes → j < length nodes → (slice_index_or nodes i no_node).cell ≡ (slice_index_or nodes j no_node).cell → i ≡ j

-- where the node of a cell stands among these, and None for a cell that is turned
abbrev pub source_in : List NodePlace → List Address → Address → Option ℕ
source_in nodes turned c = cond (is_among turned c) None (Some (node_at nodes c))

-- which of so many places is a source
pub record StaysIn (sources : List (Option ℕ)) (count : ℕ) (stays : List Bool) : Type 0 where
  pub count_is : length stays ≡ count
  pub each : (i : ℕ) → i < count → slice_index_or stays i false ≡ has_source sources i

-- a node stands at the place, with its list rows, and its child nodes from the start on
pub record IsThere (nodes : List NodePlace) (under rows : List ℕ) (at start : ℕ) : Type 0 where
  pub within : at < length nodes
  pub counted : length under ≡ length nodes
  pub below : start + slice_index under at ≤ length nodes
  pub lists : length nodes + (slice_index_or nodes at no_node).first + (slice_index_or nodes at no_node).count ≤ length rows

-- the node at the place was taken over
pub record IsTaken (nodes : List NodePlace) (under rows : List ℕ) (at start : ℕ) (old new : Walker) : Type 0 where
  pub cells : new.cells.items ≡ old.cells.items ++ map (λ (node : NodePlace). node.cell) (take (slice_index under at) (drop start nodes))
  pub sources : new.sources.items ≡ old.sources.items ++ places_on start (slice_index under at)
  pub places : new.places.items ≡ old.places.items ++ record { cell = (slice_index_or nodes at no_node).cell; first = old.base; count = (slice_index_or nodes at no_node).count } ∷ []
  pub under_is : new.under.items ≡ old.under.items ++ slice_index under at ∷ []
  pub node_slots : new.node_slots.items ≡ old.node_slots.items ++ slot.Kept (slice_index rows at) ∷ []
  pub list_slots : new.list_slots.items ≡ old.list_slots.items ++ kept_slots (part_of rows (length nodes + (slice_index_or nodes at no_node).first) (slice_index_or nodes at no_node).count)
  pub spots : new.spots.items ≡ old.spots.items
  pub lists : new.lists.items ≡ old.lists.items
  pub base : new.base ≡ old.base + (slice_index_or nodes at no_node).count

-- the first k of these cells are walked, and their child nodes are among the cells
pub record IsQueue (settings : Settings) (state : State) (k : ℕ) (cells : List Address) : Type 0 where
  pub within : k ≤ length cells
  pub same : (f : Address → ℕ) → sum_by f (take k cells) + sum_by (λ c. sum_by f (nodes_from settings state c)) (drop k cells) ≡ sum_by f (nodes_of settings state)
  pub are : AllByRecursion (IsNode settings state) cells
  pub queue : cells ≡ root_cell ∷ flat_map (node_children settings state) (take k cells)

module _ (settings : Settings) (was new : State) (e : Entry) where
  abbrev pub stays : Address → Bool
  stays c = branch_stays settings was new e c

  -- where the node stands among those of the image before, if its branch stays
  abbrev pub source_of : List NodePlace → Address → Option ℕ
  source_of nodes c = cond (stays c) (Some (node_at nodes c)) None

  -- the new state has the node, and its branch stays
  abbrev pub is_kept : Address → Bool
  is_kept c = (same_cell c root_cell || is_parted settings new c) && stays c

  -- the entries of the nodes that don't stay. All list rows and nodes are counted
  abbrev pub own_spots : ℕ → ℕ → List Address → List (List Spot)
  own_spots base slot [] = []
  own_spots base slot (c ∷ cells) =
      cond (stays c) [] (spots_of settings new base slot c ∷ []) ++ own_spots (base + length (lists_of settings new c)) (slot + length (node_children settings new c)) cells

  -- the list rows of a node that doesn't stay
  abbrev pub own_lists : Address → List (List ListWord)
  own_lists c = cond (stays c) [] (lists_of settings new c)

  -- so far the first k cells are walked, and for each cell it is known where its node stood
  pub record IsWalker (nodes : List NodePlace) (rows : List ℕ) (k : ℕ) (w : Walker) : Type 0 where
    pub walk : IsQueue settings new k w.cells.items
    pub sources : w.sources.items ≡ map (source_of nodes) w.cells.items
    pub places : w.places.items ≡ places_from settings new 0 (take k w.cells.items)
    pub under : w.under.items ≡ under_of settings new (take k w.cells.items)
    pub node_slots : w.node_slots.items ≡ map (node_slot settings (layout_of nodes rows) was new e) (take k w.cells.items)
    pub list_slots : w.list_slots.items ≡ flat_map (list_slots settings (layout_of nodes rows) was new e) (take k w.cells.items)
    pub spots : w.spots.items ≡ own_spots 0 1 (take k w.cells.items)
    pub lists : w.lists.items ≡ flat_map own_lists (take k w.cells.items)
    pub base : w.base ≡ length (flat_map (lists_of settings new) (take k w.cells.items))

  -- all nodes of the new state, with what stays of the image before
  pub record IsPath (nodes : List NodePlace) (rows : List ℕ) (p : Path) : Type 0 where
    pub same : (f : Address → ℕ) → sum_by f p.cells.items ≡ sum_by f (nodes_of settings new)
    pub are : AllByRecursion (IsNode settings new) p.cells.items
    pub queue : p.cells.items ≡ root_cell ∷ flat_map (node_children settings new) p.cells.items
    pub places : p.places.items ≡ places_from settings new 0 p.cells.items
    pub under : p.under.items ≡ under_of settings new p.cells.items
    pub node_slots : p.node_slots.items ≡ map (node_slot settings (layout_of nodes rows) was new e) p.cells.items
    pub list_slots : p.list_slots.items ≡ flat_map (list_slots settings (layout_of nodes rows) was new e) p.cells.items
    pub spots : p.spots.items ≡ own_spots 0 1 p.cells.items
    pub lists : p.lists.items ≡ flat_map own_lists p.cells.items
    pub stays_are : p.stays.items ≡ map (λ (node : NodePlace). is_kept node.cell) nodes
    pub balance : (f : Address → ℕ) → sum_by (λ c. cond (stays c) (f c) 0) p.cells.items ≡ sum_by (λ (node : NodePlace). cond (is_kept node.cell) (f node.cell) 0) nodes
