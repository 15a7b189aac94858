-- What a plan of all rows holds for a state.
use Rattle.std.specs.Prelude.{◌≡◌, ℕ, zero, suc, ◌+◌, ◌-◌, ◌%◌, ◌≤◌, cond, ◌==◌, nat_lt, List, [], ◌∷◌, ◌++◌, Some, None, length, map, take, drop}
use Rattle.std.specs.List.{AllByRecursion, flat_map, sum_by}
use Rattle.act_grid.specs.declared.Settings.{Settings}
use Rattle.act_grid.specs.Cell.{Address, entries_filled, first_entry, root_cell}
use Rattle.act_geom.specs.Body.{body_of}
use Rattle.act_entry.specs.declared.reference.Ref.{Ref}
use Rattle.act_entry.specs.declared.entry.Entry.{Entry}
use Rattle.act_entry.specs.declared.entry.Entry.TheVariants as entry
use Rattle.act_super.specs.declared.entry.State.{State}
use Rattle.act_super.specs.declared.entry.Zone.{Zone}
use Rattle.act_super.specs.declared.refs.ZoneRef.{ZoneRef}
use Rattle.act_super.specs.Nodes.{IsNode, Start, ground_of, node_children, node_leaves, nodes_of, nodes_within, start_of}
use Rattle.act_super.specs.Grounds.{some_asks}
use Rattle.act_super.specs.Packs.{list_words, put_leaf}
use Rattle.act_super.specs.Sizes.{chain_rows, refs_of}
use Rattle.act_super.specs.Stands.{entry_for}
use Rattle.act_image.specs.declared.chains.ChainPlace.{ChainPlace}
use Rattle.act_image.specs.declared.chains.ChainRow.{ChainRow}
use Rattle.act_image.specs.declared.chains.Chains.{Chains}
use Rattle.act_image.specs.declared.lists.Fill.{Fill}
use Rattle.act_image.specs.declared.lists.ListWord.{ListWord}
use Rattle.act_image.specs.declared.lists.ListWord.TheVariants as list
use Rattle.act_image.specs.declared.nodes.NodePlace.{NodePlace}
use Rattle.act_image.specs.declared.spots.Spot.{Spot}
use Rattle.act_image.specs.declared.walk.Nodes.{Nodes}

-- ---- chains
-- where the chain of a key begins among the rows of all chains
abbrev pub chain_first : List Zone → ℕ → ℕ
chain_first [] key = 0
chain_first (zone ∷ zones) key = cond (zone.key == key) 0 (chain_rows zone.shape + chain_first zones key)

-- the chains of zones, one behind the other from a row on
abbrev pub chains_from : ℕ → List Zone → List ChainPlace
chains_from first [] = []
chains_from first (zone ∷ zones) =
    record { key = zone.key; first = first; count = chain_rows zone.shape } ∷ chains_from (first + chain_rows zone.shape) zones

abbrev pub bodies_of : List Zone → List (List ℕ)
bodies_of zones = map (λ (zone : Zone). body_of zone.shape) zones

-- the rows of a chain from one on
abbrev pub rows_from : ℕ → ℕ → ℕ → List ChainRow
rows_from chain row zero = []
rows_from chain row (suc n) = record { chain = chain; body = chain; row = row } ∷ rows_from chain (row + 1) n

abbrev pub chain_rows_from : ℕ → List Zone → List ChainRow
chain_rows_from chain [] = []
chain_rows_from chain (zone ∷ zones) = rows_from chain 0 (chain_rows zone.shape) ++ chain_rows_from (chain + 1) zones

-- the chains of these zones
pub record IsChains (zones : List Zone) (c : Chains) : Type 0 where
  pub places : c.places.items ≡ chains_from 0 zones
  pub bodies : c.bodies.items ≡ bodies_of zones
  pub rows : c.rows.items ≡ chain_rows_from 0 zones

-- where the chain of a key begins, by the first place with the key
abbrev pub place_first : List ChainPlace → ℕ → ℕ
place_first [] key = 0
place_first (place ∷ places) key = cond (place.key == key) place.first (place_first places key)

-- ---- references
-- references by where the chains of their keys begin
abbrev pub found_refs : List ChainPlace → List ZoneRef → List Ref
found_refs places refs = map (λ (r : ZoneRef). record { row = place_first places r.key; hit = r.hit }) refs

-- a reference by where the chain of its zone begins
abbrev pub slot_ref : List Zone → ZoneRef → Ref
slot_ref zones r = record { row = chain_first zones r.key; hit = r.hit }

abbrev pub slot_refs : List Zone → List ZoneRef → List Ref
slot_refs zones refs = map (slot_ref zones) refs

abbrev pub refs_on : List Zone → Address → List Ref
refs_on zones leaf = slot_refs zones (refs_of zones leaf)

-- ---- lists
-- the words of a list: its length, and then two references a word
abbrev pub pairs_in : List Ref → List ListWord
pairs_in [] = []
pairs_in (a ∷ []) = list.Pair a None ∷ []
pairs_in (a ∷ b ∷ refs) = list.Pair a (Some b) ∷ pairs_in refs

abbrev pub words_in : List Ref → List ListWord
words_in refs = list.Count (length refs) ∷ pairs_in refs

-- the rows with these words behind the last ones
abbrev pub behind_last : List (List ListWord) → List ListWord → List (List ListWord)
behind_last [] words = []
behind_last (row ∷ []) words = (row ++ words) ∷ []
behind_last (row ∷ next ∷ rows) words = row ∷ behind_last (next ∷ rows) words

-- no list row yet: the next list starts one
abbrev pub no_fill : Fill
no_fill = record { rows = 0; at = 256 }

-- where the next list begins, and how far the rows are filled then
abbrev pub start_at : Fill → ℕ → Start
start_at s n = start_of (record { rows = s.rows; at = s.at }) n

abbrev pub filled : Fill → ℕ → Fill
filled s n = record { rows = (put_leaf (record { rows = s.rows; at = s.at }) n).rows; at = (put_leaf (record { rows = s.rows; at = s.at }) n).at }

-- the list of a leaf, where it has one, goes behind the last words, or to a new row where it doesn't fit
abbrev pub put_list : Fill → ℕ → List (List ListWord) → List Ref → List (List ListWord)
put_list s n rows refs =
    cond (nat_lt n 3) rows (cond (nat_lt 256 (s.at + list_words n)) (rows ++ words_in refs ∷ []) (behind_last rows (words_in refs)))

-- the lists of leaves
abbrev pub put_lists : List Zone → Fill → List (List ListWord) → List Address → List (List ListWord)
put_lists zones s rows [] = rows
put_lists zones s rows (leaf ∷ leaves) =
    put_lists zones (filled s (length (refs_of zones leaf))) (put_list s (length (refs_of zones leaf)) rows (refs_on zones leaf)) leaves

-- the list rows of a node
unfoldable pub lists_of : Settings → State → Address → List (List ListWord)
lists_of settings state c = put_lists state.zones no_fill [] (node_leaves settings state c)

-- ---- entries
-- the entries of a node of this level that a cell fills
abbrev pub spot_at : ℕ → Address → Entry → Spot
spot_at level c e = record { first = first_entry c level; count = entries_filled c level; entry = e }

-- the entries of leaves, whose lists stand behind those of this pack, in list rows from one on
abbrev pub leaf_spots : List Zone → ℕ → ℕ → Fill → List Address → List Spot
leaf_spots zones level base s [] = []
leaf_spots zones level base s (leaf ∷ leaves) =
    spot_at level leaf (entry_for (refs_on zones leaf) (base + (start_at s (length (refs_of zones leaf))).row) (start_at s (length (refs_of zones leaf))).place)
    ∷ leaf_spots zones level base (filled s (length (refs_of zones leaf))) leaves

-- the entries of child nodes, which stand one behind the other from one on
abbrev pub child_spots : ℕ → ℕ → List Address → List Spot
child_spots level slot [] = []
child_spots level slot (c ∷ children) = spot_at level c (entry.Child slot) ∷ child_spots level (slot + 1) children

-- the entries of a node, whose list rows begin at one and whose child nodes at another
abbrev pub spots_of : Settings → State → ℕ → ℕ → Address → List Spot
spots_of settings state base slot c =
    leaf_spots state.zones c.level base no_fill (node_leaves settings state c) ++ child_spots c.level slot (node_children settings state c)

-- ---- nodes
-- nodes with their list rows, those of each behind those of the one before
abbrev pub places_from : Settings → State → ℕ → List Address → List NodePlace
places_from settings state base [] = []
places_from settings state base (c ∷ cells) =
    record { cell = c; first = base; count = length (lists_of settings state c) }
    ∷ places_from settings state (base + length (lists_of settings state c)) cells

-- and with their entries
abbrev pub spots_from : Settings → State → ℕ → ℕ → List Address → List (List Spot)
spots_from settings state base slot [] = []
spots_from settings state base slot (c ∷ cells) =
    spots_of settings state base slot c
    ∷ spots_from settings state (base + length (lists_of settings state c)) (slot + length (node_children settings state c)) cells

-- how many child nodes each node has
abbrev pub under_of : Settings → State → List Address → List ℕ
under_of settings state cells = map (λ c. length (node_children settings state c)) cells

-- ---- the walk over all nodes
-- a leaf of a node of this level
pub record IsLeafOf (level : ℕ) (leaf : Address) : Type 0 where
  pub step : level % 4 ≡ 0
  pub deep : level ≤ 24
  pub above : level ≤ leaf.level
  pub near : leaf.level ≤ level + 4

-- the cell and all nodes under it
abbrev pub nodes_from : Settings → State → Address → List Address
nodes_from settings state c =
    cond (some_asks (ground_of settings state) c state.zones) (nodes_within (ground_of settings state) (28 - c.level) state.zones c) (c ∷ [])

-- the first k cells are walked, and their child nodes are among the cells
pub record IsWalk (settings : Settings) (state : State) (k : ℕ) (nodes : Nodes) : Type 0 where
  pub within : k ≤ length nodes.cells.items
  pub same : (f : Address → ℕ)
      → sum_by f (take k nodes.cells.items) + sum_by (λ c. sum_by f (nodes_from settings state c)) (drop k nodes.cells.items) ≡ sum_by f (nodes_of settings state)
  pub are : AllByRecursion (IsNode settings state) nodes.cells.items
  pub queue : nodes.cells.items ≡ root_cell ∷ flat_map (node_children settings state) (take k nodes.cells.items)
  pub places : nodes.places.items ≡ places_from settings state 0 (take k nodes.cells.items)
  pub under : nodes.under.items ≡ under_of settings state (take k nodes.cells.items)
  pub spots : nodes.spots.items ≡ spots_from settings state 0 1 (take k nodes.cells.items)
  pub lists : nodes.lists.items ≡ flat_map (lists_of settings state) (take k nodes.cells.items)

-- all are walked
abbrev pub IsWalked : Settings → State → Nodes → Type 0
IsWalked settings state nodes = IsWalk settings state (length nodes.cells.items) nodes
