-- The plain copy of the shared rows, plans that change them, and which image the copy tells of.
use Rattle.std.specs.Prelude.{◌≡◌, ℕ, suc, ◌+◌, ◌^◌, ◌<◌, ◌≤◌, ◌==◌, cond, nat_lt, List, [], ◌∷◌, length, map, take, drop, slice_index, slice_index_or, sum_by}
use Rattle.std.specs.List.{AllByRecursion, flat_map}
use Rattle.act_grid.specs.declared.Settings.{Settings}
use Rattle.act_grid.specs.Cell.{Address, root_cell}
use Rattle.act_base.specs.Counting.{times}
use Rattle.act_base.specs.Sight.{Sight}
use Rattle.act_super.specs.declared.entry.State.{State}
use Rattle.act_super.specs.declared.entry.Zone.{Zone}
use Rattle.act_super.specs.Grounds.{same_cell}
use Rattle.act_super.specs.Nodes.{IsNode, node_children, nodes_of}
use Rattle.act_super.specs.Sizes.{size_of}
use Rattle.act_super.specs.Stands.{IsBlank, IsServed, Layout, StandsBy}
use Rattle.act_super.specs.States.{nothing}
use Rattle.act_image.specs.declared.chains.ChainPlace.{ChainPlace}
use Rattle.act_image.specs.declared.chains.ChainRow.{ChainRow}
use Rattle.act_image.specs.declared.lists.ListWord.{ListWord}
use Rattle.act_image.specs.declared.lists.ListWord.TheVariants as list
use Rattle.act_image.specs.declared.nodes.NodePlace.{NodePlace}
use Rattle.act_image.specs.declared.slots.Slot.{Slot}
use Rattle.act_image.specs.declared.slots.Slot.TheVariants as slot
use Rattle.act_image.specs.declared.spots.Spot.{Spot}
use Rattle.act_image.specs.Plans.{bodies_of, chain_rows_from, chains_from, lists_of, places_from, spots_from, under_of}
use Rattle.act_image.specs.Slots.{kept_of, new_places, with_rows}
use Rattle.act_image.specs.Words.{Numbers, no_chain, placed_word, word_of}

-- the plain copy: the nodes, how many child nodes each has, how many list rows there are, the chains, and all rows, first those of nodes, then those of
-- lists, then those of chains
pub record Pic : Type 0 where
  pub root : ℕ
  pub nodes : List NodePlace
  pub under : List ℕ
  pub lists : ℕ
  pub chains : List ChainPlace
  pub rows : List ℕ

-- a plan: the same of the new image, with what stands in the rows that the plan holds, which rows stay, the numbers of all
-- rows and of the new ones, and the rows that the new image lacks. It holds its new rows, in their order
pub record Planned : Type 0 where
  pub need : ℕ
  pub root : ℕ
  pub nodes : List NodePlace
  pub under : List ℕ
  pub list_rows : ℕ
  pub spots : List (List Spot)
  pub lists : List (List ListWord)
  pub chains : List ChainPlace
  pub bodies : List (List ℕ)
  pub chain_rows : List ChainRow
  pub slots : List Slot
  pub all : List ℕ
  pub rows : List ℕ
  pub gone : List ℕ

-- no node
abbrev pub no_node : NodePlace
no_node = record { cell = root_cell; first = 0; count = 0 }

-- where the node of a cell stands, and which it is
abbrev pub node_at : List NodePlace → Address → ℕ
node_at [] c = 0
node_at (node ∷ nodes) c = cond (same_cell node.cell c) 0 (suc (node_at nodes c))

abbrev pub node_of : List NodePlace → Address → NodePlace
node_of [] c = no_node
node_of (node ∷ nodes) c = cond (same_cell node.cell c) node (node_of nodes c)

-- the chain of a key
abbrev pub chain_of : List ChainPlace → ℕ → ChainPlace
chain_of [] key = no_chain
chain_of (chain ∷ chains) key = cond (chain.key == key) chain (chain_of chains key)

-- so many rows from a place on
abbrev pub part_of : List ℕ → ℕ → ℕ → List ℕ
part_of rows first count = take count (drop first rows)

abbrev pub lists_in : Pic → NodePlace → List ℕ
lists_in p node = part_of p.rows (length p.nodes + node.first) node.count

abbrev pub chain_in : Pic → ChainPlace → List ℕ
chain_in p chain = part_of p.rows (length p.nodes + p.lists + chain.first) chain.count

-- all rows of the image
unfoldable pub rows_in : Pic → List ℕ
rows_in p = p.rows

-- key and first chain row of each zone
unfoldable pub firsts_in : Pic → List (ℕ × ℕ)
firsts_in p = map (λ (chain : ChainPlace). (chain.key, slice_index (chain_in p chain) 0)) p.chains

-- which rows serve for what
unfoldable pub layout_in : Pic → Layout
layout_in p = record {
  node = λ c. slice_index p.rows (node_at p.nodes c);
  lists = λ c. lists_in p (node_of p.nodes c);
  chain = λ key. chain_in p (chain_of p.chains key);
}

-- the numbers of the rows of a plan
abbrev pub numbers_of : Planned → Numbers
numbers_of p = record { nodes = length p.nodes; lists = p.list_rows; rows = p.all }

-- the word of the i-th row that the plan holds at a place
unfoldable pub planned_word : Planned → ℕ → ℕ → ℕ
planned_word p i place = word_of (numbers_of p) p.spots p.lists p.chains p.bodies p.chain_rows i place

-- the plan with these new rows
abbrev pub with_numbers : Planned → List ℕ → Planned
with_numbers p rows = record p { root = slice_index (with_rows p.slots rows) 0; all = with_rows p.slots rows; rows = rows }

-- the copy after a bound plan
unfoldable pub installed : Pic → Planned → Pic
installed p plan = record { root = plan.root; nodes = plan.nodes; under = plan.under; lists = plan.list_rows; chains = plan.chains; rows = plan.all }

-- where a row stands among these
abbrev pub row_at : List ℕ → ℕ → ℕ
row_at [] r = 0
row_at (x ∷ rows) r = cond (x == r) 0 (suc (row_at rows r))

-- what a plan that has its rows makes of an image: the words of the new rows as they are planned, all others as before
abbrev pub renewed : Sight → Planned → Sight
renewed old plan = record {
  rows = plan.all;
  firsts = firsts_in (installed (record { root = 0; nodes = []; under = []; lists = 0; chains = []; rows = [] }) plan);
  word = λ row place. cond (nat_lt (row_at plan.rows row) (length plan.rows)) (planned_word plan (row_at plan.rows row) place) (old.word row place);
}

-- the image of no zones
abbrev pub empty_sight : Sight
empty_sight = record { rows = 1 ∷ []; firsts = []; word = λ row place. 0 }

-- the copy is laid out as a plan of all rows is: these are the cells of its nodes
pub record IsCopy (settings : Settings) (p : Pic) (state : State) (cells : List Address) : Type 0 where
  pub same : (f : Address → ℕ) → sum_by f cells ≡ sum_by f (nodes_of settings state)
  pub are : AllByRecursion (IsNode settings state) cells
  pub queue : cells ≡ root_cell ∷ flat_map (node_children settings state) cells
  pub nodes : p.nodes ≡ places_from settings state 0 cells
  pub under : p.under ≡ under_of settings state cells
  pub lists : p.lists ≡ length (flat_map (lists_of settings state) cells)
  pub chains : p.chains ≡ chains_from 0 state.zones
  pub all : length p.rows ≡ length p.nodes + p.lists + length (chain_rows_from 0 state.zones)

abbrev pub copy_numbers : Pic → Numbers
copy_numbers p = record { nodes = length p.nodes; lists = p.lists; rows = p.rows }

-- each list row has the words of its lists
abbrev pub HasLists : Settings → Pic → Sight → State → Type 0
HasLists settings p x state =
    (c : Address) (i place : ℕ) → IsNode settings state c → i < length ((layout_in p).lists c) → place < 256
    → x.word (slice_index ((layout_in p).lists c) i) place ≡ placed_word (copy_numbers p) (slice_index_or (slice_index_or (lists_of settings state c) i []) place (list.Count 0))

-- the image x stands for the state, and the copy tells which rows serve for what
pub record Shows (settings : Settings) (p : Pic) (x : Sight) (state : State) : Type 0 where
  pub served : IsServed settings state
  pub cells : List Address
  pub copy : IsCopy settings p state cells
  pub lists : HasLists settings p x state
  pub rows : x.rows ≡ rows_in p
  pub firsts : x.firsts ≡ firsts_in p
  pub by_rows : StandsBy settings x p.root state (layout_in p)

-- x is what the plan makes of the image old
pub record Makes (p : Pic) (plan : Planned) (old x : Sight) : Type 0 where
  pub rows : x.rows ≡ rows_in (installed p plan)
  pub firsts : x.firsts ≡ firsts_in (installed p plan)
  pub stay : (r place : ℕ) → 0 < times x.rows r → times plan.rows r ≡ 0 → place < 256 → x.word r place ≡ old.word r place
  pub fresh : (i place : ℕ) → i < length plan.rows → place < 256 → x.word (slice_index plan.rows i) place ≡ planned_word plan i place

-- a plan of all rows of the image of a state. The cells of its nodes are those of the state, each before those below it
pub record IsWhole (settings : Settings) (plan : Planned) (state : State) (cells : List Address) : Type 0 where
  pub same : (f : Address → ℕ) → sum_by f cells ≡ sum_by f (nodes_of settings state)
  pub are : AllByRecursion (IsNode settings state) cells
  pub queue : cells ≡ root_cell ∷ flat_map (node_children settings state) cells
  pub nodes : plan.nodes ≡ places_from settings state 0 cells
  pub under : plan.under ≡ under_of settings state cells
  pub list_rows : plan.list_rows ≡ length plan.lists
  pub spots : plan.spots ≡ spots_from settings state 0 1 cells
  pub lists : plan.lists ≡ flat_map (lists_of settings state) cells
  pub chains : plan.chains ≡ chains_from 0 state.zones
  pub bodies : plan.bodies ≡ bodies_of state.zones
  pub chain_rows : plan.chain_rows ≡ chain_rows_from 0 state.zones

-- no two zones have one key
abbrev pub HaveOwnKeys : List Zone → Type 0
HaveOwnKeys zones = (key : ℕ) → times (map (λ (zone : Zone). zone.key) zones) key ≤ 1

-- rows that a plan may be bound to
pub record IsFresh (p : Pic) (rows : List ℕ) : Type 0 where
  pub once : (r : ℕ) → times rows r + times (rows_in p) r ≤ 1
  pub low : (r : ℕ) → 0 < times rows r → (0 < r) × (r < 2 ^ 24)

-- the rows of a plan of all rows that stay keep their words, whichever rows the new ones get
abbrev pub KeepsWords : Settings → Pic → Planned → State → Type 0
KeepsWords settings p plan state =
    (old : Sight) (rows : List ℕ) (k r place : ℕ) → Shows settings p old state → IsFresh p rows → length rows ≡ plan.need
    → slice_index_or plan.slots k slot.New ≡ slot.Kept r → place < 256 → old.word r place ≡ planned_word (with_numbers plan rows) k place

-- a plan of all rows, before it has numbers, leads from the image of a state to that of a new one
pub record IsWholePlan (settings : Settings) (p : Pic) (plan : Planned) (state new : State) : Type 0 where
  pub need : plan.need ≡ length (new_places 0 plan.slots)
  pub all : length plan.slots ≡ length plan.spots + length plan.lists + length plan.chain_rows
  pub served : IsServed settings new
  pub keys : HaveOwnKeys new.zones
  pub cells : List Address
  pub whole : IsWhole settings plan new cells
  pub low : (r : ℕ) → 0 < times (rows_in p) r → (0 < r) × (r < 2 ^ 24)
  pub gone : (r : ℕ) → times (kept_of plan.slots) r + times plan.gone r ≡ times (rows_in p) r
  pub count : length (kept_of plan.slots) + length plan.gone ≡ length (rows_in p)
  pub stay : KeepsWords settings p plan state

-- the plan is one of all rows but for this: it holds the new ones alone
pub record IsTrimmed (whole plan : Planned) : Type 0 where
  pub need : plan.need ≡ whole.need
  pub nodes : plan.nodes ≡ whole.nodes
  pub under : plan.under ≡ whole.under
  pub list_rows : plan.list_rows ≡ whole.list_rows
  pub chains : plan.chains ≡ whole.chains
  pub slots : plan.slots ≡ whole.slots
  pub gone : plan.gone ≡ whole.gone
  pub words : (rows : List ℕ) (i place : ℕ) → length rows ≡ plan.need → i < plan.need → place < 256
      → planned_word (with_numbers plan rows) i place ≡ planned_word (with_numbers whole rows) (slice_index (new_places 0 plan.slots) i) place

-- the plan, before it has numbers, leads from the image of a state to that of a new one
pub record IsPlan (settings : Settings) (p : Pic) (plan : Planned) (state new : State) : Type 0 where
  pub whole : Planned
  pub leads : IsWholePlan settings p whole state new
  pub trimmed : IsTrimmed whole plan

-- the plan has its rows
pub record IsBound (settings : Settings) (p : Pic) (plan : Planned) (state new : State) : Type 0 where
  pub need : length plan.rows ≡ plan.need
  pub few : plan.need ≤ size_of settings new
  pub once : (r : ℕ) → times plan.rows r + times (rows_in p) r ≤ 1
  pub balance : (r : ℕ) → times (rows_in (installed p plan)) r + times plan.gone r ≡ times (rows_in p) r + times plan.rows r
  pub count : length (rows_in (installed p plan)) + length plan.gone ≡ length (rows_in p) + length plan.rows
  pub held : (r : ℕ) → times plan.gone r ≤ times (rows_in p) r
  pub sized : length (rows_in (installed p plan)) ≡ size_of settings new
  pub rooted : 0 < times (rows_in (installed p plan)) plan.root
  pub shows : (old x : Sight) → Shows settings p old state → Makes p plan old x → Shows settings (installed p plan) x new
  pub top : (installed p plan).root ≡ plan.root

-- the copy of the image of no zones
abbrev pub Opens : Pic → Type 0
Opens p = (p.root ≡ 1) × (rows_in p ≡ 1 ∷ []) × ((settings : Settings) (x : Sight) → IsBlank x → Shows settings p x nothing)
