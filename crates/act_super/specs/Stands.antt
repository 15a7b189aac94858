-- Which image stands for a state.
use Rattle.std.specs.Prelude.{◌≡◌, ℕ, ◌+◌, ◌*◌, ◌/◌, ◌%◌, ◌^◌, ◌<◌, ◌≤◌, false, cond, List, [], ◌∷◌, ◌++◌, All, Some, None, length, map, slice_index}
use Rattle.std.specs.List.{flat_map}
use Rattle.act_grid.specs.declared.Point.{Point}
use Rattle.act_grid.specs.declared.Settings.{Settings}
use Rattle.act_grid.specs.Cell.{Address, root_cell}
use Rattle.act_geom.specs.Body.{body_of}
use Rattle.act_geom.specs.Rings.{vertices_of}
use Rattle.act_base.specs.Counting.{times}
use Rattle.act_base.specs.Sight.{Sight}
use Rattle.act_entry.specs.declared.reference.Ref.{Ref}
use Rattle.act_entry.specs.declared.entry.Entry.{Entry}
use Rattle.act_entry.specs.declared.entry.Entry.TheVariants as entry
use Rattle.act_entry.specs.Entries.{entry_word}
use Rattle.act_entry.specs.Lists.{pair_word}
use Rattle.act_super.specs.declared.entry.State.{State}
use Rattle.act_super.specs.declared.entry.Zone.{Zone}
use Rattle.act_super.specs.declared.refs.ZoneRef.{ZoneRef}
use Rattle.act_super.specs.Nodes.{IsNode, Start, count_at, entry_cell, first_leaf, ground_of, is_parted, list_rows, list_start, node_leaves, nodes_of}
use Rattle.act_super.specs.Grounds.{leaf_at}
use Rattle.act_super.specs.States.{nothing}
use Rattle.act_super.specs.Packs.{empty_pack, list_words, reference_limit}
use Rattle.act_super.specs.Sizes.{chain_rows, refs_of}

-- which rows serve for what: the row of each node, its list rows, and the rows of each key's chain
pub record Layout : Type 0 where
  pub node : Address → ℕ
  pub lists : Address → List ℕ
  pub chain : ℕ → List ℕ

-- a reference by the first row of its zone's chain
abbrev pub ref_in : Layout → ZoneRef → Ref
ref_in layout r = record { row = slice_index (layout.chain r.key) 0; hit = r.hit }

abbrev pub refs_in : Layout → List ZoneRef → List Ref
refs_in layout refs = map (ref_in layout) refs

-- the entry of references, where a list of them would stand there
abbrev pub entry_for : List Ref → ℕ → ℕ → Entry
entry_for [] row place = entry.Empty
entry_for (a ∷ []) row place = entry.One a
entry_for (a ∷ b ∷ []) row place = entry.Two a b
entry_for (a ∷ b ∷ c ∷ refs) row place = entry.Table row place

-- where the list of a leaf of a node stands
abbrev pub start_in : Settings → State → Address → Address → Start
start_in settings state c leaf = list_start state empty_pack (node_leaves settings state c) leaf

abbrev pub list_row : Layout → Settings → State → Address → Address → ℕ
list_row layout settings state c leaf = slice_index (layout.lists c) (start_in settings state c leaf).row

-- the entry of a leaf of a node
abbrev pub leaf_entry : Layout → Settings → State → Address → Address → Entry
leaf_entry layout settings state c leaf =
    entry_for (refs_in layout (refs_of state.zones leaf)) (list_row layout settings state c leaf) (start_in settings state c leaf).place

-- an entry of a node: its cell is split, and the entry is the node there, or else that of the leaf that holds the cell
abbrev pub entry_at : Layout → Settings → State → Address → ℕ → Entry
entry_at layout settings state c i =
    cond (is_parted settings state (entry_cell c i)) (entry.Child (layout.node (entry_cell c i)))
    (leaf_entry layout settings state c (first_leaf settings state (entry_cell c i)))

-- the words of a list: its length, and then two references a word
abbrev pub pairs_of : List Ref → List ℕ
pairs_of [] = []
pairs_of (a ∷ []) = pair_word a None ∷ []
pairs_of (a ∷ b ∷ refs) = pair_word a (Some b) ∷ pairs_of refs

abbrev pub words_of : List Ref → List ℕ
words_of refs = length refs ∷ pairs_of refs

-- the words stand in the row from the place on
pub record HasWords (x : Sight) (row place : ℕ) (words : List ℕ) : Type 0 where
  pub within : place + length words ≤ 256
  pub each : (i : ℕ) → i < length words → x.word row (place + i) ≡ slice_index words i

-- the list of a leaf stands where the lists of its node place it
pub record HasList (x : Sight) (layout : Layout) (settings : Settings) (state : State) (c leaf : Address) : Type 0 where
  pub row : (start_in settings state c leaf).row < length (layout.lists c)
  pub words : HasWords x (list_row layout settings state c leaf) (start_in settings state c leaf).place (words_of (refs_in layout (refs_of state.zones leaf)))

-- a place behind the last list of a list row
abbrev pub IsRest : Settings → State → Address → ℕ → ℕ → Type 0
IsRest settings state c i place =
    All (λ leaf. 2 < count_at state leaf → (start_in settings state c leaf).row ≡ i
    → (start_in settings state c leaf).place + list_words (count_at state leaf) ≤ place) (node_leaves settings state c)

-- the rows are the chain of a zone: each begins with the number of the next one, the first with the key, too, and the
-- words after it are those of the body
pub record HasChain (x : Sight) (rows : List ℕ) (zone : Zone) : Type 0 where
  pub size : length rows ≡ chain_rows zone.shape
  pub first : x.word (slice_index rows 0) 0 ≡ zone.key * 2 ^ 32 + slice_index rows 1
  pub next : (i : ℕ) → 0 < i → i < length rows → x.word (slice_index rows i) 0 ≡ slice_index rows (i + 1)
  pub body : (i : ℕ) → i < length rows * 255 → x.word (slice_index rows (i / 255)) (1 + i % 255) ≡ slice_index (body_of zone.shape) i

-- all rows: of the nodes, of their lists, and of the chains
abbrev pub rows_in : Layout → Settings → State → List ℕ
rows_in layout settings state =
    flat_map (λ c. layout.node c ∷ layout.lists c) (nodes_of settings state) ++ flat_map (λ zone. layout.chain zone.key) state.zones

-- a state that an image may stand for: no leaf has too many references, each shape has rings of three vertices at least
-- and not too many vertices, and keys have 32 bits
pub record IsServed (settings : Settings) (state : State) : Type 0 where
  pub few : (p : Point) → count_at state (leaf_at (ground_of settings state) state.zones p) ≤ reference_limit
  pub full : All (λ zone. All (λ ring. 3 ≤ length ring) zone.shape) state.zones
  pub small : All (λ zone. vertices_of zone.shape ≤ 262144) state.zones
  pub keys : All (λ zone. zone.key < 2 ^ 32) state.zones

-- the rows stand for the state from this root, with these uses
pub record StandsBy (settings : Settings) (x : Sight) (root : ℕ) (state : State) (layout : Layout) : Type 0 where
  pub top : layout.node root_cell ≡ root
  pub entries : (c : Address) (i : ℕ) → IsNode settings state c → i < 256 → x.word (layout.node c) i ≡ entry_word (entry_at layout settings state c i)
  pub lists : (c : Address) (i : ℕ) → IsNode settings state c → i < 256 → is_parted settings state (entry_cell c i) ≡ false
      → 2 < count_at state (first_leaf settings state (entry_cell c i)) → HasList x layout settings state c (first_leaf settings state (entry_cell c i))
  pub list_rows : (c : Address) → IsNode settings state c → length (layout.lists c) ≡ list_rows settings state c
  pub rest : (c : Address) (i place : ℕ) → IsNode settings state c → i < length (layout.lists c) → place < 256 → IsRest settings state c i place
      → x.word (slice_index (layout.lists c) i) place ≡ 0
  pub chains : All (λ zone. HasChain x (layout.chain zone.key) zone) state.zones
  pub firsts : x.firsts ≡ map (λ zone. (zone.key, slice_index (layout.chain zone.key) 0)) state.zones
  pub rows : (r : ℕ) → times x.rows r ≡ times (rows_in layout settings state) r
  pub once : (r : ℕ) → times x.rows r ≤ 1
  pub low : (r : ℕ) → 0 < times x.rows r → (0 < r) × (r < 2 ^ 24)

-- the image stands for the state from this root
pub record Stands (settings : Settings) (x : Sight) (root : ℕ) (state : State) : Type 0 where
  pub served : IsServed settings state
  pub layout : Layout
  pub by_rows : StandsBy settings x root state layout

-- one row of zeros, as the image of no zones
pub record IsBlank (x : Sight) : Type 0 where
  pub rows : x.rows ≡ 1 ∷ []
  pub firsts : x.firsts ≡ []
  pub word : (place : ℕ) → place < 256 → x.word 1 place ≡ 0

-- it stands for the state before the first entry
abbrev pub BlankStands : Type 0
BlankStands = (settings : Settings) (x : Sight) → IsBlank x → Stands settings x 1 nothing
