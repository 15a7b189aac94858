-- A bound plan of all rows stands for its state.
use Rattle.std.proofs.Common.{◌≡◌, ◌≢◌, ℕ, zero, suc, ◌+◌, ◌-◌, ◌*◌, ◌/◌, ◌%◌, ◌^◌, ◌<◌, ◌≤◌, ◌⊎◌, inl, inr, Bool, true, false, cond, refl, sym, ap, ◌∙◌, subst, arith, List, [], ◌∷◌, ◌++◌, nat_lt, ◌&&◌, ◌==◌, length, get_or, map, take, drop, Option, Some, None, min}
use Rattle.std.specs.List.{All, AllByRecursion as Each, flat_map, sum_by}
use Rattle.std.proofs.lemmas.Bool.Decides.{nat_tests}
use Rattle.std.proofs.lemmas.List.{get_or_past, get_or-map, length-append, length-map}
use Rattle.std.proofs.lemmas.List.Concat.{get_or-flat_map}
use Rattle.std.proofs.lemmas.List.Elements.{All-from_recursion, recursion_from_All}
use Rattle.std.proofs.lemmas.List.Sums.{sum_by-cons}
use Rattle.act_grid.specs.declared.Settings.{Settings}
use Rattle.act_grid.specs.Cell.{Address, root_cell}
use Rattle.act_geom.specs.Body.{body_of}
use Rattle.act_base.specs.Counting.{times}
use Rattle.act_base.specs.Sight.{Sight}
use Rattle.act_base.proofs.Times.{times-append, times_get}
use Rattle.act_cover.specs.Covering.{class_at, is_on, is_within}
use Rattle.act_entry.specs.declared.reference.Ref.{Ref}
use Rattle.act_entry.specs.declared.entry.Entry.TheVariants as entry
use Rattle.act_entry.specs.Entries.{entry_word}
use Rattle.act_super.specs.declared.entry.State.{State}
use Rattle.act_super.specs.declared.entry.Zone.{Zone}
use Rattle.act_super.specs.Nodes.{IsNode, count_at, entry_cell, first_leaf, ground_of, is_parted, node_children, node_leaves, nodes_of}
use Rattle.act_super.specs.Packs.{list_words}
use Rattle.act_super.specs.Sizes.{chain_rows, chains_of, refs_of, size_of}
use Rattle.act_super.specs.Stands.{HasChain, HasList, IsRest, IsServed, Layout, StandsBy, entry_at, entry_for, leaf_entry, list_row, pairs_of, ref_in, refs_in, start_in, words_of}
use Rattle.act_probe.proofs.EntryFacts.{node_deep}
use Rattle.act_probe.proofs.NodeFacts.{Among, node_listed}
use Rattle.act_probe.proofs.WayFacts.{root_is}
use Rattle.act_image.specs.declared.chains.ChainPlace.{ChainPlace}
use Rattle.act_image.specs.declared.lists.ListWord.TheVariants as list
use Rattle.act_image.specs.declared.slots.Slot.{Slot}
use Rattle.act_image.specs.declared.slots.Slot.TheVariants as kind
use Rattle.act_image.specs.Slots.{kept_of, new_places, with_rows}
use Rattle.act_image.proofs.SlotFacts.{all_slots, all_times, kept_row, kept_there, new_row, rows_length}
use Rattle.act_image.specs.Words.{Numbers, as_row, chain_number, chain_word, entry_in, list_number, no_chain, no_row, placed_entry, placed_ref, placed_word, word_of}
use Rattle.act_image.specs.Plans.{chain_first, chain_rows_from, lists_of, no_fill, pairs_in, refs_on, slot_ref, slot_refs, spots_of, words_in}
use Rattle.act_image.specs.Pics.{HasLists, HaveOwnKeys, IsBound, IsCopy, IsFresh, IsPlan, IsWhole, IsWholePlan, Makes, Pic, Planned, Shows, chain_of, firsts_in, installed, layout_in, node_at, node_of, numbers_of, part_of, planned_word, rows_in, with_numbers}
use Rattle.act_image.proofs.FillFacts.{child_entry_is, leaf_among, leaf_entry_is}
use Rattle.act_image.proofs.Leaves.{each_among, each_mono}
use Rattle.act_image.proofs.PackFacts.{LastIn, NoTwice, StandsAt, ends, listed, refs_length, words_length}
use Rattle.act_image.proofs.PlaceFacts.{ChainAt, Found, OwnKeys, count_once, count_some, found, is_cell, once_count, one_place, own_keys, part_get, part_length, part_past, place_at, places_length, some_count, spots_at, spots_length, flat_within, chains_at}
use Rattle.act_image.proofs.SizeFacts.{chain_count, empty_filled, few_refs, lists_count, whole_sized}
use Rattle.act_image.proofs.WalkFacts.{node_leaves_once, nodes_are_under, under_once}

lt_is : (a b : ℕ) → a < b → nat_lt a b ≡ true
lt_is a b h = grind (arith, nat_tests)

ge_is : (a b : ℕ) → b ≤ a → nat_lt a b ≡ false
ge_is a b h = grind (arith, nat_tests)

cond_true : (b : Bool) (x y : ℕ) → b ≡ true → cond b x y ≡ x
cond_true b x y e = ap (λ c. cond c x y) e

cond_false : (b : Bool) (x y : ℕ) → b ≡ false → cond b x y ≡ y
cond_false b x y e = ap (λ c. cond c x y) e

as_row_is : (r : ℕ) → 0 < r → r < 2 ^ 24 → as_row r ≡ r
as_row_is r h k = let a = lt_is 0 r h in let b = lt_is r (2 ^ 24) k in rw (a, b) refl

-- ---- entries, lists and their words by numbers
module _ (n : Numbers) where
  pub placed_for : (refs : List Ref) (row place there : ℕ) → (2 < length refs → (list_number n row ≡ there) × (place ≤ 253))
      → placed_entry n (entry_for refs row place) ≡ entry_for (map (placed_ref n) refs) there place
  placed_for [] row place there h = refl
  placed_for (a ∷ []) row place there h = refl
  placed_for (a ∷ (b ∷ [])) row place there h = refl
  placed_for (a ∷ (b ∷ (d ∷ refs))) row place there h =
      let two = h (omega arith) in
      let low : place ≤ 253 = two.1 in
      let e : min place 253 ≡ place = omega (arith, low) in
      λ i. entry.Table (two.0 i) (e i)

  placed_pairs : (refs : List Ref) → map (placed_word n) (pairs_in refs) ≡ pairs_of (map (placed_ref n) refs)
  placed_pairs [] = refl
  placed_pairs (a ∷ []) = refl
  placed_pairs (a ∷ (b ∷ refs)) = ap (λ v. placed_word n (list.Pair a (Some b)) ∷ v) (placed_pairs refs)

  pub placed_words : (refs : List Ref) → map (placed_word n) (words_in refs) ≡ words_of (map (placed_ref n) refs)
  placed_words refs = λ i. sym (length-map refs (placed_ref n)) i ∷ placed_pairs refs i

  placed_at : (refs : List Ref) (j : ℕ) → j < length (words_in refs) → placed_word n (get_or (words_in refs) j (list.Count 0)) ≡ get_or (words_of (map (placed_ref n) refs)) j 0
  placed_at refs j h = sym (get_or-map (placed_word n) (words_in refs) j (list.Count 0) 0 h) ∙ ap (λ v. get_or v j 0) (placed_words refs)

module _ (settings : Settings) (p : Pic) (q : Planned) (state : State) (cells : List Address) (w : IsWhole settings q state cells) (served : IsServed settings state) (keys : HaveOwnKeys state.zones)
    (once : (r : ℕ) → times q.all r ≤ 1) (low : (r : ℕ) → 0 < times q.all r → (0 < r) × (r < 2 ^ 24)) (need : length q.all ≡ length q.spots + length q.lists + length q.chain_rows) (root : q.root ≡ get_or q.all 0 0) where
  abbrev pub numbers : Numbers
  numbers = record { nodes = length q.spots; lists = length q.lists; rows = q.all }

  abbrev pub layout : Layout
  layout = layout_in (installed p q)

  abbrev pub base : ℕ → ℕ
  base j = length (flat_map (lists_of settings state) (take j cells))

  abbrev pub slot : ℕ → ℕ
  slot j = 1 + length (flat_map (node_children settings state) (take j cells))

  number : (k : ℕ) → k < length q.all → as_row (get_or q.all k 0) ≡ get_or q.all k 0
  number k h = let both = low (get_or q.all k 0) (times_get q.all k 0 h) in as_row_is (get_or q.all k 0) both.0 both.1

  pub many_spots : length q.spots ≡ length cells
  many_spots = ap length w.spots ∙ spots_length settings state 0 1 cells

  many_nodes : length q.nodes ≡ length q.spots
  many_nodes = ap length w.nodes ∙ places_length settings state 0 cells ∙ sym many_spots

  pub many_lists : length q.lists ≡ length (flat_map (lists_of settings state) cells)
  many_lists = ap length w.lists

  numbers_are : numbers_of q ≡ numbers
  numbers_are = λ i. record { nodes = many_nodes i; lists = w.list_rows i; rows = q.all }

  many_chain_rows : length q.chain_rows ≡ length (chain_rows_from 0 state.zones)
  many_chain_rows = ap length w.chain_rows

  -- ---- the cells are those of the state's nodes, each once
  pub cells_once : NoTwice cells
  cells_once =
      once_count cells (λ c. omega (arith, w.same (is_cell c), count_once (nodes_of settings state) nodes_once c))
    where
      nodes_once : NoTwice (nodes_of settings state)
      nodes_once = subst NoTwice (sym (nodes_are_under settings state)) (under_once (ground_of settings state) state.zones 28 root_cell root_is refl)

  pub node_among : (c : Address) → IsNode settings state c → Among cells c
  node_among c node = some_count cells c (omega (arith, w.same (is_cell c), count_some (nodes_of settings state) c (node_listed settings state c node)))

  -- ---- a node and its rows
  node_row : (c : Address) → layout.node c ≡ get_or q.all (node_at q.nodes c) 0
  unfolding layout_in installed
  node_row c = refl

  lists_row : (c : Address) → layout.lists c ≡ part_of q.all (length q.spots + (node_of q.nodes c).first) (node_of q.nodes c).count
  unfolding layout_in installed
  lists_row c = ap (λ m. part_of q.all (m + (node_of q.nodes c).first) (node_of q.nodes c).count) many_nodes

  chain_row : (key : ℕ) → layout.chain key ≡ part_of q.all (length q.spots + length q.lists + (chain_of q.chains key).first) (chain_of q.chains key).count
  unfolding layout_in installed
  chain_row key = λ i. part_of q.all (many_nodes i + w.list_rows i + (chain_of q.chains key).first) (chain_of q.chains key).count

  pub record AtNode (c : Address) : Type 0 where
    pub j : ℕ
    pub within : j < length cells
    pub cell : get_or cells j root_cell ≡ c
    pub row : layout.node c ≡ get_or q.all j 0
    pub lists : layout.lists c ≡ part_of q.all (length q.spots + base j) (length (lists_of settings state c))
    pub spots : get_or q.spots j [] ≡ spots_of settings state (base j) (slot j) c

  pub at_node : (c : Address) → Among cells c → AtNode c
  at_node c among =
      let f = found settings state 0 cells c among in
      let at : node_at q.nodes c ≡ node_at (Rattle.act_image.specs.Plans.places_from settings state 0 cells) c = ap (λ v. node_at v c) w.nodes in
      let j = node_at (Rattle.act_image.specs.Plans.places_from settings state 0 cells) c in
      let place = ap (λ v. node_of v c) w.nodes ∙ f.node ∙ place_at settings state 0 cells j f.within in
      let first : (node_of q.nodes c).first ≡ base j = ap (λ (z : Rattle.act_image.specs.declared.nodes.NodePlace.NodePlace). z.first) place ∙ omega arith in
      let count : (node_of q.nodes c).count ≡ length (lists_of settings state c) = ap (λ (z : Rattle.act_image.specs.declared.nodes.NodePlace.NodePlace). z.count) place ∙ ap (λ d. length (lists_of settings state d)) f.cell in
      let none : 0 + base j ≡ base j = omega arith in
      record {
        j = j;
        within = f.within;
        cell = f.cell;
        row = node_row c ∙ ap (λ k. get_or q.all k 0) at;
        lists = lists_row c ∙ (λ i. part_of q.all (length q.spots + first i) (count i));
        spots = ap (λ v. get_or v j []) w.spots ∙ spots_at settings state 0 1 cells j f.within ∙ (λ i. spots_of settings state (none i) (slot j) (f.cell i));
      }

  pub same_place : (c : Address) (a : AtNode c) (k : ℕ) → k < length cells → get_or cells k root_cell ≡ c → a.j ≡ k
  same_place c a k h e = one_place cells a.j k cells_once a.within h (a.cell ∙ sym e)

  -- ---- chains
  own : OwnKeys state.zones
  own = own_keys state.zones keys

  all_chains : Each (ChainAt 0 0 state.zones) state.zones
  all_chains = chains_at 0 0 state.zones own

  -- the rows of the chain of a zone
  pub record ChainRows (zone : Zone) : Type 0 where
    pub at : ChainAt 0 0 state.zones zone
    pub rows : layout.chain zone.key ≡ part_of q.all (length q.spots + length q.lists + chain_first state.zones zone.key) (chain_rows zone.shape)
    pub within : length q.spots + length q.lists + chain_first state.zones zone.key + chain_rows zone.shape ≤ length q.all

  chain_is : (zone : Zone) → ChainAt 0 0 state.zones zone → ChainRows zone
  chain_is zone at =
      let is : chain_of q.chains zone.key ≡ record { key = zone.key; first = 0 + chain_first state.zones zone.key; count = chain_rows zone.shape } = ap (λ v. chain_of v zone.key) w.chains ∙ at.looked_up in
      let first : (chain_of q.chains zone.key).first ≡ chain_first state.zones zone.key = ap (λ (z : ChainPlace). z.first) is ∙ omega arith in
      let count : (chain_of q.chains zone.key).count ≡ chain_rows zone.shape = ap (λ (z : ChainPlace). z.count) is in
      record {
        at = at;
        rows = chain_row zone.key ∙ (λ i. part_of q.all (length q.spots + length q.lists + first i) (count i));
        within = omega (arith, at.within, need, many_chain_rows);
      }

  pub each_chain : Each ChainRows state.zones
  each_chain = each_mono (ChainAt 0 0 state.zones) ChainRows state.zones chain_is all_chains

  some_rows : (zone : Zone) → 0 < chain_rows zone.shape
  some_rows zone = omega arith

  first_of_chain : (zone : Zone) → ChainRows zone → chain_number numbers (chain_first state.zones zone.key) ≡ get_or (layout.chain zone.key) 0 0
  first_of_chain zone c =
      let some = some_rows zone in
      let none : length q.spots + length q.lists + chain_first state.zones zone.key + 0 ≡ length q.spots + length q.lists + chain_first state.zones zone.key = omega arith in
      number (length q.spots + length q.lists + chain_first state.zones zone.key) (omega (arith, c.within, some))
      ∙ sym (ap (λ v. get_or v 0 0) c.rows ∙ part_get q.all (length q.spots + length q.lists + chain_first state.zones zone.key) (chain_rows zone.shape) 0 some ∙ ap (λ k. get_or q.all k 0) none)

  -- ---- references
  refs_same : (leaf : Address) (zones : List Zone) → Each ChainRows zones → map (placed_ref numbers) (slot_refs state.zones (refs_of zones leaf)) ≡ refs_in layout (refs_of zones leaf)
  refs_same leaf [] h = refl
  refs_same leaf (zone ∷ zones) h = by (is_on (class_at zone.shape leaf)) (first_of_chain zone h.0) (refs_same leaf zones h.1)
    where
      by : (b : Bool) → chain_number numbers (chain_first state.zones zone.key) ≡ get_or (layout.chain zone.key) 0 0
          → map (placed_ref numbers) (slot_refs state.zones (refs_of zones leaf)) ≡ refs_in layout (refs_of zones leaf)
          → map (placed_ref numbers) (slot_refs state.zones (map (λ (z : Zone). record { key = z.key; hit = is_within (class_at z.shape leaf) }) (cond b (zone ∷ Rattle.std.specs.List.filter (λ (z : Zone). is_on (class_at z.shape leaf)) zones) (Rattle.std.specs.List.filter (λ (z : Zone). is_on (class_at z.shape leaf)) zones))))
          ≡ refs_in layout (map (λ (z : Zone). record { key = z.key; hit = is_within (class_at z.shape leaf) }) (cond b (zone ∷ Rattle.std.specs.List.filter (λ (z : Zone). is_on (class_at z.shape leaf)) zones) (Rattle.std.specs.List.filter (λ (z : Zone). is_on (class_at z.shape leaf)) zones)))
      by true first rest = λ i. record { row = first i; hit = is_within (class_at zone.shape leaf) } ∷ rest i
      by false first rest = rest

  pub refs_are : (leaf : Address) → map (placed_ref numbers) (refs_on state.zones leaf) ≡ refs_in layout (refs_of state.zones leaf)
  refs_are leaf = refs_same leaf state.zones each_chain

  -- ---- the words of rows
  module _ (x : Sight) (fresh_words : (i place : ℕ) → i < length q.all → place < 256 → x.word (get_or q.all i 0) place ≡ planned_word q i place) where
    node_word : (j i : ℕ) → j < length cells → i < 256 → x.word (get_or q.all j 0) i ≡ entry_word (placed_entry numbers (entry_in (get_or q.spots j []) i))
    unfolding planned_word word_of
    node_word j i h small =
        let low : j < length q.spots = omega (arith, h, many_spots) in
        fresh_words j i (omega (arith, low, need)) small ∙ cond_true _ _ _ (lt_is j (length q.spots) low) ∙ ap (λ n. entry_word (placed_entry n (entry_in (get_or q.spots j []) i))) numbers_are

    list_word : (k place : ℕ) → k < length q.lists → place < 256 → x.word (get_or q.all (length q.spots + k) 0) place ≡ placed_word numbers (get_or (get_or q.lists k []) place (list.Count 0))
    unfolding planned_word word_of
    list_word k place h small =
        let e : length q.spots + k - length q.spots ≡ k = omega arith in
        fresh_words (length q.spots + k) place (omega (arith, h, need)) small
        ∙ cond_false _ _ _ (ge_is (length q.spots + k) (length q.spots) (omega arith))
        ∙ cond_true _ _ _ (lt_is (length q.spots + k) (length q.spots + length q.lists) (omega (arith, h)))
        ∙ (λ t. placed_word (numbers_are t) (get_or (get_or q.lists (e t) []) place (list.Count 0)))

    chain_row_word : (k place : ℕ) → k < length q.chain_rows → place < 256
        → x.word (get_or q.all (length q.spots + length q.lists + k) 0) place
        ≡ chain_word numbers (get_or q.chains (get_or q.chain_rows k no_row).chain no_chain) (get_or q.bodies (get_or q.chain_rows k no_row).body []) (get_or q.chain_rows k no_row).row place
    unfolding planned_word word_of
    chain_row_word k place h small =
        let e : length q.spots + length q.lists + k - length q.spots - length q.lists ≡ k = omega arith in
        fresh_words (length q.spots + length q.lists + k) place (omega (arith, h, need)) small
        ∙ cond_false _ _ _ (ge_is (length q.spots + length q.lists + k) (length q.spots) (omega arith))
        ∙ cond_false _ _ _ (ge_is (length q.spots + length q.lists + k) (length q.spots + length q.lists) (omega arith))
        ∙ (λ t. chain_word (numbers_are t) (get_or q.chains (get_or q.chain_rows (e t) no_row).chain no_chain) (get_or q.bodies (get_or q.chain_rows (e t) no_row).body []) (get_or q.chain_rows (e t) no_row).row place)

  -- ---- the lists of a node
  row_ends : (c : Address) (i place : ℕ) → IsNode settings state c → i < length (lists_of settings state c) → IsRest settings state c i place → length (get_or (lists_of settings state c) i []) ≤ place
  unfolding lists_of
  row_ends c i place node low rest =
      by (ends state.zones state.trained i (node_leaves settings state c) no_fill [] empty_filled (few_refs settings state served c node) (node_leaves_once settings state c node (node_deep settings state c node)) low)
    where
      by : ((i < 0) × (length (get_or (Rattle.act_image.specs.Plans.put_lists state.zones no_fill [] (node_leaves settings state c)) i []) ≡ 0))
          ⊎ LastIn state.zones state.trained (node_leaves settings state c) no_fill (Rattle.act_image.specs.Plans.put_lists state.zones no_fill [] (node_leaves settings state c)) i
          → length (get_or (Rattle.act_image.specs.Plans.put_lists state.zones no_fill [] (node_leaves settings state c)) i []) ≤ place
      by (inl none) = absurd (omega (arith, none.0))
      by (inr last) =
          let all = recursion_from_All _ (node_leaves settings state c) rest in
          let own = each_among (λ leaf. 2 < count_at state leaf → (start_in settings state c leaf).row ≡ i → (start_in settings state c leaf).place + list_words (count_at state leaf) ≤ place) (node_leaves settings state c) last.leaf all last.among in
          omega (arith, own last.many last.row, last.end)

  list_stands : (c leaf : Address) → IsNode settings state c → Among (node_leaves settings state c) leaf → 2 < count_at state leaf
      → StandsAt (lists_of settings state c) (count_at state leaf) (words_in (refs_on state.zones leaf)) (start_in settings state c leaf).row (start_in settings state c leaf).place
  unfolding lists_of
  list_stands c leaf node among many = listed state.zones state.trained leaf (node_leaves settings state c) no_fill [] empty_filled (few_refs settings state served c node) among many

  -- a row of a node's lists
  module _ (c : Address) (a : AtNode c) where
    list_at : (r : ℕ) → r < length (lists_of settings state c) → get_or q.lists (base a.j + r) [] ≡ get_or (lists_of settings state c) r []
    list_at r h =
        ap (λ v. get_or v (base a.j + r) []) w.lists
        ∙ get_or-flat_map (lists_of settings state) cells a.j r root_cell [] a.within (subst (λ (d : Address). r < length (lists_of settings state d)) (sym a.cell) h)
        ∙ ap (λ (d : Address). get_or (lists_of settings state d) r []) a.cell

    list_low : base a.j + length (lists_of settings state c) ≤ length q.lists
    list_low =
        let all = flat_within (lists_of settings state) cells a.j root_cell a.within in
        let same = ap (λ (d : Address). length (lists_of settings state d)) a.cell in
        omega (arith, all, same, many_lists)

    list_long : length (layout.lists c) ≡ length (lists_of settings state c)
    list_long = ap length a.lists ∙ part_length q.all (length q.spots + base a.j) (length (lists_of settings state c)) (omega (arith, list_low, need))

    list_number_is : (r : ℕ) → r < length (lists_of settings state c) → get_or (layout.lists c) r 0 ≡ get_or q.all (length q.spots + (base a.j + r)) 0
    list_number_is r h =
        let e : length q.spots + base a.j + r ≡ length q.spots + (base a.j + r) = omega arith in
        ap (λ v. get_or v r 0) a.lists ∙ part_get q.all (length q.spots + base a.j) (length (lists_of settings state c)) r h ∙ ap (λ k. get_or q.all k 0) e

    list_numbered : (r : ℕ) → r < length (lists_of settings state c) → list_number numbers (base a.j + r) ≡ get_or (layout.lists c) r 0
    list_numbered r h = number (length q.spots + (base a.j + r)) (omega (arith, list_low, h, need)) ∙ sym (list_number_is r h)

  -- ---- entries
  leaf_entry_same : (c : Address) (a : AtNode c) (i : ℕ) → IsNode settings state c → i < 256 → is_parted settings state (entry_cell c i) ≡ false
      → placed_entry numbers (entry_in (spots_of settings state (base a.j) (slot a.j) c) i) ≡ leaf_entry layout settings state c (first_leaf settings state (entry_cell c i))
  leaf_entry_same c a i node small whole =
      let leaf = first_leaf settings state (entry_cell c i) in
      let st = start_in settings state c leaf in
      ap (placed_entry numbers) (leaf_entry_is settings state c node i small (base a.j) (slot a.j) whole)
      ∙ placed_for numbers (refs_on state.zones leaf) (base a.j + st.row) st.place (list_row layout settings state c leaf)
      (λ many. (
      let s = list_stands c leaf node (leaf_among settings state c node i small whole) (omega (arith, many, refs_length state.zones leaf)) in
      (list_numbered c a st.row s.within, omega (arith, s.fits, many, refs_length state.zones leaf))))
      ∙ ap (λ v. entry_for v (list_row layout settings state c leaf) st.place) (refs_are leaf)

  child_entry_same : (c : Address) (a : AtNode c) (i : ℕ) → IsNode settings state c → i < 256 → is_parted settings state (entry_cell c i) ≡ true
      → placed_entry numbers (entry_in (spots_of settings state (base a.j) (slot a.j) c) i) ≡ entry.Child (layout.node (entry_cell c i))
  child_entry_same c a i node small parted =
      let e = entry_cell c i in
      let at = child_entry_is settings state c node i small (base a.j) (slot a.j) parted in
      let m = length (flat_map (node_children settings state) (take a.j cells)) in
      let own = ap (λ (d : Address). length (node_children settings state d)) a.cell in
      let all = flat_within (node_children settings state) cells a.j root_cell a.within in
      let long = ap length w.queue in
      let low : slot a.j + at.place < length cells = omega (arith, own, all, long, at.within) in
      let next : slot a.j + at.place ≡ suc (m + at.place) = omega arith in
      let is : get_or cells (slot a.j + at.place) root_cell ≡ e =
      ap (λ k. get_or cells k root_cell) next ∙ ap (λ v. get_or v (suc (m + at.place)) root_cell) w.queue
      ∙ get_or-flat_map (node_children settings state) cells a.j at.place root_cell root_cell a.within (omega (arith, own, at.within))
      ∙ ap (λ (d : Address). get_or (node_children settings state d) at.place root_cell) a.cell
      ∙ Rattle.std.proofs.lemmas.List.get_or_default (node_children settings state c) at.place root_cell e at.within ∙ at.cell in
      let there = at_node e (subst (Among cells) is (Rattle.act_image.proofs.PlaceFacts.at_among cells (slot a.j + at.place) low)) in
      let same = same_place e there (slot a.j + at.place) low is in
      ap (placed_entry numbers) at.is
      ∙ ap entry.Child (number (slot a.j + at.place) (omega (arith, low, need, many_spots)) ∙ sym (there.row ∙ ap (λ k. get_or q.all k 0) same))

  pub entry_same : (c : Address) (a : AtNode c) (i : ℕ) → IsNode settings state c → i < 256
      → placed_entry numbers (entry_in (spots_of settings state (base a.j) (slot a.j) c) i) ≡ entry_at layout settings state c i
  entry_same c a i node small = by (is_parted settings state (entry_cell c i)) refl
    where
      by : (b : Bool) → is_parted settings state (entry_cell c i) ≡ b
          → placed_entry numbers (entry_in (spots_of settings state (base a.j) (slot a.j) c) i)
          ≡ cond b (entry.Child (layout.node (entry_cell c i))) (leaf_entry layout settings state c (first_leaf settings state (entry_cell c i)))
      by true e = child_entry_same c a i node small e
      by false e = leaf_entry_same c a i node small e

  -- ---- sums over rows
  rows_upto : (r : ℕ) (ds : List Address) (j b : ℕ) (f : Address → ℕ)
      → ((i : ℕ) → i < length ds → f (get_or ds i root_cell) ≡ times (get_or q.all (j + i) 0 ∷ part_of q.all (length q.spots + (b + length (flat_map (lists_of settings state) (take i ds)))) (length (lists_of settings state (get_or ds i root_cell)))) r)
      → j + length ds ≤ length q.all
      → sum_by f ds ≡ times (part_of q.all j (length ds)) r + times (part_of q.all (length q.spots + b) (length (flat_map (lists_of settings state) ds))) r
  rows_upto r [] j b f h low = refl
  rows_upto r (d ∷ ds) j b f h low =
      let here = h 0 (omega arith) in
      let none : j + 0 ≡ j = omega arith in
      let zero_b : length q.spots + (b + 0) ≡ length q.spots + b = omega arith in
      let here_is : f d ≡ times (get_or q.all j 0 ∷ part_of q.all (length q.spots + b) (length (lists_of settings state d))) r =
      here ∙ (λ i. times (get_or q.all (none i) 0 ∷ part_of q.all (zero_b i) (length (lists_of settings state d))) r) in
      let rest = rows_upto r ds (j + 1) (b + length (lists_of settings state d)) f
      (λ i small. (
      let next : j + suc i ≡ j + 1 + i = omega arith in
      let both = length-append (lists_of settings state d) (flat_map (lists_of settings state) (take i ds)) in
      let more : length q.spots + (b + length (lists_of settings state d ++ flat_map (lists_of settings state) (take i ds)))
      ≡ length q.spots + (b + length (lists_of settings state d) + length (flat_map (lists_of settings state) (take i ds))) = omega (arith, both) in
      h (suc i) (omega (arith, small)) ∙ (λ t. times (get_or q.all (next t) 0 ∷ part_of q.all (more t) (length (lists_of settings state (get_or ds i root_cell)))) r)))
      (omega (arith, low)) in
      let front = ap (λ v. times v r) (Rattle.act_image.proofs.PlaceFacts.part_first q.all j (length ds) (omega (arith, low))) in
      let long = length-append (lists_of settings state d) (flat_map (lists_of settings state) ds) in
      let behind : times (part_of q.all (length q.spots + b) (length (flat_map (lists_of settings state) (d ∷ ds)))) r
      ≡ times (part_of q.all (length q.spots + b) (length (lists_of settings state d))) r + times (part_of q.all (length q.spots + b + length (lists_of settings state d)) (length (flat_map (lists_of settings state) ds))) r =
      ap (λ m. times (part_of q.all (length q.spots + b) m) r) long
      ∙ ap (λ v. times v r) (Rattle.act_image.proofs.PlaceFacts.part_plus q.all (length q.spots + b) (length (lists_of settings state d)) (length (flat_map (lists_of settings state) ds)))
      ∙ times-append (part_of q.all (length q.spots + b) (length (lists_of settings state d))) (part_of q.all (length q.spots + b + length (lists_of settings state d)) (length (flat_map (lists_of settings state) ds))) r in
      let assoc : length q.spots + (b + length (lists_of settings state d)) ≡ length q.spots + b + length (lists_of settings state d) = omega arith in
      let tail = ap (λ m. times (part_of q.all m (length (flat_map (lists_of settings state) ds))) r) assoc in
      omega (arith, sum_by-cons f d ds, here_is, rest, front, behind, tail)

  node_sum : (r : ℕ) → sum_by (λ c. times (layout.node c ∷ layout.lists c) r) cells ≡ times (part_of q.all 0 (length cells)) r + times (part_of q.all (length q.spots + 0) (length (flat_map (lists_of settings state) cells))) r
  node_sum r =
      rows_upto r cells 0 0 (λ c. times (layout.node c ∷ layout.lists c) r)
      (λ i low. (
      let c = get_or cells i root_cell in
      let a = at_node c (Rattle.act_image.proofs.PlaceFacts.at_among cells i low) in
      let same : a.j ≡ i = same_place c a i low refl in
      let row : layout.node c ≡ get_or q.all (0 + i) 0 = a.row ∙ (let e : a.j ≡ 0 + i = omega (arith, same) in ap (λ k. get_or q.all k 0) e) in
      let lists : layout.lists c ≡ part_of q.all (length q.spots + (0 + length (flat_map (lists_of settings state) (take i cells)))) (length (lists_of settings state c)) =
      a.lists ∙ (let e : length q.spots + base a.j ≡ length q.spots + (0 + length (flat_map (lists_of settings state) (take i cells))) = omega (arith, ap base same) in ap (λ k. part_of q.all k (length (lists_of settings state c))) e) in
      λ t. times (row t ∷ lists t) r))
      (omega (arith, many_spots, need))

  -- the rows of all chains, one behind the other
  chains_from_first : (zones : List Zone) (first : ℕ) → OwnKeys zones → Each (λ (zone : Zone). layout.chain zone.key ≡ part_of q.all (first + chain_first zones zone.key) (chain_rows zone.shape)) zones
      → flat_map (λ (zone : Zone). layout.chain zone.key) zones ≡ part_of q.all first (chains_of zones)
  chains_from_first [] first apart h = refl
  chains_from_first (zone ∷ zones) first apart h =
      let self : (zone.key == zone.key) ≡ true = Rattle.std.proofs.Common.eq-eqb zone.key zone.key refl in
      let none : first + chain_first (zone ∷ zones) zone.key ≡ first = (let z : chain_first (zone ∷ zones) zone.key ≡ 0 = ap (λ b. cond b 0 (chain_rows zone.shape + chain_first zones zone.key)) self in omega (arith, z)) in
      let here : layout.chain zone.key ≡ part_of q.all first (chain_rows zone.shape) = h.0 ∙ ap (λ k. part_of q.all k (chain_rows zone.shape)) none in
      let rest = chains_from_first zones (first + chain_rows zone.shape) apart.1 (down zones apart.0 h.1) in
      (λ i. here i ++ rest i) ∙ sym (Rattle.act_image.proofs.PlaceFacts.part_plus q.all first (chain_rows zone.shape) (chains_of zones))
      ∙ ap (part_of q.all first) (sym (sum_by-cons (λ (z : Zone). chain_rows z.shape) zone zones))
    where
      down : (others : List Zone) → Each (λ (other : Zone). zone.key ≢ other.key) others → Each (λ (other : Zone). layout.chain other.key ≡ part_of q.all (first + chain_first (zone ∷ zones) other.key) (chain_rows other.shape)) others
          → Each (λ (other : Zone). layout.chain other.key ≡ part_of q.all (first + chain_rows zone.shape + chain_first zones other.key) (chain_rows other.shape)) others
      down [] ne h = tt
      down (other ∷ others) ne h =
          let no : (zone.key == other.key) ≡ false = Rattle.std.proofs.lemmas.Bool.ne_eqb zone.key other.key ne.0 in
          let further : chain_first (zone ∷ zones) other.key ≡ chain_rows zone.shape + chain_first zones other.key = ap (λ b. cond b 0 (chain_rows zone.shape + chain_first zones other.key)) no in
          let e : first + chain_first (zone ∷ zones) other.key ≡ first + chain_rows zone.shape + chain_first zones other.key = omega (arith, further) in
          (h.0 ∙ ap (λ k. part_of q.all k (chain_rows other.shape)) e, down others ne.1 h.1)

  all_chain_rows : flat_map (λ (zone : Zone). layout.chain zone.key) state.zones ≡ part_of q.all (length q.spots + length q.lists) (chains_of state.zones)
  all_chain_rows =
      chains_from_first state.zones (length q.spots + length q.lists) own
      (each_mono ChainRows (λ (zone : Zone). layout.chain zone.key ≡ part_of q.all (length q.spots + length q.lists + chain_first state.zones zone.key) (chain_rows zone.shape)) state.zones (λ zone c. c.rows) each_chain)

  times_flat : {X : Type 0} (f : X → List ℕ) (xs : List X) (r : ℕ) → times (flat_map f xs) r ≡ sum_by (λ x. times (f x) r) xs
  times_flat f [] r = refl
  times_flat f (x ∷ xs) r = omega (arith, times-append (f x) (flat_map f xs) r, times_flat f xs r, sum_by-cons (λ y. times (f y) r) x xs)

  whole_part : part_of q.all 0 (length q.all) ≡ q.all
  whole_part = Rattle.std.proofs.lemmas.List.take_all (length q.all) q.all (omega arith)

  all_rows : (r : ℕ) → times q.all r ≡ times (Rattle.act_super.specs.Stands.rows_in layout settings state) r
  all_rows r =
      let N = length cells in
      let L = length (flat_map (lists_of settings state) cells) in
      let C = chains_of state.zones in
      let total : length q.all ≡ N + (L + C) = omega (arith, need, many_spots, many_lists, many_chain_rows, chain_count state.zones 0) in
      let split : times q.all r ≡ times (part_of q.all 0 N) r + (times (part_of q.all (0 + N) L) r + times (part_of q.all (0 + N + L) C) r) =
      ap (λ v. times v r) (sym whole_part ∙ ap (part_of q.all 0) total ∙ Rattle.act_image.proofs.PlaceFacts.part_plus q.all 0 N (L + C))
      ∙ times-append (part_of q.all 0 N) (part_of q.all (0 + N) (L + C)) r
      ∙ ap (λ m. times (part_of q.all 0 N) r + m) (ap (λ v. times v r) (Rattle.act_image.proofs.PlaceFacts.part_plus q.all (0 + N) L C) ∙ times-append (part_of q.all (0 + N) L) (part_of q.all (0 + N + L) C) r) in
      let nodes = times_flat (λ c. layout.node c ∷ layout.lists c) (nodes_of settings state) r in
      let same = w.same (λ c. times (layout.node c ∷ layout.lists c) r) in
      let own_rows = node_sum r in
      let chains = ap (λ v. times v r) all_chain_rows in
      let at_lists : length q.spots + 0 ≡ 0 + N = omega (arith, many_spots) in
      let at_chains : length q.spots + length q.lists ≡ 0 + N + L = omega (arith, many_spots, many_lists) in
      let lists_there = ap (λ k. times (part_of q.all k L) r) at_lists in
      let chains_there = ap (λ k. times (part_of q.all k C) r) at_chains in
      omega (
        arith,
        split,
        times-append (flat_map (λ c. layout.node c ∷ layout.lists c) (nodes_of settings state)) (flat_map (λ (zone : Zone). layout.chain zone.key) state.zones) r,
        nodes,
        same,
        own_rows,
        chains,
        lists_there,
        chains_there,
      )

  -- ---- key and first row of each zone
  abbrev first_at : ChainPlace → ℕ × ℕ
  first_at chain = (chain.key, get_or (part_of q.all (length q.spots + length q.lists + chain.first) chain.count) 0 0)

  abbrev first_of : Zone → ℕ × ℕ
  first_of zone = (zone.key, get_or (layout.chain zone.key) 0 0)

  firsts_are : (zones : List Zone) (first : ℕ) → OwnKeys zones
      → Each (λ (zone : Zone). layout.chain zone.key ≡ part_of q.all (length q.spots + length q.lists + (first + chain_first zones zone.key)) (chain_rows zone.shape)) zones
      → map first_at (Rattle.act_image.specs.Plans.chains_from first zones) ≡ map first_of zones
  firsts_are [] first apart h = refl
  firsts_are (zone ∷ zones) first apart h =
      let self : (zone.key == zone.key) ≡ true = Rattle.std.proofs.Common.eq-eqb zone.key zone.key refl in
      let none : length q.spots + length q.lists + (first + chain_first (zone ∷ zones) zone.key) ≡ length q.spots + length q.lists + first =
      (let z : chain_first (zone ∷ zones) zone.key ≡ 0 = ap (λ b. cond b 0 (chain_rows zone.shape + chain_first zones zone.key)) self in omega (arith, z)) in
      let here : layout.chain zone.key ≡ part_of q.all (length q.spots + length q.lists + first) (chain_rows zone.shape) = h.0 ∙ ap (λ k. part_of q.all k (chain_rows zone.shape)) none in
      let rest = firsts_are zones (first + chain_rows zone.shape) apart.1 (down zones apart.0 h.1) in
      let same : first_at (record { key = zone.key; first = first; count = chain_rows zone.shape }) ≡ first_of zone = λ i. (zone.key, get_or (sym here i) 0 0) in
      λ i. same i ∷ rest i
    where
      down : (others : List Zone) → Each (λ (other : Zone). zone.key ≢ other.key) others
          → Each (λ (other : Zone). layout.chain other.key ≡ part_of q.all (length q.spots + length q.lists + (first + chain_first (zone ∷ zones) other.key)) (chain_rows other.shape)) others
          → Each (λ (other : Zone). layout.chain other.key ≡ part_of q.all (length q.spots + length q.lists + (first + chain_rows zone.shape + chain_first zones other.key)) (chain_rows other.shape)) others
      down [] ne h = tt
      down (other ∷ others) ne h =
          let no : (zone.key == other.key) ≡ false = Rattle.std.proofs.lemmas.Bool.ne_eqb zone.key other.key ne.0 in
          let further : chain_first (zone ∷ zones) other.key ≡ chain_rows zone.shape + chain_first zones other.key = ap (λ b. cond b 0 (chain_rows zone.shape + chain_first zones other.key)) no in
          let e : length q.spots + length q.lists + (first + chain_first (zone ∷ zones) other.key) ≡ length q.spots + length q.lists + (first + chain_rows zone.shape + chain_first zones other.key) = omega (arith, further) in
          (h.0 ∙ ap (λ k. part_of q.all k (chain_rows other.shape)) e, down others ne.1 h.1)

  abbrev first_after : ℕ → ℕ → ChainPlace → ℕ × ℕ
  first_after m n chain = (chain.key, get_or (part_of q.all (m + n + chain.first) chain.count) 0 0)

  firsts_of_plan : firsts_in (installed p q) ≡ map first_of state.zones
  unfolding firsts_in installed
  firsts_of_plan =
      (λ i. map (first_after (many_nodes i) (w.list_rows i)) q.chains)
      ∙ ap (map first_at) w.chains
      ∙ firsts_are state.zones 0 own
      (each_mono ChainRows (λ (zone : Zone). layout.chain zone.key ≡ part_of q.all (length q.spots + length q.lists + (0 + chain_first state.zones zone.key)) (chain_rows zone.shape)) state.zones
      (λ zone c. c.rows ∙ (let e : length q.spots + length q.lists + chain_first state.zones zone.key ≡ length q.spots + length q.lists + (0 + chain_first state.zones zone.key) = omega arith in ap (λ k. part_of q.all k (chain_rows zone.shape)) e)) each_chain)

  -- ---- the words of chains
  module _ (x : Sight) (fresh_words : (i place : ℕ) → i < length q.all → place < 256 → x.word (get_or q.all i 0) place ≡ planned_word q i place) where
    module _ (zone : Zone) (c : ChainRows zone) where
      chain_get : (i : ℕ) → i < chain_rows zone.shape → get_or (layout.chain zone.key) i 0 ≡ get_or q.all (length q.spots + length q.lists + (chain_first state.zones zone.key + i)) 0
      chain_get i h =
          let e : length q.spots + length q.lists + chain_first state.zones zone.key + i ≡ length q.spots + length q.lists + (chain_first state.zones zone.key + i) = omega arith in
          ap (λ v. get_or v i 0) c.rows ∙ part_get q.all (length q.spots + length q.lists + chain_first state.zones zone.key) (chain_rows zone.shape) i h ∙ ap (λ k. get_or q.all k 0) e

      chain_long : length (layout.chain zone.key) ≡ chain_rows zone.shape
      chain_long = ap length c.rows ∙ part_length q.all (length q.spots + length q.lists + chain_first state.zones zone.key) (chain_rows zone.shape) c.within

      chain_end : (i : ℕ) → chain_rows zone.shape ≤ i → get_or (layout.chain zone.key) i 0 ≡ 0
      chain_end i h = get_or_past (layout.chain zone.key) i 0 (omega (arith, chain_long, h))

      -- the word by the chain and the body of the zone
      row_word : (i place : ℕ) → i < chain_rows zone.shape → place < 256
          → x.word (get_or (layout.chain zone.key) i 0) place
          ≡ chain_word numbers (record { key = zone.key; first = chain_first state.zones zone.key; count = chain_rows zone.shape }) (body_of zone.shape) i place
      row_word i place h small =
          let r : get_or q.chain_rows (chain_first state.zones zone.key + i) no_row ≡ record { chain = 0 + c.at.index; body = 0 + c.at.index; row = i } = ap (λ v. get_or v (chain_first state.zones zone.key + i) no_row) w.chain_rows ∙ c.at.rows i h in
          let index : 0 + c.at.index ≡ c.at.index = omega arith in
          let zero_first : 0 + chain_first state.zones zone.key ≡ chain_first state.zones zone.key = omega arith in
          let place_is : get_or q.chains (0 + c.at.index) no_chain ≡ record { key = zone.key; first = chain_first state.zones zone.key; count = chain_rows zone.shape } =
          ap (λ k. get_or q.chains k no_chain) index ∙ ap (λ v. get_or v c.at.index no_chain) w.chains ∙ c.at.place ∙ (λ t. record { key = zone.key; first = zero_first t; count = chain_rows zone.shape }) in
          let body_is : get_or q.bodies (0 + c.at.index) [] ≡ body_of zone.shape = ap (λ k. get_or q.bodies k []) index ∙ ap (λ v. get_or v c.at.index []) w.bodies ∙ c.at.body in
          ap (λ k. x.word k place) (chain_get i h)
          ∙ chain_row_word x fresh_words (chain_first state.zones zone.key + i) place (omega (arith, c.at.within, h, many_chain_rows)) small
          ∙ ap (λ (v : Rattle.act_image.specs.declared.chains.ChainRow.ChainRow). chain_word numbers (get_or q.chains v.chain no_chain) (get_or q.bodies v.body []) v.row place) r
          ∙ (λ t. chain_word numbers (place_is t) (body_is t) i place)

      -- the number of the next row
      next_is : (i : ℕ) → cond (nat_lt (i + 1) (chain_rows zone.shape)) (chain_number numbers (chain_first state.zones zone.key + (i + 1))) 0 ≡ get_or (layout.chain zone.key) (i + 1) 0
      next_is i = by (sides (i + 1) (chain_rows zone.shape))
        where
          sides : (a b : ℕ) → (a < b) ⊎ (b ≤ a)
          sides a b = grind arith

          by : (i + 1 < chain_rows zone.shape) ⊎ (chain_rows zone.shape ≤ i + 1)
              → cond (nat_lt (i + 1) (chain_rows zone.shape)) (chain_number numbers (chain_first state.zones zone.key + (i + 1))) 0 ≡ get_or (layout.chain zone.key) (i + 1) 0
          by (inl low) =
              cond_true _ _ _ (lt_is (i + 1) (chain_rows zone.shape) low)
              ∙ number (length q.spots + length q.lists + (chain_first state.zones zone.key + (i + 1))) (omega (arith, c.within, low)) ∙ sym (chain_get (i + 1) low)
          by (inr high) = cond_false _ _ _ (ge_is (i + 1) (chain_rows zone.shape) high) ∙ sym (chain_end (i + 1) high)

      pub has_chain : HasChain x (layout.chain zone.key) zone
      has_chain = record {
        size = chain_long;
        first = (
            let none : 0 + 1 ≡ 1 = omega arith in
            row_word 0 0 (some_rows zone) (omega arith) ∙ ap (λ m. zone.key * 2 ^ 32 + m) (next_is 0 ∙ ap (λ k. get_or (layout.chain zone.key) k 0) none));
        next = λ i some low. (
            let no : (i == 0) ≡ false = Rattle.std.proofs.lemmas.Bool.ne_eqb i 0 (λ e. omega (arith, e, some)) in
            let zero_key : (v : ℕ) → 0 * 2 ^ 32 + v ≡ v = λ v. omega arith in
            row_word i 0 (omega (arith, low, chain_long)) (omega arith)
            ∙ ap (λ b. cond b zone.key 0 * 2 ^ 32 + cond (nat_lt (i + 1) (chain_rows zone.shape)) (chain_number numbers (chain_first state.zones zone.key + (i + 1))) 0) no
            ∙ zero_key _ ∙ next_is i);
        body = λ i low. (
            let row_low : i / 255 < chain_rows zone.shape = omega (arith, low, chain_long) in
            let next : 1 + i % 255 ≡ suc (i % 255) = omega arith in
            let back : i / 255 * 255 + i % 255 ≡ i = omega arith in
            row_word (i / 255) (1 + i % 255) row_low (omega arith)
            ∙ ap (chain_word numbers (record { key = zone.key; first = chain_first state.zones zone.key; count = chain_rows zone.shape }) (body_of zone.shape) (i / 255)) next
            ∙ ap (λ k. get_or (body_of zone.shape) k 0) back);
      }

    -- ---- all words
    entry_words : (c : Address) (i : ℕ) → IsNode settings state c → i < 256 → x.word (layout.node c) i ≡ entry_word (entry_at layout settings state c i)
    entry_words c i node small =
        let a = at_node c (node_among c node) in
        ap (λ k. x.word k i) a.row ∙ node_word x fresh_words a.j i a.within small
        ∙ ap (λ v. entry_word (placed_entry numbers (entry_in v i))) a.spots ∙ ap entry_word (entry_same c a i node small)

    row_of_list : (c : Address) (a : AtNode c) (r place : ℕ) → r < length (lists_of settings state c) → place < 256
        → x.word (get_or (layout.lists c) r 0) place ≡ placed_word numbers (get_or (get_or (lists_of settings state c) r []) place (list.Count 0))
    row_of_list c a r place h small =
        ap (λ k. x.word k place) (list_number_is c a r h) ∙ list_word x fresh_words (base a.j + r) place (omega (arith, list_low c a, h)) small
        ∙ ap (λ v. placed_word numbers (get_or v place (list.Count 0))) (list_at c a r h)

    list_words_are : (c : Address) (leaf : Address) → IsNode settings state c → Among (node_leaves settings state c) leaf → 2 < count_at state leaf → HasList x layout settings state c leaf
    list_words_are c leaf node among many =
        let a = at_node c (node_among c node) in
        let s = list_stands c leaf node among many in
        let st = start_in settings state c leaf in
        let long : length (words_of (refs_in layout (refs_of state.zones leaf))) ≡ length (words_in (refs_on state.zones leaf)) =
        sym (ap length (placed_words numbers (refs_on state.zones leaf) ∙ ap words_of (refs_are leaf))) ∙ length-map (words_in (refs_on state.zones leaf)) (placed_word numbers) in
        let words : length (words_in (refs_on state.zones leaf)) ≡ list_words (count_at state leaf) = words_length (refs_on state.zones leaf) ∙ ap list_words (refs_length state.zones leaf) in
        record {
          row = omega (arith, s.within, list_long c a);
          words = record {
            within = omega (arith, long, words, s.fits);
            each = λ j low. (
                let there : j < length (words_in (refs_on state.zones leaf)) = omega (arith, low, long) in
                row_of_list c a st.row (st.place + j) s.within (omega (arith, there, words, s.fits)) ∙ ap (placed_word numbers) (s.each j there)
                ∙ placed_at numbers (refs_on state.zones leaf) j there ∙ ap (λ v. get_or (words_of v) j 0) (refs_are leaf));
          };
        }

    rest_words : (c : Address) (i place : ℕ) → IsNode settings state c → i < length (layout.lists c) → place < 256 → IsRest settings state c i place → x.word (get_or (layout.lists c) i 0) place ≡ 0
    rest_words c i place node low small rest =
        let a = at_node c (node_among c node) in
        let there : i < length (lists_of settings state c) = omega (arith, low, list_long c a) in
        let past : length (get_or (lists_of settings state c) i []) ≤ place = row_ends c i place node there rest in
        row_of_list c a i place there small ∙ ap (placed_word numbers) (get_or_past (get_or (lists_of settings state c) i []) place (list.Count 0) past)

  -- ---- the root and the number of rows
  root_at : AtNode root_cell
  root_at = at_node root_cell (subst (λ v. Among v root_cell) (sym w.queue) (inl refl))

  some_cells : 0 < length cells
  some_cells = omega (arith, ap length w.queue)

  root_first : layout.node root_cell ≡ q.root
  root_first =
      let first : get_or cells 0 root_cell ≡ root_cell = ap (λ v. get_or v 0 root_cell) w.queue in
      root_at.row ∙ ap (λ k. get_or q.all k 0) (same_place root_cell root_at 0 some_cells first) ∙ sym root

  all_sized : length q.all ≡ size_of settings state
  all_sized = need ∙ whole_sized settings state served q cells w

  installed_rows : rows_in (installed p q) ≡ q.all
  unfolding rows_in installed
  installed_rows = refl

  installed_root : (installed p q).root ≡ q.root
  unfolding installed
  installed_root = refl

  copied : IsCopy settings (installed p q) state cells
  unfolding installed
  copied = record { same = w.same; are = w.are; queue = w.queue; nodes = w.nodes; under = w.under; lists = w.list_rows ∙ many_lists; chains = w.chains; all = omega (arith, need, many_nodes, w.list_rows, many_chain_rows) }

  has_lists : (x : Sight) → ((i place : ℕ) → i < length q.all → place < 256 → x.word (get_or q.all i 0) place ≡ planned_word q i place) → HasLists settings (installed p q) x state
  unfolding installed
  has_lists x words c i place node low small =
      let a = at_node c (node_among c node) in
      row_of_list x words c a i place (omega (arith, low, list_long c a)) small
      ∙ ap (λ n. placed_word n (get_or (get_or (lists_of settings state c) i []) place (list.Count 0))) (sym numbers_are)

  pub stands : (x : Sight) → x.rows ≡ rows_in (installed p q) → x.firsts ≡ firsts_in (installed p q)
      → ((i place : ℕ) → i < length q.all → place < 256 → x.word (get_or q.all i 0) place ≡ planned_word q i place) → Shows settings (installed p q) x state
  stands x own_rows own_firsts words =
      let rows : x.rows ≡ q.all = own_rows ∙ installed_rows in
      record {
        served = served;
        cells = cells;
        copy = copied;
        lists = has_lists x words;
        rows = own_rows;
        firsts = own_firsts;
        by_rows = record {
          top = root_first ∙ sym installed_root;
          entries = λ c i node small. entry_words x words c i node small;
          lists = λ c i node small whole many. list_words_are x words c (first_leaf settings state (entry_cell c i)) node (leaf_among settings state c node i small whole) many;
          list_rows = λ c node. list_long c (at_node c (node_among c node)) ∙ lists_count settings state served c node;
          rest = λ c i place node low small rest. rest_words x words c i place node low small rest;
          chains = All-from_recursion (λ (zone : Zone). HasChain x (layout.chain zone.key) zone) state.zones
              (each_mono ChainRows (λ (zone : Zone). HasChain x (layout.chain zone.key) zone) state.zones (λ zone c. has_chain x words zone c) each_chain);
          firsts = own_firsts ∙ firsts_of_plan;
          rows = λ r. ap (λ v. times v r) rows ∙ all_rows r;
          once = λ r. (let same = ap (λ v. times v r) rows in omega (arith, same, once r));
          low = λ r some. low r (subst (λ v. 0 < times v r) rows some);
        };
      }

  pub rooted : 0 < times (rows_in (installed p q)) q.root
  rooted =
      let there = times_get q.all 0 0 (omega (arith, need, many_spots, some_cells)) in
      subst (λ v. 0 < times v q.root) (sym installed_rows) (subst (λ k. 0 < times q.all k) (sym root) there)

-- ---- a plan that gets its rows
some_or_none : (n : ℕ) → (0 < n) ⊎ (n ≡ 0)
some_or_none n = grind arith

-- what a plan of all rows makes of the image old: the new rows stand where its slots say
pub record MakesAll (p : Pic) (plan : Planned) (old x : Sight) : Type 0 where
  pub rows : x.rows ≡ rows_in (installed p plan)
  pub firsts : x.firsts ≡ firsts_in (installed p plan)
  pub stay : (r place : ℕ) → 0 < times x.rows r → times plan.rows r ≡ 0 → place < 256 → x.word r place ≡ old.word r place
  pub fresh : (i place : ℕ) → i < length plan.rows → place < 256 → x.word (get_or plan.rows i 0) place ≡ planned_word plan (get_or (new_places 0 plan.slots) i 0) place

module _ (settings : Settings) (p : Pic) (q : Planned) (state new : State) (plan : IsWholePlan settings p q state new) (rows : List ℕ) (fresh : IsFresh p rows) (long : length rows ≡ q.need) where
  abbrev given : Planned
  given = with_numbers q rows

  whole : IsWhole settings given new plan.cells
  whole = record {
    same = plan.whole.same;
    are = plan.whole.are;
    queue = plan.whole.queue;
    nodes = plan.whole.nodes;
    under = plan.whole.under;
    list_rows = plan.whole.list_rows;
    spots = plan.whole.spots;
    lists = plan.whole.lists;
    chains = plan.whole.chains;
    bodies = plan.whole.bodies;
    chain_rows = plan.whole.chain_rows;
  }

  pub as_many : length rows ≡ length (new_places 0 q.slots)
  as_many = long ∙ plan.need

  own_times : (r : ℕ) → times given.all r ≡ times (kept_of q.slots) r + times rows r
  own_times r = all_times 0 q.slots rows r as_many

  own_once : (r : ℕ) → times given.all r ≤ 1
  own_once r = omega (arith, own_times r, plan.gone r, fresh.once r)

  own_low : (r : ℕ) → 0 < times given.all r → (0 < r) × (r < 2 ^ 24)
  own_low r some = by (some_or_none (times rows r))
    where
      by : (0 < times rows r) ⊎ (times rows r ≡ 0) → (0 < r) × (r < 2 ^ 24)
      by (inl new) = fresh.low r new
      by (inr none) = plan.low r (omega (arith, some, none, own_times r, plan.gone r))

  own_length : length given.all ≡ length given.spots + length given.lists + length given.chain_rows
  own_length = rows_length q.slots rows ∙ plan.all

  new_word : (old x : Sight) → MakesAll p given old x → (k place : ℕ) → k < length given.all → place < 256 → get_or q.slots k kind.New ≡ kind.New → x.word (get_or given.all k 0) place ≡ planned_word given k place
  new_word old x m k place within small e =
      let n = new_row 0 q.slots rows k (omega (arith, within, rows_length q.slots rows)) e as_many in
      let at : get_or (new_places 0 q.slots) n.index 0 ≡ k = n.place ∙ omega arith in
      ap (λ v. x.word v place) (sym n.row) ∙ m.fresh n.index place n.within small ∙ ap (λ v. planned_word given v place) at

  -- each row has its word
  all_words : (old x : Sight) → Shows settings p old state → MakesAll p given old x → (k place : ℕ) → k < length given.all → place < 256 → x.word (get_or given.all k 0) place ≡ planned_word given k place
  all_words old x shown m k place within small = by (get_or q.slots k kind.New) refl
    where
      by : (s : Slot) → get_or q.slots k kind.New ≡ s → x.word (get_or given.all k 0) place ≡ planned_word given k place
      by (kind.Kept r) e =
          let number = kept_row q.slots rows k r e in
          let there : 0 < times given.all r = subst (λ v. 0 < times given.all v) number (times_get given.all k 0 within) in
          let same = ap (λ v. times v r) (m.rows ∙ installed_rows settings p given new plan.cells whole plan.served plan.keys own_once own_low own_length refl) in
          ap (λ v. x.word v place) number
          ∙ m.stay r place (omega (arith, same, there)) (omega (arith, kept_there q.slots k r e, plan.gone r, fresh.once r)) small
          ∙ plan.stay old rows k r place shown fresh long e small
      by kind.New e = new_word old x m k place within small e

  record WholeBound : Type 0 where
    few : q.need ≤ size_of settings new
    balance : (r : ℕ) → times (rows_in (installed p given)) r + times q.gone r ≡ times (rows_in p) r + times rows r
    count : length (rows_in (installed p given)) + length q.gone ≡ length (rows_in p) + length rows
    held : (r : ℕ) → times q.gone r ≤ times (rows_in p) r
    sized : length (rows_in (installed p given)) ≡ size_of settings new
    rooted : 0 < times (rows_in (installed p given)) given.root
    shows : (old x : Sight) → Shows settings p old state → MakesAll p given old x → Shows settings (installed p given) x new
    top : (installed p given).root ≡ given.root

  whole_bound : WholeBound
  whole_bound =
      let all = installed_rows settings p given new plan.cells whole plan.served plan.keys own_once own_low own_length refl in
      let size = all_sized settings p given new plan.cells whole plan.served plan.keys own_once own_low own_length refl in
      let count = all_slots 0 q.slots in
      let slots = rows_length q.slots rows in
      record {
        few = omega (arith, plan.need, count, slots, size);
        balance = λ r. omega (arith, ap (λ v. times v r) all, own_times r, plan.gone r);
        count = omega (arith, ap length all, slots, count, plan.count, as_many);
        held = λ r. omega (arith, plan.gone r);
        sized = ap length all ∙ size;
        rooted = rooted settings p given new plan.cells whole plan.served plan.keys own_once own_low own_length refl;
        shows = λ old x shown m. stands settings p given new plan.cells whole plan.served plan.keys own_once own_low own_length refl x m.rows m.firsts (all_words old x shown m);
        top = installed_root settings p given new plan.cells whole plan.served plan.keys own_once own_low own_length refl;
      }

-- a plan that holds the new rows alone makes the same of an image
module _ (settings : Settings) (p : Pic) (q : Planned) (state new : State) (plan : IsPlan settings p q state new) (rows : List ℕ) (fresh : IsFresh p rows) (long : length rows ≡ q.need) where
  long_whole : length rows ≡ plan.whole.need
  long_whole = long ∙ plan.trimmed.need

  same_copy : installed p (with_numbers plan.whole rows) ≡ installed p (with_numbers q rows)
  unfolding installed
  same_copy = λ i. record {
    root = get_or (with_rows (sym plan.trimmed.slots i) rows) 0 0;
    nodes = sym plan.trimmed.nodes i;
    under = sym plan.trimmed.under i;
    lists = sym plan.trimmed.list_rows i;
    chains = sym plan.trimmed.chains i;
    rows = with_rows (sym plan.trimmed.slots i) rows;
  }

  makes_all : (old x : Sight) → Makes p (with_numbers q rows) old x → MakesAll p (with_numbers plan.whole rows) old x
  makes_all old x m = record {
    rows = m.rows ∙ ap rows_in (sym same_copy);
    firsts = m.firsts ∙ ap firsts_in (sym same_copy);
    stay = m.stay;
    fresh = λ i place low small.
        m.fresh i place low small ∙ plan.trimmed.words rows i place long (omega (arith, low, long)) small
        ∙ ap (λ v. planned_word (with_numbers plan.whole rows) (get_or (new_places 0 v) i 0) place) plan.trimmed.slots;
  }

  pub many_new : length rows ≡ length (new_places 0 q.slots)
  many_new = as_many settings p plan.whole state new plan.leads rows fresh long_whole ∙ ap (λ v. length (new_places 0 v)) (sym plan.trimmed.slots)

  pub bound : IsBound settings p (with_numbers q rows) state new
  bound =
      let b = whole_bound settings p plan.whole state new plan.leads rows fresh long_whole in
      let gone = plan.trimmed.gone in
      let root : (with_numbers plan.whole rows).root ≡ (with_numbers q rows).root = ap (λ v. get_or (with_rows v rows) 0 0) (sym plan.trimmed.slots) in
      record {
        need = long;
        few = omega (arith, b.few, plan.trimmed.need);
        once = fresh.once;
        balance = λ r. omega (arith, b.balance r, ap (λ v. times (rows_in v) r) same_copy, ap (λ v. times v r) gone);
        count = omega (arith, b.count, ap (λ v. length (rows_in v)) same_copy, ap length gone);
        held = λ r. omega (arith, b.held r, ap (λ v. times v r) gone);
        sized = ap (λ v. length (rows_in v)) (sym same_copy) ∙ b.sized;
        rooted = subst (λ v. 0 < times (rows_in (installed p (with_numbers q rows))) v) root (subst (λ v. 0 < times (rows_in v) (with_numbers plan.whole rows).root) same_copy b.rooted);
        shows = λ old x shown m. subst (λ v. Shows settings v x new) same_copy (b.shows old x shown (makes_all old x m));
        top = ap (λ (v : Pic). v.root) (sym same_copy) ∙ b.top ∙ root;
      }
