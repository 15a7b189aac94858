-- A plan that holds the new rows alone has their words.
use Rattle.std.proofs.Common.{◌≡◌, ℕ, zero, suc, ◌+◌, ◌-◌, ◌<◌, ◌≤◌, ◌⊎◌, inl, inr, Bool, true, false, cond, refl, sym, ap, ◌∙◌, arith, List, [], ◌∷◌, ◌++◌, length, get_or, map}
use Rattle.std.specs.List.{AllByRecursion as Each, flat_map}
use Rattle.std.proofs.lemmas.List.{get_or-append-add, get_or-map, get_or_append_left, length-append}
use Rattle.act_grid.specs.declared.Point.{Point}
use Rattle.act_grid.specs.declared.Settings.{Settings}
use Rattle.act_grid.specs.Cell.{Address}
use Rattle.act_geom.specs.Body.{body_of}
use Rattle.act_entry.specs.Entries.{entry_word}
use Rattle.act_super.specs.declared.entry.Entry.{Entry}
use Rattle.act_super.specs.declared.entry.State.{State}
use Rattle.act_super.specs.declared.entry.Zone.{Zone}
use Rattle.act_super.specs.Nodes.{node_children}
use Rattle.act_super.specs.Sizes.{chain_rows}
use Rattle.act_super.specs.Stands.{Layout}
use Rattle.act_image.specs.declared.chains.ChainRow.{ChainRow}
use Rattle.act_image.specs.declared.lists.ListWord.TheVariants as list
use Rattle.act_image.specs.declared.slots.Slot.{Slot}
use Rattle.act_image.specs.declared.slots.Slot.TheVariants as kind
use Rattle.act_image.specs.declared.spots.Spot.{Spot}
use Rattle.act_image.specs.Fresh.{branch_stays, is_changed}
use Rattle.act_image.specs.Kept.{kept_slots, list_slots, new_slots, node_slot, of_first_body, own_rows, zone_slots}
use Rattle.act_image.specs.Paths.{own_lists, own_spots}
use Rattle.act_image.specs.Plans.{bodies_of, chain_rows_from, lists_of, rows_from, spots_from, spots_of}
use Rattle.act_image.specs.Slots.{new_places, with_rows}
use Rattle.act_image.specs.Words.{chain_word, entry_in, no_chain, no_row, placed_entry, placed_word}
use Rattle.act_image.specs.Pics.{Planned, numbers_of, planned_word, with_numbers}
use Rattle.act_image.proofs.Leaves.{each_append}
use Rattle.act_image.proofs.PlaceFacts.{rows_length}
use Rattle.act_image.proofs.WordFacts.{word_chain, word_list, word_node}

-- ---- what stands in the new rows, of what stands in all rows
abbrev pub pick : {X : Type 0} → List Slot → List X → List X
pick [] xs = []
pick (kind.Kept r ∷ slots) [] = []
pick (kind.Kept r ∷ slots) (x ∷ xs) = pick slots xs
pick (kind.New ∷ slots) [] = []
pick (kind.New ∷ slots) (x ∷ xs) = x ∷ pick slots xs

pub pick_length : {X : Type 0} (b : ℕ) (slots : List Slot) (xs : List X) → length slots ≡ length xs → length (pick slots xs) ≡ length (new_places b slots)
pick_length b [] xs h = refl
pick_length b (kind.Kept r ∷ slots) [] h = absurd (omega (arith, h))
pick_length b (kind.Kept r ∷ slots) (x ∷ xs) h = pick_length (b + 1) slots xs (omega (arith, h))
pick_length b (kind.New ∷ slots) [] h = absurd (omega (arith, h))
pick_length b (kind.New ∷ slots) (x ∷ xs) h = ap suc (pick_length (b + 1) slots xs (omega (arith, h)))

-- the i-th new row is this one of all
pub record Picked {X : Type 0} (b : ℕ) (slots : List Slot) (xs : List X) (d : X) (i : ℕ) : Type 0 where
  pub at : ℕ
  pub within : at < length slots
  pub place : get_or (new_places b slots) i 0 ≡ b + at
  pub same : get_or (pick slots xs) i d ≡ get_or xs at d

pub picked : {X : Type 0} (b : ℕ) (slots : List Slot) (xs : List X) (d : X) (i : ℕ) → length slots ≡ length xs → i < length (new_places b slots) → Picked b slots xs d i
picked b [] xs d i h low = absurd (omega (arith, low))
picked b (kind.Kept r ∷ slots) [] d i h low = absurd (omega (arith, h))
picked b (kind.Kept r ∷ slots) (x ∷ xs) d i h low =
    let n = picked (b + 1) slots xs d i (omega (arith, h)) low in
    let within = n.within in
    record { at = suc n.at; within = omega (arith, within); place = n.place ∙ omega arith; same = n.same }
picked b (kind.New ∷ slots) [] d i h low = absurd (omega (arith, h))
picked b (kind.New ∷ slots) (x ∷ xs) d zero h low = record { at = 0; within = omega arith; place = omega arith; same = refl }
picked b (kind.New ∷ slots) (x ∷ xs) d (suc i) h low =
    let n = picked (b + 1) slots xs d i (omega (arith, h)) (omega (arith, low)) in
    let within = n.within in
    record { at = suc n.at; within = omega (arith, within); place = n.place ∙ omega arith; same = n.same }

pick_append : {X : Type 0} (a b : List Slot) (xs ys : List X) → length a ≡ length xs → pick (a ++ b) (xs ++ ys) ≡ pick a xs ++ pick b ys
pick_append [] b [] ys h = refl
pick_append [] b (x ∷ xs) ys h = absurd (omega (arith, h))
pick_append (kind.Kept r ∷ a) b [] ys h = absurd (omega (arith, h))
pick_append (kind.Kept r ∷ a) b (x ∷ xs) ys h = pick_append a b xs ys (omega (arith, h))
pick_append (kind.New ∷ a) b [] ys h = absurd (omega (arith, h))
pick_append (kind.New ∷ a) b (x ∷ xs) ys h = ap (λ v. x ∷ v) (pick_append a b xs ys (omega (arith, h)))

pick_kept : {X : Type 0} (rows : List ℕ) (xs : List X) → pick (kept_slots rows) xs ≡ []
pick_kept [] xs = refl
pick_kept (r ∷ rows) [] = refl
pick_kept (r ∷ rows) (x ∷ xs) = pick_kept rows xs

pick_new : {X : Type 0} (xs : List X) (n : ℕ) → n ≡ length xs → pick (new_slots n) xs ≡ xs
pick_new [] zero h = refl
pick_new [] (suc n) h = refl
pick_new (x ∷ xs) zero h = absurd (omega (arith, h))
pick_new (x ∷ xs) (suc n) h = ap (λ v. x ∷ v) (pick_new xs n (omega (arith, h)))

pub new_append : (k : ℕ) (a b : List Slot) → new_places k (a ++ b) ≡ new_places k a ++ new_places (k + length a) b
new_append k [] b = let none : k ≡ k + 0 = omega arith in ap (λ m. new_places m b) none
new_append k (kind.Kept r ∷ a) b = let next : k + 1 + length a ≡ k + suc (length a) = omega arith in new_append (k + 1) a b ∙ ap (λ m. new_places (k + 1) a ++ new_places m b) next
new_append k (kind.New ∷ a) b =
    let next : k + 1 + length a ≡ k + suc (length a) = omega arith in ap (λ v. k ∷ v) (new_append (k + 1) a b ∙ ap (λ m. new_places (k + 1) a ++ new_places m b) next)

-- ---- the entries, the list rows and the chain rows that come
module _ (settings : Settings) (layout : Layout) (old new : State) (e : Entry) where
  pub spots_picked : (cells : List Address) (base slot : ℕ) → own_spots settings old new e base slot cells ≡ pick (map (node_slot settings layout old new e) cells) (spots_from settings new base slot cells)
  spots_picked [] base slot = refl
  spots_picked (c ∷ cells) base slot = by (branch_stays settings old new e c) (spots_picked cells (base + length (lists_of settings new c)) (slot + length (node_children settings new c)))
    where
      more : List Spot
      more = spots_of settings new base slot c

      rest : List (List Spot)
      rest = spots_from settings new (base + length (lists_of settings new c)) (slot + length (node_children settings new c)) cells

      own : List (List Spot)
      own = own_spots settings old new e (base + length (lists_of settings new c)) (slot + length (node_children settings new c)) cells

      by : (b : Bool) → own ≡ pick (map (node_slot settings layout old new e) cells) rest → cond b [] (more ∷ []) ++ own ≡ pick (cond b (kind.Kept (layout.node c)) kind.New ∷ map (node_slot settings layout old new e) cells) (more ∷ rest)
      by true h = h
      by false h = ap (λ v. more ∷ v) h

  pub lists_picked : (cells : List Address) → Each (λ c. length (list_slots settings layout old new e c) ≡ length (lists_of settings new c)) cells
      → flat_map (own_lists settings old new e) cells ≡ pick (flat_map (list_slots settings layout old new e) cells) (flat_map (lists_of settings new) cells)
  lists_picked [] h = refl
  lists_picked (c ∷ cells) h =
      (λ i. by (branch_stays settings old new e c) i ++ lists_picked cells h.1 i)
      ∙ sym (pick_append (list_slots settings layout old new e c) (flat_map (list_slots settings layout old new e) cells) (lists_of settings new c) (flat_map (lists_of settings new) cells) h.0)
    where
      by : (b : Bool) → cond b [] (lists_of settings new c) ≡ pick (cond b (kept_slots (layout.lists c)) (new_slots (length (lists_of settings new c)))) (lists_of settings new c)
      by true = sym (pick_kept (layout.lists c) (lists_of settings new c))
      by false = sym (pick_new (lists_of settings new c) (length (lists_of settings new c)) refl)

module _ (chain : ℕ → List ℕ) (e : Entry) where
  pub rows_picked : (k : ℕ) (zones : List Zone) → Each (λ (zone : Zone). length (zone_slots chain e zone) ≡ chain_rows zone.shape) zones → own_rows e k zones ≡ pick (flat_map (zone_slots chain e) zones) (chain_rows_from k zones)
  rows_picked k [] h = refl
  rows_picked k (zone ∷ zones) h =
      (λ i. by (is_changed e zone.key) i ++ rows_picked (k + 1) zones h.1 i)
      ∙ sym (pick_append (zone_slots chain e zone) (flat_map (zone_slots chain e) zones) (rows_from k 0 (chain_rows zone.shape)) (chain_rows_from (k + 1) zones) (h.0 ∙ sym (rows_length k 0 (chain_rows zone.shape))))
    where
      by : (b : Bool) → cond b (rows_from k 0 (chain_rows zone.shape)) [] ≡ pick (cond b (new_slots (chain_rows zone.shape)) (kept_slots (chain zone.key))) (rows_from k 0 (chain_rows zone.shape))
      by true = sym (pick_new (rows_from k 0 (chain_rows zone.shape)) (chain_rows zone.shape) (sym (rows_length k 0 (chain_rows zone.shape))))
      by false = sym (pick_kept (chain zone.key) (rows_from k 0 (chain_rows zone.shape)))

-- the body of a new chain row is the only one at hand
module _ (e : Entry) (shape : List (List Point)) where
  pub record HasBody (k : ℕ) (bodies : List (List ℕ)) (r : ChainRow) : Type 0 where
    pub at : ℕ
    pub is : r.body ≡ k + at
    pub body : get_or bodies at [] ≡ body_of shape

  each_row : (k : ℕ) (bodies : List (List ℕ)) (row n : ℕ) → get_or bodies 0 [] ≡ body_of shape → Each (HasBody k bodies) (rows_from k row n)
  each_row k bodies row zero h = tt
  each_row k bodies row (suc n) h = (record { at = 0; is = omega arith; body = h }, each_row k bodies (row + 1) n h)

  deeper : (k : ℕ) (body : List ℕ) (bodies : List (List ℕ)) (rs : List ChainRow) → Each (HasBody (k + 1) bodies) rs → Each (HasBody k (body ∷ bodies)) rs
  deeper k body bodies [] h = tt
  deeper k body bodies (r ∷ rs) h = (record { at = suc h.0.at; is = h.0.is ∙ omega arith; body = h.0.body }, deeper k body bodies rs h.1)

  pub own_bodies : (k : ℕ) (zones : List Zone) → Each (λ (zone : Zone). is_changed e zone.key ≡ true → zone.shape ≡ shape) zones → Each (HasBody k (bodies_of zones)) (own_rows e k zones)
  own_bodies k [] h = tt
  own_bodies k (zone ∷ zones) h =
      each_append (HasBody k (bodies_of (zone ∷ zones))) (cond (is_changed e zone.key) (rows_from k 0 (chain_rows zone.shape)) []) (own_rows e (k + 1) zones) (by (is_changed e zone.key) h.0)
      (deeper k (body_of zone.shape) (bodies_of zones) (own_rows e (k + 1) zones) (own_bodies (k + 1) zones h.1))
    where
      by : (b : Bool) → (b ≡ true → zone.shape ≡ shape) → Each (HasBody k (bodies_of (zone ∷ zones))) (cond b (rows_from k 0 (chain_rows zone.shape)) [])
      by true same = each_row k (bodies_of (zone ∷ zones)) 0 (chain_rows zone.shape) (ap body_of (same refl))
      by false same = tt

-- ---- the words
module _ (q w : Planned) (a b d : List Slot) (nodes : q.nodes ≡ w.nodes) (list_rows : q.list_rows ≡ w.list_rows) (chains : q.chains ≡ w.chains) (all : q.slots ≡ w.slots) (slots : q.slots ≡ a ++ (b ++ d))
    (spots : q.spots ≡ pick a w.spots) (lists : q.lists ≡ pick b w.lists) (chain_rows_are : q.chain_rows ≡ map of_first_body (pick d w.chain_rows)) (long_a : length a ≡ length w.spots) (long_b : length b ≡ length w.lists) (long_d : length d ≡ length w.chain_rows)
    (bodies : (i : ℕ) → i < length (pick d w.chain_rows) → get_or q.bodies 0 [] ≡ get_or w.bodies (get_or (pick d w.chain_rows) i no_row).body []) (rows : List ℕ) where
  abbrev given : Planned
  given = with_numbers q rows

  abbrev whole : Planned
  whole = with_numbers w rows

  numbers : numbers_of given ≡ numbers_of whole
  numbers = λ i. record { nodes = length (nodes i); lists = list_rows i; rows = with_rows (all i) rows }

  split : new_places 0 q.slots ≡ new_places 0 a ++ (new_places (0 + length a) b ++ new_places (0 + length a + length b) d)
  split = ap (new_places 0) slots ∙ new_append 0 a (b ++ d) ∙ ap (λ v. new_places 0 a ++ v) (new_append (0 + length a) b d)

  many_a : length q.spots ≡ length (new_places 0 a)
  many_a = ap length spots ∙ pick_length 0 a w.spots long_a

  many_b : length q.lists ≡ length (new_places (0 + length a) b)
  many_b = ap length lists ∙ pick_length (0 + length a) b w.lists long_b

  many_d : length (pick d w.chain_rows) ≡ length (new_places (0 + length a + length b) d)
  many_d = pick_length (0 + length a + length b) d w.chain_rows long_d

  node_case : (i place : ℕ) → i < length q.spots → planned_word given i place ≡ planned_word whole (get_or (new_places 0 q.slots) i 0) place
  node_case i place low =
      let n = picked 0 a w.spots [] i long_a (omega (arith, low, many_a)) in
      let there : get_or (new_places 0 q.slots) i 0 ≡ n.at =
      ap (λ v. get_or v i 0) split ∙ get_or_append_left (new_places 0 a) (new_places (0 + length a) b ++ new_places (0 + length a + length b) d) 0 i (omega (arith, low, many_a)) ∙ n.place ∙ omega arith in
      let within : n.at < length w.spots = omega (arith, n.within, long_a) in
      word_node given i place (length q.spots) (length q.lists) refl refl low
      ∙ (λ t. entry_word (placed_entry (numbers t) (entry_in (get_or (spots t) i []) place))) ∙ ap (λ v. entry_word (placed_entry (numbers_of whole) (entry_in v place))) n.same
      ∙ sym (ap (λ k. planned_word whole k place) there ∙ word_node whole n.at place (length w.spots) (length w.lists) refl refl within)

  list_case : (i place : ℕ) → length q.spots ≤ i → i < length q.spots + length q.lists → planned_word given i place ≡ planned_word whole (get_or (new_places 0 q.slots) i 0) place
  list_case i place high low =
      let j = i - length q.spots in
      let at : i ≡ length (new_places 0 a) + (i - length q.spots) = omega (arith, high, many_a) in
      let own : i - length q.spots < length (new_places (0 + length a) b) = omega (arith, high, low, many_b) in
      let n = picked (0 + length a) b w.lists [] j long_b own in
      let there : get_or (new_places 0 q.slots) i 0 ≡ 0 + length a + n.at =
      (λ t. get_or (split t) (at t) 0) ∙ get_or-append-add (new_places 0 a) (new_places (0 + length a) b ++ new_places (0 + length a + length b) d) j 0
      ∙ get_or_append_left (new_places (0 + length a) b) (new_places (0 + length a + length b) d) 0 j own ∙ n.place in
      let above : length w.spots ≤ 0 + length a + n.at = omega (arith, long_a) in
      let below : 0 + length a + n.at < length w.spots + length w.lists = omega (arith, long_a, n.within, long_b) in
      let back : 0 + length a + n.at - length w.spots ≡ n.at = omega (arith, long_a) in
      word_list given i place (length q.spots) (length q.lists) refl refl high low
      ∙ (λ t. placed_word (numbers t) (get_or (get_or (lists t) j []) place (list.Count 0))) ∙ ap (λ v. placed_word (numbers_of whole) (get_or v place (list.Count 0))) n.same
      ∙ sym (ap (λ k. planned_word whole k place) there ∙ word_list whole (0 + length a + n.at) place (length w.spots) (length w.lists) refl refl above below
      ∙ ap (λ k. placed_word (numbers_of whole) (get_or (get_or w.lists k []) place (list.Count 0))) back)

  chain_case : (i place : ℕ) → length q.spots + length q.lists ≤ i → i < length (new_places 0 q.slots) → planned_word given i place ≡ planned_word whole (get_or (new_places 0 q.slots) i 0) place
  chain_case i place high low =
      let j = i - length q.spots - length q.lists in
      let at : i ≡ length (new_places 0 a) + (length (new_places (0 + length a) b) + (i - length q.spots - length q.lists)) = omega (arith, high, many_a, many_b) in
      let long = ap length split ∙ length-append (new_places 0 a) (new_places (0 + length a) b ++ new_places (0 + length a + length b) d) in
      let longer = length-append (new_places (0 + length a) b) (new_places (0 + length a + length b) d) in
      let own : i - length q.spots - length q.lists < length (new_places (0 + length a + length b) d) = omega (arith, high, low, many_a, many_b, long, longer) in
      let n = picked (0 + length a + length b) d w.chain_rows no_row j long_d own in
      let there : get_or (new_places 0 q.slots) i 0 ≡ 0 + length a + length b + n.at =
      (λ t. get_or (split t) (at t) 0) ∙ get_or-append-add (new_places 0 a) (new_places (0 + length a) b ++ new_places (0 + length a + length b) d) (length (new_places (0 + length a) b) + j) 0
      ∙ get_or-append-add (new_places (0 + length a) b) (new_places (0 + length a + length b) d) j 0 ∙ n.place in
      let above : length w.spots + length w.lists ≤ 0 + length a + length b + n.at = omega (arith, long_a, long_b) in
      let back : 0 + length a + length b + n.at - length w.spots - length w.lists ≡ n.at = omega (arith, long_a, long_b) in
      let small : j < length (pick d w.chain_rows) = omega (arith, own, many_d) in
      let row : get_or q.chain_rows j no_row ≡ of_first_body (get_or (pick d w.chain_rows) j no_row) =
      ap (λ v. get_or v j no_row) chain_rows_are ∙ get_or-map of_first_body (pick d w.chain_rows) j no_row no_row small in
      word_chain given i place (length q.spots) (length q.lists) refl refl high
      ∙ (λ t. chain_word (numbers t) (get_or (chains t) (row t).chain no_chain) (get_or q.bodies (row t).body []) (row t).row place)
      ∙ ap (λ v. chain_word (numbers_of whole) (get_or w.chains (get_or (pick d w.chain_rows) j no_row).chain no_chain) v (get_or (pick d w.chain_rows) j no_row).row place) (bodies j small)
      ∙ ap (λ (r : ChainRow). chain_word (numbers_of whole) (get_or w.chains r.chain no_chain) (get_or w.bodies r.body []) r.row place) n.same
      ∙ sym (ap (λ k. planned_word whole k place) there ∙ word_chain whole (0 + length a + length b + n.at) place (length w.spots) (length w.lists) refl refl above
      ∙ ap (λ k. chain_word (numbers_of whole) (get_or w.chains (get_or w.chain_rows k no_row).chain no_chain) (get_or w.bodies (get_or w.chain_rows k no_row).body []) (get_or w.chain_rows k no_row).row place) back)

  pub picked_words : (i place : ℕ) → i < length (new_places 0 q.slots) → planned_word given i place ≡ planned_word whole (get_or (new_places 0 q.slots) i 0) place
  picked_words i place low = by (sides i (length q.spots)) (sides i (length q.spots + length q.lists))
    where
      sides : (a b : ℕ) → (a < b) ⊎ (b ≤ a)
      sides a b = grind arith

      by : (i < length q.spots) ⊎ (length q.spots ≤ i) → (i < length q.spots + length q.lists) ⊎ (length q.spots + length q.lists ≤ i) → planned_word given i place ≡ planned_word whole (get_or (new_places 0 q.slots) i 0) place
      by (inl node) other = node_case i place node
      by (inr high) (inl l) = list_case i place high l
      by (inr high) (inr past) = chain_case i place past low
