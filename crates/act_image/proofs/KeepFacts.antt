-- The rows that stay serve for the same, and have the words that the plan has for them.
use Rattle.std.proofs.Common.{◌≡◌, ◌≢◌, ℕ, zero, suc, ◌+◌, ◌^◌, ◌<◌, ◌≤◌, ◌⊎◌, inl, inr, Bool, true, false, cond, eqb, refl, sym, ap, ◌∙◌, subst, arith, List, [], ◌∷◌, ◌++◌, ◌==◌, length, get_or, map, take}
use Rattle.std.specs.List.{AllByRecursion as Each, flat_map}
use Rattle.std.proofs.lemmas.Bool.{ne_eqb}
use Rattle.std.proofs.lemmas.List.{ext_get_or, get_or-append-add, get_or-map, get_or_append_left, length-append, length-map}
use Rattle.std.proofs.lemmas.List.Concat.{get_or-flat_map}
use Rattle.std.proofs.lemmas.List.Elements.{recursion_from_All}
use Rattle.std.proofs.lemmas.Bool.Decides.{eqb_tells}
use Rattle.act_base.proofs.Times.{times_at, times_else}
use Rattle.act_image.proofs.FirstFacts.{row_here}
use Rattle.act_image.proofs.SameWords.{chain_same, list_same, node_same}
use Rattle.act_grid.specs.declared.Settings.{Settings}
use Rattle.act_grid.specs.Cell.{Address, root_cell}
use Rattle.act_base.specs.Counting.{times}
use Rattle.act_base.specs.Sight.{Sight}
use Rattle.act_cover.specs.Covering.{class_at, is_on, is_within}
use Rattle.act_super.specs.declared.entry.Entry.{Entry}
use Rattle.act_super.specs.declared.entry.State.{State}
use Rattle.act_super.specs.declared.entry.Zone.{Zone}
use Rattle.act_super.specs.declared.refs.ZoneRef.{ZoneRef}
use Rattle.act_super.specs.Nodes.{IsNode, node_children, node_leaves}
use Rattle.act_super.specs.Sizes.{chain_rows, refs_of}
use Rattle.act_super.specs.Stands.{HasChain, IsServed, Layout, refs_in}
use Rattle.act_probe.proofs.NodeFacts.{Among}
use Rattle.act_image.specs.declared.slots.Slot.{Slot}
use Rattle.act_image.specs.declared.slots.Slot.TheVariants as kind
use Rattle.act_image.specs.Slots.{kept_of, with_rows}
use Rattle.act_image.specs.Fresh.{branch_stays, is_changed}
use Rattle.act_image.specs.Kept.{chain_slots, kept_slots, list_slots, new_slots, node_slot, slots_of}
use Rattle.act_image.specs.Plans.{chain_first, lists_of}
use Rattle.act_image.specs.Pics.{HaveOwnKeys, IsWhole, Pic, Planned, Shows, firsts_in, installed, layout_in, part_of, planned_word, row_at, rows_in, with_numbers}
use Rattle.act_image.proofs.BindFacts.{AtNode, ChainRows, at_node, each_chain, many_spots, node_among, stands}
use Rattle.act_image.proofs.BranchFacts.{branch_parts}
use Rattle.act_image.proofs.Leaves.{each_among, each_mono}
use Rattle.act_image.proofs.PlaceFacts.{OwnKeys, at_among, own_keys, part_get, part_length, places_length, spots_length}
use Rattle.act_image.proofs.SizeFacts.{lists_count}
use Rattle.act_image.proofs.SlotFacts.{kept_row, kept_there, rows_length}
use Rattle.act_image.proofs.StayFacts.{list_rows_stay}
use Rattle.act_image.proofs.StepFacts.{children_nodes}

-- ---- places in lists of slots
pub new_length : (n : ℕ) → length (new_slots n) ≡ n
new_length zero = refl
new_length (suc n) = ap suc (new_length n)

middle_at : (a b c : List Slot) (k : ℕ) → k < length b → get_or (a ++ (b ++ c)) (length a + k) kind.New ≡ get_or b k kind.New
middle_at a b c k low = get_or-append-add a (b ++ c) k kind.New ∙ get_or_append_left b c kind.New k low

last_at : (a b c : List Slot) (k : ℕ) → get_or (a ++ (b ++ c)) (length a + (length b + k)) kind.New ≡ get_or c k kind.New
last_at a b c k = get_or-append-add a (b ++ c) (length b + k) kind.New ∙ get_or-append-add b c k kind.New

kept_at : (rows : List ℕ) (i : ℕ) → i < length rows → get_or (kept_slots rows) i kind.New ≡ kind.Kept (get_or rows i 0)
kept_at rows i low = get_or-map kind.Kept rows i 0 kind.New low

some_left : (a b : ℕ) → 0 < a + b → (0 < a) ⊎ (0 < b)
some_left a b h = grind arith

pub kept_append : (a b : List Slot) (r : ℕ) → times (kept_of (a ++ b)) r ≡ times (kept_of a) r + times (kept_of b) r
kept_append [] b r = omega arith
kept_append (kind.Kept k ∷ a) b r = omega (arith, kept_append a b r)
kept_append (kind.New ∷ a) b r = kept_append a b r

pub kept_all : (rows : List ℕ) → kept_of (kept_slots rows) ≡ rows
kept_all [] = refl
kept_all (r ∷ rows) = ap (λ v. r ∷ v) (kept_all rows)

pub new_none : (n : ℕ) → kept_of (new_slots n) ≡ []
new_none zero = refl
new_none (suc n) = new_none n

kept_within : (slots : List Slot) (k r : ℕ) → get_or slots k kind.New ≡ kind.Kept r → k < length slots
kept_within [] k r h = absurd (cc)
kept_within (s ∷ slots) zero r h = omega arith
kept_within (s ∷ slots) (suc k) r h = (let more = kept_within slots k r h in omega (arith, more))

-- the rows of slots that stay
rows_stay : (slots : List Slot) (rows : List ℕ) (first n : ℕ) (ks : List ℕ) → first + n ≤ length slots → length ks ≡ n → ((i : ℕ) → i < n → get_or slots (first + i) kind.New ≡ kind.Kept (get_or ks i 0))
    → part_of (with_rows slots rows) first n ≡ ks
rows_stay slots rows first n ks within long h =
    let size = part_length (with_rows slots rows) first n (omega (arith, within, rows_length slots rows)) in
    ext_get_or 0 (part_of (with_rows slots rows) first n) ks (omega (arith, size, long))
    (λ i low. (
    let small : i < n = omega (arith, low, size) in
    part_get (with_rows slots rows) first n i small ∙ kept_row slots rows (first + i) (get_or ks i 0) (h i small)))

flat_lengths : {X Y Z : Type 0} (f : X → List Y) (g : X → List Z) (xs : List X) (j : ℕ) → Each (λ x. length (f x) ≡ length (g x)) xs → length (flat_map f (take j xs)) ≡ length (flat_map g (take j xs))
flat_lengths f g [] zero h = refl
flat_lengths f g [] (suc j) h = refl
flat_lengths f g (x ∷ xs) zero h = refl
flat_lengths f g (x ∷ xs) (suc j) h = omega (arith, length-append (f x) (flat_map f (take j xs)), length-append (g x) (flat_map g (take j xs)), h.0, flat_lengths f g xs j h.1)

all_lengths : {X Y Z : Type 0} (f : X → List Y) (g : X → List Z) (xs : List X) → Each (λ x. length (f x) ≡ length (g x)) xs → length (flat_map f xs) ≡ length (flat_map g xs)
all_lengths f g [] h = refl
all_lengths f g (x ∷ xs) h = omega (arith, length-append (f x) (flat_map f xs), length-append (g x) (flat_map g xs), h.0, all_lengths f g xs h.1)

-- the slots of the chain of a zone
chains_slots : (f : Zone → List Slot) (zones : List Zone) → OwnKeys zones → Each (λ (zone : Zone). length (f zone) ≡ chain_rows zone.shape) zones
    → Each (λ (zone : Zone). (i : ℕ) → i < chain_rows zone.shape → get_or (flat_map f zones) (chain_first zones zone.key + i) kind.New ≡ get_or (f zone) i kind.New) zones
chains_slots f [] apart h = tt
chains_slots f (zone ∷ zones) apart h = (
  λ i low.
      let self : (zone.key == zone.key) ≡ true = Rattle.std.proofs.Common.eq-eqb zone.key zone.key refl in
      let none : chain_first (zone ∷ zones) zone.key + i ≡ i = ap (λ b. cond b 0 (chain_rows zone.shape + chain_first zones zone.key) + i) self ∙ omega arith in
      ap (λ k. get_or (flat_map f (zone ∷ zones)) k kind.New) none ∙ get_or_append_left (f zone) (flat_map f zones) kind.New i (omega (arith, low, h.0)),
  down zones apart.0 (chains_slots f zones apart.1 h.1),
)
  where
    down : (others : List Zone) → Each (λ (other : Zone). zone.key ≢ other.key) others
        → Each (λ (other : Zone). (i : ℕ) → i < chain_rows other.shape → get_or (flat_map f zones) (chain_first zones other.key + i) kind.New ≡ get_or (f other) i kind.New) others
        → Each (λ (other : Zone). (i : ℕ) → i < chain_rows other.shape → get_or (flat_map f (zone ∷ zones)) (chain_first (zone ∷ zones) other.key + i) kind.New ≡ get_or (f other) i kind.New) others
    down [] ne k = tt
    down (other ∷ others) ne k = (
      λ i low.
          let no : (zone.key == other.key) ≡ false = ne_eqb zone.key other.key ne.0 in
          let at : chain_first (zone ∷ zones) other.key + i ≡ length (f zone) + (chain_first zones other.key + i) =
          ap (λ b. cond b 0 (chain_rows zone.shape + chain_first zones other.key) + i) no ∙ omega (arith, h.0) in
          ap (λ m. get_or (flat_map f (zone ∷ zones)) m kind.New) at ∙ get_or-append-add (f zone) (flat_map f zones) (chain_first zones other.key + i) kind.New ∙ k.0 i low,
      down others ne.1 k.1,
    )

module _ (settings : Settings) (p : Pic) (q : Planned) (old new : State) (e : Entry) (cells : List Address) (w : IsWhole settings q new cells) (served : IsServed settings new) (keys : HaveOwnKeys new.zones)
    (slots : q.slots ≡ slots_of settings (layout_in p) old new e cells) (count : length q.slots ≡ length q.spots + length q.lists + length q.chain_rows)
    (rows : List ℕ) (once : (r : ℕ) → times (with_numbers q rows).all r ≤ 1) (low : (r : ℕ) → 0 < times (with_numbers q rows).all r → (0 < r) × (r < 2 ^ 24))
    (x : Sight) (shown : Shows settings p x old) (zones : Each (λ (zone : Zone). is_changed e zone.key ≡ false → HasChain x ((layout_in p).chain zone.key) zone) new.zones) where
  abbrev pub given : Planned
  given = with_numbers q rows

  abbrev pub before : Layout
  before = layout_in p

  abbrev pub later : Layout
  later = layout_in (installed p given)

  abbrev pub stays : Address → Bool
  stays = branch_stays settings old new e

  pub whole : IsWhole settings given new cells
  whole = record {
    same = w.same;
    are = w.are;
    queue = w.queue;
    nodes = w.nodes;
    under = w.under;
    list_rows = w.list_rows;
    spots = w.spots;
    lists = w.lists;
    chains = w.chains;
    bodies = w.bodies;
    chain_rows = w.chain_rows;
  }

  pub need : length given.all ≡ length given.spots + length given.lists + length given.chain_rows
  need = rows_length q.slots rows ∙ count

  node_of_cell : (c : Address) → Among cells c → IsNode settings new c
  node_of_cell c among = each_among (IsNode settings new) cells c w.are among

  pub there : (c : Address) → Among cells c → AtNode settings p given new cells whole served keys once low need refl c
  there c among = at_node settings p given new cells whole served keys once low need refl c among

  -- ---- how many rows
  old_lists : (c : Address) → Among cells c → stays c ≡ true → length (before.lists c) ≡ length (lists_of settings new c)
  old_lists c among stay =
      let node = node_of_cell c among in
      let st = (branch_parts settings old new e c node stay).0 in
      shown.by_rows.list_rows c st.was ∙ list_rows_stay settings old new c st.leaves st.refs ∙ sym (lists_count settings new served c node)

  list_length : (c : Address) → Among cells c → length (list_slots settings before old new e c) ≡ length (lists_of settings new c)
  list_length c among = by (stays c) refl
    where
      by : (b : Bool) → stays c ≡ b → length (cond b (kept_slots (before.lists c)) (new_slots (length (lists_of settings new c)))) ≡ length (lists_of settings new c)
      by true h = length-map (before.lists c) kind.Kept ∙ old_lists c among h
      by false h = new_length (length (lists_of settings new c))

  among_all : (cs : List Address) → ((c : Address) → Among cs c → Among cells c) → Each (λ c. length (list_slots settings before old new e c) ≡ length (lists_of settings new c)) cs
  among_all [] f = tt
  among_all (c ∷ cs) f = (list_length c (f c (inl refl)), among_all cs (λ d h. f d (inr h)))

  lists_long : length (flat_map (list_slots settings before old new e) cells) ≡ length q.lists
  lists_long =
      all_lengths (list_slots settings before old new e) (lists_of settings new) cells (among_all cells (λ c h. h)) ∙ sym (ap length w.lists)

  nodes_long : length (map (node_slot settings before old new e) cells) ≡ length q.spots
  nodes_long = length-map cells (node_slot settings before old new e) ∙ sym (many_spots settings p given new cells whole served keys once low need refl)

  -- ---- a node that stays
  node_at_slot : (c : Address) (among : Among cells c) → get_or q.slots (there c among).j kind.New ≡ node_slot settings before old new e c
  node_at_slot c among =
      let a = there c among in
      ap (λ v. get_or v a.j kind.New) slots
      ∙ get_or_append_left (map (node_slot settings before old new e) cells) (flat_map (list_slots settings before old new e) cells ++ flat_map (chain_slots settings before old new e) new.zones) kind.New a.j (omega (arith, a.within, length-map cells (node_slot settings before old new e)))
      ∙ get_or-map (node_slot settings before old new e) cells a.j root_cell kind.New a.within ∙ ap (node_slot settings before old new e) a.cell

  pub node_keeps : (c : Address) → Among cells c → stays c ≡ true → before.node c ≡ later.node c
  node_keeps c among stay =
      let a = there c among in
      let is : get_or q.slots a.j kind.New ≡ kind.Kept (before.node c) = node_at_slot c among ∙ ap (λ b. cond b (kind.Kept (before.node c)) kind.New) stay in
      sym (a.row ∙ kept_row q.slots rows a.j (before.node c) is)

  -- ---- its lists
  list_at_slot : (c : Address) (among : Among cells c) (i : ℕ) → i < length (lists_of settings new c)
      → get_or q.slots (length q.spots + length (flat_map (lists_of settings new) (take (there c among).j cells)) + i) kind.New ≡ get_or (list_slots settings before old new e c) i kind.New
  list_at_slot c among i within =
      let a = there c among in
      let f = list_slots settings before old new e in
      let base : length (flat_map f (take a.j cells)) ≡ length (flat_map (lists_of settings new) (take a.j cells)) = flat_lengths f (lists_of settings new) cells a.j (among_all cells (λ c h. h)) in
      let own : i < length (f (get_or cells a.j root_cell)) = omega (arith, within, list_length c among, ap (λ d. length (f d)) a.cell) in
      let inside = Rattle.act_image.proofs.PlaceFacts.flat_within f cells a.j root_cell a.within in
      let at : length q.spots + length (flat_map (lists_of settings new) (take a.j cells)) + i ≡ length (map (node_slot settings before old new e) cells) + (length (flat_map f (take a.j cells)) + i) = omega (arith, nodes_long, base) in
      (λ t. get_or (slots t) (at t) kind.New)
      ∙ middle_at (map (node_slot settings before old new e) cells) (flat_map f cells) (flat_map (chain_slots settings before old new e) new.zones) (length (flat_map f (take a.j cells)) + i) (omega (arith, own, inside))
      ∙ get_or-flat_map f cells a.j i root_cell kind.New a.within own ∙ ap (λ d. get_or (f d) i kind.New) a.cell

  pub lists_keep : (c : Address) → Among cells c → stays c ≡ true → before.lists c ≡ later.lists c
  lists_keep c among stay =
      let a = there c among in
      let f = lists_of settings new in
      let first = length q.spots + length (flat_map f (take a.j cells)) in
      let inside = Rattle.act_image.proofs.PlaceFacts.flat_within f cells a.j root_cell a.within in
      let own = ap (λ d. length (f d)) a.cell in
      sym (a.lists
      ∙ rows_stay q.slots rows first (length (f c)) (before.lists c) (omega (arith, count, inside, own, ap length w.lists)) (old_lists c among stay)
      (λ i within. list_at_slot c among i within ∙ ap (λ b. get_or (cond b (kept_slots (before.lists c)) (new_slots (length (f c)))) i kind.New) stay
      ∙ kept_at (before.lists c) i (omega (arith, within, old_lists c among stay))))

  -- ---- the chain of a zone that isn't changed
  chain_lengths : (zs : List Zone) → Each (λ (zone : Zone). is_changed e zone.key ≡ false → length (before.chain zone.key) ≡ chain_rows zone.shape) zs
      → Each (λ (zone : Zone). length (chain_slots settings before old new e zone) ≡ chain_rows zone.shape) zs
  chain_lengths [] h = tt
  chain_lengths (zone ∷ zs) h = (by (is_changed e zone.key) h.0, chain_lengths zs h.1)
    where
      by : (b : Bool) → (b ≡ false → length (before.chain zone.key) ≡ chain_rows zone.shape) → length (cond b (new_slots (chain_rows zone.shape)) (kept_slots (before.chain zone.key))) ≡ chain_rows zone.shape
      by true k = new_length (chain_rows zone.shape)
      by false k = length-map (before.chain zone.key) kind.Kept ∙ k refl

  abbrev pub ChainStays : Zone → Type 0
  ChainStays zone = is_changed e zone.key ≡ false → before.chain zone.key ≡ later.chain zone.key

  chain_keeps : (zone : Zone) → ChainRows settings p given new cells whole served keys once low need refl zone → (is_changed e zone.key ≡ false → length (before.chain zone.key) ≡ chain_rows zone.shape)
      → ((i : ℕ) → i < chain_rows zone.shape → get_or (flat_map (chain_slots settings before old new e) new.zones) (chain_first new.zones zone.key + i) kind.New ≡ get_or (chain_slots settings before old new e zone) i kind.New)
      → ChainStays zone
  chain_keeps zone c long at same =
      let first = length q.spots + length q.lists + chain_first new.zones zone.key in
      sym (c.rows
      ∙ rows_stay q.slots rows first (chain_rows zone.shape) (before.chain zone.key) (omega (arith, c.within, rows_length q.slots rows)) (long same)
      (λ i within. (
      let there_is : first + i ≡ length (map (node_slot settings before old new e) cells) + (length (flat_map (list_slots settings before old new e) cells) + (chain_first new.zones zone.key + i)) = omega (arith, nodes_long, lists_long) in
      (λ t. get_or (slots t) (there_is t) kind.New)
      ∙ last_at (map (node_slot settings before old new e) cells) (flat_map (list_slots settings before old new e) cells) (flat_map (chain_slots settings before old new e) new.zones) (chain_first new.zones zone.key + i)
      ∙ at i within ∙ ap (λ b. get_or (cond b (new_slots (chain_rows zone.shape)) (kept_slots (before.chain zone.key))) i kind.New) same
      ∙ kept_at (before.chain zone.key) i (omega (arith, within, long same)))))

  chains_long : Each (λ (zone : Zone). is_changed e zone.key ≡ false → length (before.chain zone.key) ≡ chain_rows zone.shape) new.zones
  chains_long =
      each_mono (λ (zone : Zone). is_changed e zone.key ≡ false → HasChain x (before.chain zone.key) zone) (λ (zone : Zone). is_changed e zone.key ≡ false → length (before.chain zone.key) ≡ chain_rows zone.shape) new.zones
      (λ zone h k. (h k).size) zones

  pub chains_keep : Each ChainStays new.zones
  chains_keep =
      each_three new.zones (each_chain settings p given new cells whole served keys once low need refl) chains_long
      (chains_slots (chain_slots settings before old new e) new.zones (own_keys new.zones keys) (chain_lengths new.zones chains_long))
    where
      each_three : (zs : List Zone) → Each (ChainRows settings p given new cells whole served keys once low need refl) zs
          → Each (λ (zone : Zone). is_changed e zone.key ≡ false → length (before.chain zone.key) ≡ chain_rows zone.shape) zs
          → Each (λ (zone : Zone). (i : ℕ) → i < chain_rows zone.shape
          → get_or (flat_map (chain_slots settings before old new e) new.zones) (chain_first new.zones zone.key + i) kind.New ≡ get_or (chain_slots settings before old new e zone) i kind.New) zs
          → Each ChainStays zs
      each_three [] a b c = tt
      each_three (zone ∷ zs) a b c = (chain_keeps zone a.0 b.0 c.0, each_three zs a.1 b.1 c.1)

  -- ---- references
  refs_keep : (leaf : Address) (zs : List Zone) → Each ChainStays zs → Each (λ (r : ZoneRef). is_changed e r.key ≡ false) (refs_of zs leaf) → refs_in before (refs_of zs leaf) ≡ refs_in later (refs_of zs leaf)
  refs_keep leaf [] h free = refl
  refs_keep leaf (zone ∷ zs) h free = by (is_on (class_at zone.shape leaf)) (λ k. refs_keep leaf zs h.1 k) free
    where
      by : (b : Bool) → (Each (λ (r : ZoneRef). is_changed e r.key ≡ false) (refs_of zs leaf) → refs_in before (refs_of zs leaf) ≡ refs_in later (refs_of zs leaf))
          → Each (λ (r : ZoneRef). is_changed e r.key ≡ false) (map (λ (z : Zone). record { key = z.key; hit = is_within (class_at z.shape leaf) }) (cond b (zone ∷ Rattle.std.specs.List.filter (λ (z : Zone). is_on (class_at z.shape leaf)) zs) (Rattle.std.specs.List.filter (λ (z : Zone). is_on (class_at z.shape leaf)) zs)))
          → refs_in before (map (λ (z : Zone). record { key = z.key; hit = is_within (class_at z.shape leaf) }) (cond b (zone ∷ Rattle.std.specs.List.filter (λ (z : Zone). is_on (class_at z.shape leaf)) zs) (Rattle.std.specs.List.filter (λ (z : Zone). is_on (class_at z.shape leaf)) zs)))
          ≡ refs_in later (map (λ (z : Zone). record { key = z.key; hit = is_within (class_at z.shape leaf) }) (cond b (zone ∷ Rattle.std.specs.List.filter (λ (z : Zone). is_on (class_at z.shape leaf)) zs) (Rattle.std.specs.List.filter (λ (z : Zone). is_on (class_at z.shape leaf)) zs)))
      by true more k = λ i. record { row = get_or (h.0 k.0 i) 0 0; hit = is_within (class_at zone.shape leaf) } ∷ more k.1 i
      by false more k = more k

  leaves_keep : (leaves : List Address) → Each (λ leaf. Each (λ (r : ZoneRef). is_changed e r.key ≡ false) (refs_of new.zones leaf)) leaves
      → Each (λ leaf. refs_in before (refs_of new.zones leaf) ≡ refs_in later (refs_of new.zones leaf)) leaves
  leaves_keep [] h = tt
  leaves_keep (leaf ∷ leaves) h = (refs_keep leaf new.zones chains_keep h.0, leaves_keep leaves h.1)

  -- ---- the words of the rows that stay
  abbrev node_part : List Slot
  node_part = map (node_slot settings before old new e) cells

  abbrev list_part : List Slot
  list_part = flat_map (list_slots settings before old new e) cells

  abbrev chain_part : List Slot
  chain_part = flat_map (chain_slots settings before old new e) new.zones

  module _ (y : Sight) (is : Shows settings (installed p given) y new) where
    node_words : (c : Address) → Among cells c → stays c ≡ true → (place : ℕ) → place < 256 → x.word (before.node c) place ≡ y.word (before.node c) place
    node_words c among stay place small =
        let node = node_of_cell c among in
        let b = branch_parts settings old new e c node stay in
        node_same settings p (installed p given) x y old new e shown is c node b.0 (leaves_keep (node_leaves settings new c) b.0.free) (lists_keep c among stay)
        (λ d child. node_keeps d (node_among settings p given new cells whole served keys once low need refl d (each_among (IsNode settings new) (node_children settings new c) d (children_nodes settings new c node) child))
        (each_among (λ d. stays d ≡ true) (node_children settings new c) d b.1 child))
        (node_keeps c among stay) place small

    list_words : (c : Address) → Among cells c → stays c ≡ true → (r place : ℕ) → 0 < times (before.lists c) r → place < 256 → x.word r place ≡ y.word r place
    list_words c among stay r place some small =
        let node = node_of_cell c among in
        let st = (branch_parts settings old new e c node stay).0 in
        let t = times_at (before.lists c) r some in
        let same = list_same settings p (installed p given) x y old new e shown is c node st (leaves_keep (node_leaves settings new c) st.free) (lists_keep c among stay) t.0 place t.1 small in
        subst (λ v. x.word v place ≡ y.word v place) (t.2 0) same

    node_case : (cs : List Address) → ((c : Address) → Among cs c → Among cells c) → (r place : ℕ) → place < 256 → 0 < times (kept_of (map (node_slot settings before old new e) cs)) r → x.word r place ≡ y.word r place
    node_case [] f r place small some = absurd (omega (arith, some))
    node_case (c ∷ cs) f r place small some = by (stays c) refl (λ more. node_case cs (λ d h. f d (inr h)) r place small more) some
      where
        one : stays c ≡ true → ((eqb (before.node c) r ≡ true) × (before.node c ≡ r)) ⊎ ((eqb (before.node c) r ≡ false) × (before.node c ≢ r))
            → (0 < times (kept_of (map (node_slot settings before old new e) cs)) r → x.word r place ≡ y.word r place)
            → 0 < times (before.node c ∷ kept_of (map (node_slot settings before old new e) cs)) r → x.word r place ≡ y.word r place
        one h (inl same) more some = subst (λ v. x.word v place ≡ y.word v place) same.1 (node_words c (f c (inl refl)) h place small)
        one h (inr other) more some = more (omega (arith, some, times_else (before.node c) r (kept_of (map (node_slot settings before old new e) cs)) other.1))

        by : (b : Bool) → stays c ≡ b → (0 < times (kept_of (map (node_slot settings before old new e) cs)) r → x.word r place ≡ y.word r place)
            → 0 < times (kept_of (cond b (kind.Kept (before.node c)) kind.New ∷ map (node_slot settings before old new e) cs)) r → x.word r place ≡ y.word r place
        by true h more some = one h (eqb_tells (before.node c) r) more some
        by false h more some = more some

    list_case : (cs : List Address) → ((c : Address) → Among cs c → Among cells c) → (r place : ℕ) → place < 256 → 0 < times (kept_of (flat_map (list_slots settings before old new e) cs)) r → x.word r place ≡ y.word r place
    list_case [] f r place small some = absurd (omega (arith, some))
    list_case (c ∷ cs) f r place small some =
        which (some_left _ _ (omega (arith, some, kept_append (list_slots settings before old new e c) (flat_map (list_slots settings before old new e) cs) r)))
        (λ more. list_case cs (λ d h. f d (inr h)) r place small more)
      where
        by : (b : Bool) → stays c ≡ b → 0 < times (kept_of (cond b (kept_slots (before.lists c)) (new_slots (length (lists_of settings new c))))) r → x.word r place ≡ y.word r place
        by true h some = list_words c (f c (inl refl)) h r place (omega (arith, some, ap (λ v. times v r) (kept_all (before.lists c)))) small
        by false h some = absurd (omega (arith, some, ap (λ v. times v r) (new_none (length (lists_of settings new c)))))

        which : (0 < times (kept_of (list_slots settings before old new e c)) r) ⊎ (0 < times (kept_of (flat_map (list_slots settings before old new e) cs)) r)
            → (0 < times (kept_of (flat_map (list_slots settings before old new e) cs)) r → x.word r place ≡ y.word r place) → x.word r place ≡ y.word r place
        which (inl here) more = by (stays c) refl here
        which (inr rest) more = more rest

    chain_case : (zs : List Zone) → Each ChainStays zs → Each (λ (zone : Zone). is_changed e zone.key ≡ false → HasChain x (before.chain zone.key) zone) zs → Each (λ (zone : Zone). HasChain y (later.chain zone.key) zone) zs
        → (r place : ℕ) → place < 256 → 0 < times (kept_of (flat_map (chain_slots settings before old new e) zs)) r → x.word r place ≡ y.word r place
    chain_case [] a b c r place small some = absurd (omega (arith, some))
    chain_case (zone ∷ zs) a b c r place small some =
        which (some_left _ _ (omega (arith, some, kept_append (chain_slots settings before old new e zone) (flat_map (chain_slots settings before old new e) zs) r)))
        (λ more. chain_case zs a.1 b.1 c.1 r place small more)
      where
        by : (k : Bool) → is_changed e zone.key ≡ k → 0 < times (kept_of (cond k (new_slots (chain_rows zone.shape)) (kept_slots (before.chain zone.key)))) r → x.word r place ≡ y.word r place
        by true h some = absurd (omega (arith, some, ap (λ v. times v r) (new_none (chain_rows zone.shape))))
        by false h some =
            let t = times_at (before.chain zone.key) r (omega (arith, some, ap (λ v. times v r) (kept_all (before.chain zone.key)))) in
            let own = subst (λ v. HasChain y v zone) (sym (a.0 h)) c.0 in
            subst (λ v. x.word v place ≡ y.word v place) (t.2 0) (chain_same x y (before.chain zone.key) zone (b.0 h) own t.0 place t.1 small)

        which : (0 < times (kept_of (chain_slots settings before old new e zone)) r) ⊎ (0 < times (kept_of (flat_map (chain_slots settings before old new e) zs)) r)
            → (0 < times (kept_of (flat_map (chain_slots settings before old new e) zs)) r → x.word r place ≡ y.word r place) → x.word r place ≡ y.word r place
        which (inl here) more = by (is_changed e zone.key) refl here
        which (inr rest) more = more rest

    kept_words : (r place : ℕ) → place < 256 → 0 < times (kept_of q.slots) r → x.word r place ≡ y.word r place
    kept_words r place small some = nodes_or (some_left _ _ (omega (arith, some, split)))
      where
        split : times (kept_of q.slots) r ≡ times (kept_of node_part) r + times (kept_of (list_part ++ chain_part)) r
        split = ap (λ v. times (kept_of v) r) slots ∙ kept_append node_part (list_part ++ chain_part) r

        lists_or : (0 < times (kept_of list_part) r) ⊎ (0 < times (kept_of chain_part) r) → x.word r place ≡ y.word r place
        lists_or (inl here) = list_case cells (λ c h. h) r place small here
        lists_or (inr here) = chain_case new.zones chains_keep zones (recursion_from_All (λ (zone : Zone). HasChain y (later.chain zone.key) zone) new.zones is.by_rows.chains) r place small here

        nodes_or : (0 < times (kept_of node_part) r) ⊎ (0 < times (kept_of (list_part ++ chain_part)) r) → x.word r place ≡ y.word r place
        nodes_or (inl here) = node_case cells (λ c h. h) r place small here
        nodes_or (inr rest) = lists_or (some_left _ _ (omega (arith, rest, kept_append list_part chain_part r)))

  -- the image of the words as they are planned
  abbrev planned : Sight
  planned = record { rows = rows_in (installed p given); firsts = firsts_in (installed p given); word = λ row place. planned_word given (row_at given.all row) place }

  given_shows : Shows settings (installed p given) planned new
  unfolding installed
  given_shows =
      stands settings p given new cells whole served keys once low need refl planned refl refl
      (λ i place within small. ap (λ k. planned_word given k place) (row_here given.all i (get_or given.all i 0) within refl (once (get_or given.all i 0))))

  -- a row that stays has in the old image the word that the plan has for it
  pub keeps : (k r place : ℕ) → get_or q.slots k kind.New ≡ kind.Kept r → place < 256 → x.word r place ≡ planned_word given k place
  keeps k r place at small =
      let within : k < length given.all = omega (arith, kept_within q.slots k r at, rows_length q.slots rows) in
      kept_words planned given_shows r place small (kept_there q.slots k r at)
      ∙ ap (λ j. planned_word given j place) (row_here given.all k r within (kept_row q.slots rows k r at) (once r))
