-- A plan that keeps what stays, holds the words of its new rows, and has as many of them as the change asks for.
use Rattle.std.proofs.Common.{◌≡◌, ℕ, zero, suc, ◌+◌, ◌^◌, ◌<◌, ◌≤◌, Bool, true, false, cond, refl, sym, ap, ◌∙◌, subst, arith, List, [], ◌∷◌, ◌++◌, Option, Some, None, length, get_or, map}
use Rattle.std.specs.List.{AllByRecursion as Each, flat_map, sum_by}
use Rattle.std.proofs.lemmas.List.{length-append, length-map}
use Rattle.std.proofs.lemmas.List.Elements.{recursion_from_All}
use Rattle.std.proofs.lemmas.List.Sums.{sum_by-cons}
use Rattle.act_base.specs.Counting.{from, times}
use Rattle.act_base.specs.Sight.{Sight}
use Rattle.act_base.proofs.Times.{times-append}
use Rattle.act_geom.specs.Body.{body_of}
use Rattle.act_grid.specs.declared.Point.{Point}
use Rattle.act_grid.specs.declared.Settings.{Settings}
use Rattle.act_grid.specs.Cell.{Address, root_cell}
use Rattle.act_super.specs.declared.entry.Entry.{Entry}
use Rattle.act_super.specs.declared.entry.State.{State}
use Rattle.act_super.specs.declared.entry.Zone.{Zone}
use Rattle.act_super.specs.Nodes.{IsNode, list_rows, nodes_of}
use Rattle.act_super.specs.Sizes.{chain_rows, size_of}
use Rattle.act_super.specs.Stands.{HasChain, IsServed}
use Rattle.act_super.specs.States.{after, shape_of}
use Rattle.act_image.specs.declared.chains.ChainPlace.{ChainPlace}
use Rattle.act_image.specs.declared.kept.KeptChains.{KeptChains}
use Rattle.act_image.specs.declared.nodes.NodePlace.{NodePlace}
use Rattle.act_image.specs.declared.path.Path.{Path}
use Rattle.act_image.specs.declared.slots.Slot.{Slot}
use Rattle.act_image.specs.Fresh.{branch_stays, fresh_rows, is_changed}
use Rattle.act_image.specs.Gone.{gone_chain, gone_node}
use Rattle.act_image.specs.Kept.{IsKeptChains, IsOldChains, kept_slots, list_slots, new_slots, node_slot, of_first_body, old_chain, own_rows, slots_of, zone_slots}
use Rattle.act_image.specs.Paths.{IsPath, is_kept}
use Rattle.act_image.specs.Plans.{bodies_of, chain_rows_from, chains_from, lists_of, spots_from}
use Rattle.act_image.specs.Slots.{kept_of, new_places}
use Rattle.act_image.specs.Made.{IsKeptMade}
use Rattle.act_image.specs.Words.{no_chain, no_row}
use Rattle.act_image.specs.Pics.{HaveOwnKeys, IsPlan, IsWhole, IsWholePlan, Pic, Planned, Shows, layout_in, no_node, rows_in}
use Rattle.act_image.proofs.BranchFacts.{branch_parts}
use Rattle.act_image.proofs.BuildFacts.{chains_length}
use Rattle.act_image.proofs.ChainFacts.{each_found, old_place}
use Rattle.act_image.proofs.GoneFacts.{gone_zones, kept_changed, kept_nodes, node_balance, same_length, zone_parts}
use Rattle.act_image.proofs.KeepFacts.{kept_append, new_length}
use Rattle.act_image.proofs.PathFacts.{left_over, path_plan}
use Rattle.act_image.proofs.PickFacts.{HasBody, lists_picked, new_append, own_bodies, pick, picked_words, rows_picked, spots_picked}
use Rattle.act_image.proofs.PlaceFacts.{flat_within, own_keys, place_at, places_length, spots_length}
use Rattle.act_image.proofs.SameWords.{made_keys}
use Rattle.act_image.proofs.SizeFacts.{chain_count, lists_count, whole_sized}
use Rattle.act_image.proofs.SlotFacts.{all_slots}
use Rattle.act_image.proofs.StayFacts.{list_rows_stay}
use Rattle.act_image.proofs.StepFacts.{each_get}

-- ---- how many rows are new
places_long : (k j : ℕ) (slots : List Slot) → length (new_places k slots) ≡ length (new_places j slots)
places_long k j slots = omega (arith, all_slots k slots, all_slots j slots)

more_new : (a b : List Slot) → length (new_places 0 (a ++ b)) ≡ length (new_places 0 a) + length (new_places 0 b)
more_new a b = ap length (new_append 0 a b) ∙ length-append (new_places 0 a) (new_places (0 + length a) b) ∙ ap (λ n. length (new_places 0 a) + n) (places_long (0 + length a) 0 b)

none_new : (rows : List ℕ) → length (new_places 0 (kept_slots rows)) ≡ 0
none_new [] = refl
none_new (r ∷ rows) = places_long 1 0 (kept_slots rows) ∙ none_new rows

all_are_new : (n : ℕ) → length (new_places 0 (new_slots n)) ≡ n
all_are_new zero = refl
all_are_new (suc n) = ap suc (places_long 1 0 (new_slots n) ∙ all_are_new n)

module _ (settings : Settings) (p : Pic) (x : Sight) (old : State) (e : Entry) (shown : Shows settings p x old) (served : IsServed settings (after settings old e)) (keys : HaveOwnKeys (after settings old e).zones) where
  abbrev new : State
  new = after settings old e

  abbrev chain : ℕ → List ℕ
  chain = old_chain p.chains p.rows (length p.nodes + p.lists)

  -- ---- how many slots nodes and zones have
  list_long : (c : Address) → IsNode settings new c → length (list_slots settings (layout_in p) old new e c) ≡ length (lists_of settings new c)
  list_long c node = by (branch_stays settings old new e c) refl
    where
      by : (b : Bool) → branch_stays settings old new e c ≡ b → length (cond b (kept_slots ((layout_in p).lists c)) (new_slots (length (lists_of settings new c)))) ≡ length (lists_of settings new c)
      by true h =
          let st = (branch_parts settings old new e c node h).0 in
          length-map ((layout_in p).lists c) _ ∙ shown.by_rows.list_rows c st.was ∙ list_rows_stay settings old new c st.leaves st.refs ∙ sym (lists_count settings new served c node)
      by false h = new_length (length (lists_of settings new c))

  lists_long : (cells : List Address) → Each (IsNode settings new) cells → Each (λ c. length (list_slots settings (layout_in p) old new e c) ≡ length (lists_of settings new c)) cells
  lists_long [] h = tt
  lists_long (c ∷ cells) h = (list_long c h.0, lists_long cells h.1)

  old_chains : Each (λ (zone : Zone). is_changed e zone.key ≡ false → HasChain x ((layout_in p).chain zone.key) zone) new.zones
  old_chains = left_over (λ (zone : Zone). HasChain x ((layout_in p).chain zone.key) zone) e old.zones (recursion_from_All (λ (zone : Zone). HasChain x ((layout_in p).chain zone.key) zone) old.zones shown.by_rows.chains)

  zone_long : (zones : List Zone) → Each (λ (zone : Zone). is_changed e zone.key ≡ false → HasChain x ((layout_in p).chain zone.key) zone) zones
      → Each (λ (zone : Zone). length (zone_slots (old_chain p.chains p.rows (length p.nodes + p.lists)) e zone) ≡ chain_rows zone.shape) zones
  unfolding layout_in
  zone_long [] h = tt
  zone_long (zone ∷ zones) h = (by (is_changed e zone.key) h.0, zone_long zones h.1)
    where
      by : (b : Bool) → (b ≡ false → HasChain x ((layout_in p).chain zone.key) zone) → length (cond b (new_slots (chain_rows zone.shape)) (kept_slots (old_chain p.chains p.rows (length p.nodes + p.lists) zone.key))) ≡ chain_rows zone.shape
      by true k = new_length (chain_rows zone.shape)
      by false k = length-map (old_chain p.chains p.rows (length p.nodes + p.lists) zone.key) _ ∙ (k refl).size

  same_rows : {X Y Z : Type 0} (f : X → List Y) (g : X → List Z) (xs : List X) → Each (λ y. length (f y) ≡ length (g y)) xs → length (flat_map f xs) ≡ length (flat_map g xs)
  same_rows f g [] h = refl
  same_rows f g (y ∷ xs) h = omega (arith, length-append (f y) (flat_map f xs), length-append (g y) (flat_map g xs), h.0, same_rows f g xs h.1)

  zones_long : (zones : List Zone) → Each (λ (zone : Zone). length (zone_slots (old_chain p.chains p.rows (length p.nodes + p.lists)) e zone) ≡ chain_rows zone.shape) zones
      → length (flat_map (zone_slots (old_chain p.chains p.rows (length p.nodes + p.lists)) e) zones) ≡ length (chain_rows_from 0 zones)
  zones_long zones h = all zones h ∙ sym (chain_count zones 0)
    where
      all : (zones : List Zone) → Each (λ (zone : Zone). length (zone_slots (old_chain p.chains p.rows (length p.nodes + p.lists)) e zone) ≡ chain_rows zone.shape) zones
          → length (flat_map (zone_slots (old_chain p.chains p.rows (length p.nodes + p.lists)) e) zones) ≡ Rattle.act_super.specs.Sizes.chains_of zones
      all [] h = refl
      all (zone ∷ zones) h =
          omega (
            arith,
            length-append (zone_slots (old_chain p.chains p.rows (length p.nodes + p.lists)) e zone) (flat_map (zone_slots (old_chain p.chains p.rows (length p.nodes + p.lists)) e) zones),
            h.0,
            all zones h.1,
            sum_by-cons (λ (z : Zone). chain_rows z.shape) zone zones,
          )

  -- ---- how many of them are new
  new_nodes : (cells : List Address) → Each (IsNode settings new) cells
      → length (new_places 0 (map (node_slot settings (layout_in p) old new e) cells)) + length (new_places 0 (flat_map (list_slots settings (layout_in p) old new e) cells))
      ≡ sum_by (λ c. cond (branch_stays settings old new e c) 0 (1 + list_rows settings new c)) cells
  new_nodes [] h = refl
  new_nodes (c ∷ cells) h =
      omega (
        arith,
        more_new (node_slot settings (layout_in p) old new e c ∷ []) (map (node_slot settings (layout_in p) old new e) cells),
        more_new (list_slots settings (layout_in p) old new e c) (flat_map (list_slots settings (layout_in p) old new e) cells),
        by (branch_stays settings old new e c),
        sum_by-cons (λ c. cond (branch_stays settings old new e c) 0 (1 + list_rows settings new c)) c cells,
        new_nodes cells h.1,
      )
    where
      by : (b : Bool)
          → length (new_places 0 (cond b (Rattle.act_image.specs.declared.slots.Slot.TheVariants.Kept ((layout_in p).node c)) Rattle.act_image.specs.declared.slots.Slot.TheVariants.New ∷ []))
          + length (new_places 0 (cond b (kept_slots ((layout_in p).lists c)) (new_slots (length (lists_of settings new c)))))
          ≡ cond b 0 (1 + list_rows settings new c)
      by true = (let none = none_new ((layout_in p).lists c) in omega (arith, none))
      by false = (let many = all_are_new (length (lists_of settings new c)) in let count = lists_count settings new served c h.0 in omega (arith, many, count))

  new_chains : (zones : List Zone) → length (new_places 0 (flat_map (zone_slots (old_chain p.chains p.rows (length p.nodes + p.lists)) e) zones)) ≡ sum_by (λ (zone : Zone). cond (is_changed e zone.key) (chain_rows zone.shape) 0) zones
  new_chains [] = refl
  new_chains (zone ∷ zones) =
      omega (
        arith,
        more_new (zone_slots (old_chain p.chains p.rows (length p.nodes + p.lists)) e zone) (flat_map (zone_slots (old_chain p.chains p.rows (length p.nodes + p.lists)) e) zones),
        by (is_changed e zone.key),
        sum_by-cons (λ (zone : Zone). cond (is_changed e zone.key) (chain_rows zone.shape) 0) zone zones,
        new_chains zones,
      )
    where
      by : (b : Bool) → length (new_places 0 (cond b (new_slots (chain_rows zone.shape)) (kept_slots (old_chain p.chains p.rows (length p.nodes + p.lists) zone.key)))) ≡ cond b (chain_rows zone.shape) 0
      by true = all_are_new (chain_rows zone.shape)
      by false = none_new (old_chain p.chains p.rows (length p.nodes + p.lists) zone.key)

  module _ (c : Path) (walk : IsPath settings old new e p.nodes p.rows c) (shape : List (List Point)) (k : KeptChains) (kept : IsKeptChains (old_chain p.chains p.rows (length p.nodes + p.lists)) e shape new.zones k)
      (q : Planned) (nodes : q.nodes ≡ c.places.items) (under : q.under ≡ c.under.items) (many : q.list_rows ≡ length c.list_slots.items) (spots : q.spots ≡ c.spots.items) (lists : q.lists ≡ c.lists.items) (chains : q.chains ≡ k.places.items)
      (rows : q.chain_rows ≡ k.rows.items) (bodies : 0 < length k.rows.items → get_or q.bodies 0 [] ≡ body_of shape) (slots : q.slots ≡ c.node_slots.items ++ (c.list_slots.items ++ k.slots.items)) (need : q.need ≡ length (new_places 0 q.slots))
      (gone : q.gone ≡ flat_map (gone_node p.nodes c.stays.items p.rows) (from 0 (length p.nodes)) ++ flat_map (gone_chain e p.rows (length p.nodes + p.lists)) p.chains) where
    abbrev cells : List Address
    cells = c.cells.items

    abbrev node_part : List Slot
    node_part = map (node_slot settings (layout_in p) old new e) c.cells.items

    abbrev list_part : List Slot
    list_part = flat_map (list_slots settings (layout_in p) old new e) c.cells.items

    abbrev chain_part : List Slot
    chain_part = flat_map (zone_slots (old_chain p.chains p.rows (length p.nodes + p.lists)) e) new.zones

    abbrev all_of : Planned
    all_of = record q { spots = spots_from settings new 0 1 c.cells.items; lists = flat_map (lists_of settings new) c.cells.items; bodies = bodies_of new.zones; chain_rows = chain_rows_from 0 new.zones }

    node_slots_are : c.node_slots.items ≡ node_part
    unfolding layout_in
    node_slots_are = walk.node_slots

    list_slots_are : c.list_slots.items ≡ list_part
    unfolding layout_in
    list_slots_are = walk.list_slots

    slots_are : q.slots ≡ node_part ++ (list_part ++ chain_part)
    slots_are = slots ∙ (λ i. node_slots_are i ++ (list_slots_are i ++ kept.slots i))

    slots_all : q.slots ≡ slots_of settings (layout_in p) old new e c.cells.items
    unfolding layout_in
    slots_all = slots ∙ (λ i. walk.node_slots i ++ (walk.list_slots i ++ kept.slots i))

    long_a : length node_part ≡ length (spots_from settings new 0 1 c.cells.items)
    long_a = length-map c.cells.items (node_slot settings (layout_in p) old new e) ∙ sym (spots_length settings new 0 1 c.cells.items)

    long_b : length list_part ≡ length (flat_map (lists_of settings new) c.cells.items)
    long_b = same_rows (list_slots settings (layout_in p) old new e) (lists_of settings new) c.cells.items (lists_long c.cells.items walk.are)

    each_zone : Each (λ (zone : Zone). length (zone_slots (old_chain p.chains p.rows (length p.nodes + p.lists)) e zone) ≡ chain_rows zone.shape) new.zones
    each_zone = zone_long new.zones old_chains

    long_d : length chain_part ≡ length (chain_rows_from 0 new.zones)
    long_d = zones_long new.zones each_zone

    whole : IsWhole settings all_of new c.cells.items
    whole = record {
      same = walk.same;
      are = walk.are;
      queue = walk.queue;
      nodes = nodes ∙ walk.places;
      under = under ∙ walk.under;
      list_rows = many ∙ ap length list_slots_are ∙ long_b;
      spots = refl;
      lists = refl;
      chains = chains ∙ kept.places;
      bodies = refl;
      chain_rows = refl;
    }

    count : length q.slots ≡ length (spots_from settings new 0 1 c.cells.items) + length (flat_map (lists_of settings new) c.cells.items) + length (chain_rows_from 0 new.zones)
    count = omega (arith, ap length slots_are, length-append node_part (list_part ++ chain_part), length-append list_part chain_part, long_a, long_b, long_d)

    -- ---- the rows that stay and those that go
    kept_chains : (r : ℕ) → times (kept_of chain_part) r + times (flat_map (gone_chain e p.rows (length p.nodes + p.lists)) p.chains) r ≡ times (flat_map (λ (zone : Zone). (layout_in p).chain zone.key) old.zones) r
    unfolding layout_in
    kept_chains r =
        let places = shown.copy.chains in
        let found = subst (λ v. Each (λ (place : Rattle.act_image.specs.declared.chains.ChainPlace.ChainPlace). Rattle.act_image.specs.Pics.chain_of v place.key ≡ place) (chains_from 0 old.zones)) (sym places) (each_found 0 old.zones (own_keys old.zones (made_keys settings p x old shown))) in
        let left = ap (λ v. times (flat_map (gone_chain e p.rows (length p.nodes + p.lists)) v) r) places ∙ ap (λ v. times v r) (gone_zones e p.rows (length p.nodes + p.lists) 0 p.chains old.zones found) in
        omega (arith, left, kept_changed (old_chain p.chains p.rows (length p.nodes + p.lists)) e r old.zones, zone_parts (old_chain p.chains p.rows (length p.nodes + p.lists)) e r old.zones)

    balance : (r : ℕ) → times (kept_of q.slots) r + times q.gone r ≡ times (rows_in p) r
    balance r =
        let split = ap (λ v. times (kept_of v) r) slots_are ∙ kept_append node_part (list_part ++ chain_part) r in
        let lists_split = kept_append list_part chain_part r in
        let left = ap (λ v. times v r) gone ∙ times-append (flat_map (gone_node p.nodes c.stays.items p.rows) (from 0 (length p.nodes))) (flat_map (gone_chain e p.rows (length p.nodes + p.lists)) p.chains) r in
        let nodes_stay = kept_nodes settings (layout_in p) old new e r c.cells.items in
        let moved = walk.balance (λ c. times ((layout_in p).node c ∷ (layout_in p).lists c) r) in
        let nodes_all = node_balance settings p x old shown (is_kept settings old new e) c.stays.items walk.stays_are r in
        let all = ap (λ v. times v r) (sym shown.rows) ∙ shown.by_rows.rows r
        ∙ times-append (flat_map (λ c. (layout_in p).node c ∷ (layout_in p).lists c) (nodes_of settings old)) (flat_map (λ (zone : Zone). (layout_in p).chain zone.key) old.zones) r in
        let flat = Rattle.act_image.proofs.GoneFacts.flat_times (λ c. (layout_in p).node c ∷ (layout_in p).lists c) (nodes_of settings old) r in
        omega (arith, split, lists_split, left, nodes_stay, moved, nodes_all, all, flat, kept_chains r)

    low : (r : ℕ) → 0 < times (rows_in p) r → (0 < r) × (r < 2 ^ 24)
    low r some = shown.by_rows.low r (subst (λ v. 0 < times v r) (sym shown.rows) some)

    counted : length (kept_of q.slots) + length q.gone ≡ length (rows_in p)
    counted = sym (length-append (kept_of q.slots) q.gone) ∙ same_length (kept_of q.slots ++ q.gone) (rows_in p) (λ r. times-append (kept_of q.slots) q.gone r ∙ balance r)

    -- ---- the words
    chain_rows_are : q.chain_rows ≡ map of_first_body (pick chain_part (chain_rows_from 0 new.zones))
    chain_rows_are = rows ∙ kept.rows ∙ ap (map of_first_body) (rows_picked (old_chain p.chains p.rows (length p.nodes + p.lists)) e 0 new.zones each_zone)

    own_body : (i : ℕ) → i < length (pick chain_part (chain_rows_from 0 new.zones)) → get_or q.bodies 0 [] ≡ get_or (bodies_of new.zones) (get_or (pick chain_part (chain_rows_from 0 new.zones)) i no_row).body []
    own_body i small =
        let same = rows_picked (old_chain p.chains p.rows (length p.nodes + p.lists)) e 0 new.zones each_zone in
        let each = subst (Each (HasBody e shape 0 (bodies_of new.zones))) same (own_bodies e shape 0 new.zones kept.shapes) in
        let b = each_get (HasBody e shape 0 (bodies_of new.zones)) (pick chain_part (chain_rows_from 0 new.zones)) i no_row each small in
        let some : 0 < length k.rows.items = omega (arith, small, ap length (sym rows ∙ chain_rows_are), length-map (pick chain_part (chain_rows_from 0 new.zones)) of_first_body) in
        let at : (get_or (pick chain_part (chain_rows_from 0 new.zones)) i no_row).body ≡ b.at = omega (arith, b.is) in
        bodies some ∙ sym b.body ∙ ap (λ m. get_or (bodies_of new.zones) m []) (sym at)

    leads : IsWholePlan settings p all_of old new
    leads = path_plan settings p all_of old e c.cells.items whole served keys slots_all count need low balance counted

    path : IsPlan settings p q old new
    path = record {
      whole = all_of;
      leads = leads;
      trimmed = record {
        need = refl;
        nodes = refl;
        under = refl;
        list_rows = refl;
        chains = refl;
        slots = refl;
        gone = refl;
        words = λ given i place long small_i small.
            picked_words q all_of node_part list_part chain_part refl refl refl refl slots_are (spots ∙ walk.spots ∙ spots_picked settings (layout_in p) old new e c.cells.items 0 1)
            (lists ∙ walk.lists ∙ lists_picked settings (layout_in p) old new e c.cells.items (lists_long c.cells.items walk.are)) chain_rows_are long_a long_b long_d own_body given i place (omega (arith, small_i, need));
      };
    }

    few : q.need ≤ fresh_rows settings old e
    unfolding fresh_rows
    few =
        let split = need ∙ ap (λ v. length (new_places 0 v)) slots_are ∙ more_new node_part (list_part ++ chain_part) in
        omega (arith, split, more_new list_part chain_part, new_nodes c.cells.items walk.are, new_chains new.zones, walk.same (λ c. cond (branch_stays settings old new e c) 0 (1 + list_rows settings new c)))

    sized : q.need ≤ size_of settings new
    sized = omega (arith, need, all_slots 0 q.slots, count, whole_sized settings new served all_of c.cells.items whole)

    pub path_is : IsPlan settings p q old new × ((q.need ≤ size_of settings new) × (q.need ≤ fresh_rows settings old e))
    path_is = (path, (sized, few))

-- ---- what was made along a path
none_own : (e : Entry) (k : ℕ) (zones : List Zone) → Each (λ (zone : Zone). is_changed e zone.key ≡ true → zone.shape ≡ []) zones → Each (λ (zone : Zone). is_changed e zone.key ≡ true → zone.shape ≡ [] ∷ []) zones → own_rows e k zones ≡ []
none_own e k [] a b = refl
none_own e k (zone ∷ zones) a b = by (is_changed e zone.key) a.0 b.0 (none_own e (k + 1) zones a.1 b.1)
  where
    by : (t : Bool) → (t ≡ true → zone.shape ≡ []) → (t ≡ true → zone.shape ≡ [] ∷ []) → own_rows e (k + 1) zones ≡ [] → cond t (Rattle.act_image.specs.Plans.rows_from k 0 (chain_rows zone.shape)) [] ++ own_rows e (k + 1) zones ≡ []
    by true one two more = (let bad = sym (one refl) ∙ two refl in absurd (omega (arith, ap length bad)))
    by false one two more = more

pub path_made : (settings : Settings) (p : Pic) (x : Sight) (old : State) (e : Entry) (shown : Shows settings p x old) → IsServed settings (after settings old e) → HaveOwnKeys (after settings old e).zones
    → (c : Path) → IsPath settings old (after settings old e) e p.nodes p.rows c → (k : KeptChains)
    → ((shape : List (List Point)) → ((own : List (List Point)) → shape_of e ≡ Some own → own ≡ shape) → IsKeptChains (old_chain p.chains p.rows (length p.nodes + p.lists)) e shape (after settings old e).zones k)
    → (bodies : List (List ℕ)) → ((shape : List (List Point)) → shape_of e ≡ Some shape → get_or bodies 0 [] ≡ body_of shape) → (left : List ℕ)
    → left ≡ flat_map (gone_node p.nodes c.stays.items p.rows) (from 0 (length p.nodes)) ++ flat_map (gone_chain e p.rows (length p.nodes + p.lists)) p.chains → (q : Planned) → IsKeptMade c k bodies left q
    → IsPlan settings p q old (after settings old e) × ((q.need ≤ size_of settings (after settings old e)) × (q.need ≤ fresh_rows settings old e))
path_made settings p x old e shown served keys c walk k kept bodies own left gone q m = by (shape_of e) refl
  where
    at : (shape : List (List Point)) → ((own : List (List Point)) → shape_of e ≡ Some own → own ≡ shape) → (0 < length k.rows.items → get_or q.bodies 0 [] ≡ body_of shape)
        → IsPlan settings p q old (after settings old e) × ((q.need ≤ size_of settings (after settings old e)) × (q.need ≤ fresh_rows settings old e))
    at shape only body =
        path_is settings p x old e shown served keys c walk shape k (kept shape only) q m.nodes m.under m.list_rows m.spots m.lists m.chains m.chain_rows body m.slots m.need (m.gone ∙ gone)

    by : (s : Option (List (List Point))) → shape_of e ≡ s → IsPlan settings p q old (after settings old e) × ((q.need ≤ size_of settings (after settings old e)) × (q.need ≤ fresh_rows settings old e))
    by (Some shape) h = at shape (λ other there. (let same : Some other ≡ Some shape = sym there ∙ h in let is : other ≡ shape = cc in is)) (λ some. ap (λ v. get_or v 0 []) m.bodies_are ∙ own shape h)
    by None h =
        let no : (shape own : List (List Point)) → shape_of e ≡ Some own → own ≡ shape = λ shape own there. (let bad = sym there ∙ h in absurd (cc)) in
        let rows = (kept [] (no [])).rows ∙ ap (map of_first_body) (none_own e 0 (after settings old e).zones (kept [] (no [])).shapes (kept ([] ∷ []) (no ([] ∷ []))).shapes) in
        at [] (no []) (λ some. absurd (omega (arith, some, ap length rows)))

-- ---- what the parts ask of the image before
pub some_shape : (e : Entry) → (shape : List (List Point)) × ((own : List (List Point)) → shape_of e ≡ Some own → own ≡ shape)
some_shape e = by (shape_of e)
  where
    by : (s : Option (List (List Point))) → (shape : List (List Point)) × ((own : List (List Point)) → s ≡ Some own → own ≡ shape)
    by None = ([], λ own h. absurd (cc))
    by (Some shape) = (shape, λ own h. (let is : own ≡ shape = cc in is))

module _ (settings : Settings) (p : Pic) (x : Sight) (old : State) (shown : Shows settings p x old) where
  pub node_within : (i : ℕ) → i < length p.nodes → length p.nodes + (get_or p.nodes i no_node).first + (get_or p.nodes i no_node).count ≤ length p.rows
  node_within i low =
      let long : length p.nodes ≡ length shown.cells = ap length shown.copy.nodes ∙ places_length settings old 0 shown.cells in
      let within : i < length shown.cells = omega (arith, low, long) in
      let place = ap (λ v. get_or v i no_node) shown.copy.nodes ∙ place_at settings old 0 shown.cells i within in
      omega (arith, ap (λ (z : NodePlace). z.first) place, ap (λ (z : NodePlace). z.count) place, flat_within (lists_of settings old) shown.cells i root_cell within, shown.copy.lists, shown.copy.all)

  pub chain_within : (from : ℕ) (places : List ChainPlace) (rows : List ℕ) → from ≡ length p.nodes + p.lists → places ≡ p.chains → rows ≡ p.rows → (i : ℕ) → i < length places → from + (get_or places i no_chain).first + (get_or places i no_chain).count ≤ length rows
  chain_within from places rows from_is places_are rows_are i low =
      let is = places_are ∙ shown.copy.chains in
      let small : i < length old.zones = omega (arith, low, ap length is, chains_length 0 old.zones) in
      let o = old_place old.zones i (made_keys settings p x old shown) small in
      let at = ap (λ v. get_or v i no_chain) is in
      omega (arith, ap (λ (z : ChainPlace). z.first) at, ap (λ (z : ChainPlace). z.count) at, o.within, from_is, ap length rows_are, shown.copy.all)

  pub chains_before : (from : ℕ) (places : List ChainPlace) (rows : List ℕ) → from ≡ length p.nodes + p.lists → places ≡ p.chains → rows ≡ p.rows → IsOldChains old.zones places rows from
  chains_before from places rows from_is places_are rows_are = record {
    places_are = places_are ∙ shown.copy.chains;
    enough = omega (arith, from_is, ap length rows_are, shown.copy.all);
    own = made_keys settings p x old shown;
  }
