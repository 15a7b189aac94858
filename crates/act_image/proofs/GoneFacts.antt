-- The rows that stay and those that go are all rows of the image.
use Rattle.std.proofs.Common.{◌≡◌, ◌≢◌, ◌⊎◌, inl, inr, ℕ, zero, suc, ◌+◌, ◌<◌, ◌≤◌, Bool, true, false, not, if◌then◌else◌, cond, eqb, refl, sym, ap, ◌∙◌, subst, arith, List, [], ◌∷◌, ◌++◌, ◌==◌, nat_lt, length, get_or, map, take, None, Some}
use Rattle.std.specs.List.{AllByRecursion as Each, flat_map, sum_by}
use Rattle.std.proofs.lemmas.Bool.Decides.{eqb_tells}
use Rattle.std.proofs.lemmas.List.{append_assoc, append-nil, get_or-map, take_more}
use Rattle.std.proofs.lemmas.List.Concat.{flat_map-append}
use Rattle.std.proofs.lemmas.List.Sums.{sum_by-cons}
use Rattle.act_base.specs.Counting.{from, times}
use Rattle.act_base.specs.Sight.{Sight}
use Rattle.act_base.proofs.Times.{from_more, times-append, times_else, times_here}
use Rattle.act_grid.specs.declared.Point.{Point}
use Rattle.act_grid.specs.declared.Settings.{Settings}
use Rattle.act_grid.specs.Cell.{Address, root_cell}
use Rattle.act_super.specs.declared.entry.Entry.{Entry}
use Rattle.act_super.specs.declared.entry.Entry.TheVariants as entry
use Rattle.act_super.specs.declared.entry.State.{State}
use Rattle.act_super.specs.declared.entry.Zone.{Zone}
use Rattle.act_super.specs.Nodes.{nodes_of}
use Rattle.act_super.specs.Sizes.{chain_rows}
use Rattle.act_super.specs.Stands.{Layout}
use Rattle.act_super.specs.States.{changed, key_of, reshaped, with_zone, without_key}
use Rattle.act_image.specs.declared.chains.ChainPlace.{ChainPlace}
use Rattle.act_image.specs.declared.nodes.NodePlace.{NodePlace}
use Rattle.act_image.specs.declared.slots.Slot.TheVariants as kind
use Rattle.act_image.specs.Fresh.{branch_stays, is_changed}
use Rattle.act_image.specs.Gone.{gone_chain, gone_node}
use Rattle.act_image.specs.Kept.{kept_slots, list_slots, new_slots, node_slot, old_chain, zone_slots}
use Rattle.act_image.specs.Plans.{chains_from, lists_of, places_from}
use Rattle.act_image.specs.Pics.{Pic, Shows, chain_of, layout_in, no_node, part_of}
use Rattle.act_image.specs.Slots.{kept_of}
use Rattle.act_image.proofs.BindFacts.{at_node, same_place}
use Rattle.act_image.proofs.ChainFacts.{none_changed}
use Rattle.act_image.proofs.KeepFacts.{kept_all, kept_append, new_none}
use Rattle.act_image.proofs.PlaceFacts.{at_among, place_at, places_length}
use Rattle.act_image.proofs.SameWords.{made, made_keys, made_layout, made_low, made_need, made_once, made_whole, nodes_many}

-- ---- steps of loops
pub node_step : (f : ℕ → List ℕ) (before now after : List ℕ) (i : ℕ) → now ≡ before ++ flat_map f (from 0 i) → after ≡ now ++ f i → after ≡ before ++ flat_map f (from 0 (i + 1))
node_step f before now after i h e =
    let next : suc i ≡ i + 1 = omega arith in
    let none : 0 + i ≡ i = omega arith in
    e ∙ ap (λ v. v ++ f i) h ∙ append_assoc before (flat_map f (from 0 i)) (f i)
    ∙ ap (λ v. before ++ v) (ap (λ m. flat_map f (from 0 i) ++ f m) (sym none) ∙ ap (λ v. flat_map f (from 0 i) ++ v) (sym (append-nil (f (0 + i)))) ∙ sym (flat_map-append f (from 0 i) ((0 + i) ∷ [])) ∙ ap (flat_map f) (from_more 0 i ∙ ap (from 0) next))

pub chain_step : (f : ChainPlace → List ℕ) (before now after : List ℕ) (places : List ChainPlace) (i : ℕ) (d : ChainPlace) → i < length places → now ≡ before ++ flat_map f (take i places) → after ≡ now ++ f (get_or places i d)
    → after ≡ before ++ flat_map f (take (i + 1) places)
chain_step f before now after places i d low h e =
    e ∙ ap (λ v. v ++ f (get_or places i d)) h ∙ append_assoc before (flat_map f (take i places)) (f (get_or places i d))
    ∙ ap (λ v. before ++ v)
    (ap (λ v. flat_map f (take i places) ++ v) (sym (append-nil (f (get_or places i d)))) ∙ sym (flat_map-append f (take i places) (get_or places i d ∷ [])) ∙ ap (flat_map f) (sym (take_more places i d low)))

pub none_gone : (e : Entry) (rows : List ℕ) (first : ℕ) (places : List ChainPlace) → key_of e ≡ None → flat_map (gone_chain e rows first) places ≡ []
none_gone e rows first [] h = refl
none_gone e rows first (place ∷ places) h =
    ap (λ b. cond b (part_of rows (first + place.first) place.count) [] ++ flat_map (gone_chain e rows first) places) (none_changed e place.key h) ∙ none_gone e rows first places h

-- ---- sums
sum_parts : {X : Type 0} (k : X → Bool) (f : X → ℕ) (xs : List X) → sum_by (λ x. cond (k x) (f x) 0) xs + sum_by (λ x. cond (k x) 0 (f x)) xs ≡ sum_by f xs
sum_parts k f [] = refl
sum_parts k f (x ∷ xs) = omega (arith, sum_by-cons (λ y. cond (k y) (f y) 0) x xs, sum_by-cons (λ y. cond (k y) 0 (f y)) x xs, sum_by-cons f x xs, sum_parts k f xs, by (k x))
  where
    by : (b : Bool) → cond b (f x) 0 + cond b 0 (f x) ≡ f x
    by true = omega arith
    by false = omega arith

pub flat_times : {X : Type 0} (f : X → List ℕ) (xs : List X) (r : ℕ) → times (flat_map f xs) r ≡ sum_by (λ x. times (f x) r) xs
flat_times f [] r = refl
flat_times f (x ∷ xs) r = omega (arith, times-append (f x) (flat_map f xs) r, flat_times f xs r, sum_by-cons (λ y. times (f y) r) x xs)

sum_places : (settings : Settings) (state : State) (g : Address → ℕ) (first : ℕ) (cells : List Address) → sum_by (λ (node : NodePlace). g node.cell) (places_from settings state first cells) ≡ sum_by g cells
sum_places settings state g first [] = refl
sum_places settings state g first (c ∷ cells) =
    omega (
      arith,
      sum_by-cons (λ (node : NodePlace). g node.cell) (record { cell = c; first = first; count = length (lists_of settings state c) }) (places_from settings state (first + length (lists_of settings state c)) cells),
      sum_by-cons g c cells,
      sum_places settings state g (first + length (lists_of settings state c)) cells,
    )

-- ---- nodes and lists that stay
module _ (settings : Settings) (layout : Layout) (old new : State) (e : Entry) (r : ℕ) where
  node_times : Address → ℕ
  node_times c = times (layout.node c ∷ layout.lists c) r

  pub kept_nodes : (cells : List Address)
      → times (kept_of (map (node_slot settings layout old new e) cells)) r + times (kept_of (flat_map (list_slots settings layout old new e) cells)) r ≡ sum_by (λ c. cond (branch_stays settings old new e c) (times (layout.node c ∷ layout.lists c) r) 0) cells
  kept_nodes [] = refl
  kept_nodes (c ∷ cells) =
      omega (
        arith,
        kept_append (node_slot settings layout old new e c ∷ []) (map (node_slot settings layout old new e) cells) r,
        kept_append (list_slots settings layout old new e c) (flat_map (list_slots settings layout old new e) cells) r,
        by (branch_stays settings old new e c),
        sum_by-cons (λ c. cond (branch_stays settings old new e c) (times (layout.node c ∷ layout.lists c) r) 0) c cells,
        kept_nodes cells,
      )
    where
      by : (b : Bool)
          → times (kept_of (cond b (kind.Kept (layout.node c)) kind.New ∷ [])) r + times (kept_of (cond b (kept_slots (layout.lists c)) (new_slots (length (lists_of settings new c))))) r
          ≡ cond b (times (layout.node c ∷ layout.lists c) r) 0
      by true = (let lists = ap (λ v. times v r) (kept_all (layout.lists c)) in omega (arith, lists))
      by false = (let none = ap (λ v. times v r) (new_none (length (lists_of settings new c))) in omega (arith, none))

-- ---- chains that stay
module _ (chain : ℕ → List ℕ) (e : Entry) (r : ℕ) where
  kept_count : Zone → ℕ
  kept_count zone = times (kept_of (zone_slots chain e zone)) r

  -- a zone with a changed key keeps no row
  unkept : (zone : Zone) → is_changed e zone.key ≡ true → times (kept_of (zone_slots chain e zone)) r ≡ 0
  unkept zone h = ap (λ b. times (kept_of (cond b (new_slots (chain_rows zone.shape)) (kept_slots (chain zone.key)))) r) h ∙ ap (λ v. times v r) (new_none (chain_rows zone.shape))

  abbrev kept_in : List Zone → ℕ
  kept_in zones = times (kept_of (flat_map (zone_slots chain e) zones)) r

  kept_cons : (zone : Zone) (zones : List Zone) → times (kept_of (flat_map (zone_slots chain e) (zone ∷ zones))) r ≡ times (kept_of (zone_slots chain e zone)) r + times (kept_of (flat_map (zone_slots chain e) zones)) r
  kept_cons zone zones = kept_append (zone_slots chain e zone) (flat_map (zone_slots chain e) zones) r

  kept_with : (new : Zone) (zones : List Zone) → is_changed e new.key ≡ true → kept_in (with_zone new zones) ≡ kept_in zones
  kept_with new [] h = omega (arith, kept_cons new [], unkept new h)
  kept_with new (zone ∷ zones) h = by (nat_lt new.key zone.key) (kept_with new zones h)
    where
      by : (b : Bool) → kept_in (with_zone new zones) ≡ kept_in zones → kept_in (if b then new ∷ zone ∷ zones else zone ∷ with_zone new zones) ≡ kept_in (zone ∷ zones)
      by true more = omega (arith, kept_cons new (zone ∷ zones), unkept new h)
      by false more = omega (arith, kept_cons zone (with_zone new zones), kept_cons zone zones, more)

  kept_without : (key : ℕ) (zones : List Zone) → ((zone : Zone) → (zone.key == key) ≡ true → is_changed e zone.key ≡ true) → kept_in (without_key key zones) ≡ kept_in zones
  kept_without key [] h = refl
  kept_without key (zone ∷ zones) h = by (zone.key == key) refl (kept_without key zones h)
    where
      by : (b : Bool) → (zone.key == key) ≡ b → kept_in (without_key key zones) ≡ kept_in zones → kept_in (cond (not b) (zone ∷ without_key key zones) (without_key key zones)) ≡ kept_in (zone ∷ zones)
      by true is more = omega (arith, kept_cons zone zones, unkept zone (h zone is), more)
      by false is more = omega (arith, kept_cons zone (without_key key zones), kept_cons zone zones, more)

  kept_reshaped : (key : ℕ) (shape : List (List Point)) (zones : List Zone) → ((zone : Zone) → (zone.key == key) ≡ true → is_changed e zone.key ≡ true) → is_changed e key ≡ true → kept_in (reshaped key shape zones) ≡ kept_in zones
  kept_reshaped key shape [] h own = refl
  kept_reshaped key shape (zone ∷ zones) h own = by (zone.key == key) refl (kept_reshaped key shape zones h own)
    where
      by : (b : Bool) → (zone.key == key) ≡ b → kept_in (reshaped key shape zones) ≡ kept_in zones → kept_in ((if b then record { key = key; shape = shape } else zone) ∷ reshaped key shape zones) ≡ kept_in (zone ∷ zones)
      by true is more = omega (arith, kept_cons (record { key = key; shape = shape }) (reshaped key shape zones), kept_cons zone zones, unkept zone (h zone is), unkept (record { key = key; shape = shape }) own, more)
      by false is more = omega (arith, kept_cons zone (reshaped key shape zones), kept_cons zone zones, more)

  pub zone_parts : (zones : List Zone) → kept_in zones + times (flat_map (λ (zone : Zone). cond (is_changed e zone.key) (chain zone.key) []) zones) r ≡ times (flat_map (λ (zone : Zone). chain zone.key) zones) r
  zone_parts [] = refl
  zone_parts (zone ∷ zones) =
      omega (
        arith,
        kept_cons zone zones,
        times-append (cond (is_changed e zone.key) (chain zone.key) []) (flat_map (λ (zone : Zone). cond (is_changed e zone.key) (chain zone.key) []) zones) r,
        times-append (chain zone.key) (flat_map (λ (zone : Zone). chain zone.key) zones) r,
        by (is_changed e zone.key),
        zone_parts zones,
      )
    where
      by : (b : Bool) → times (kept_of (cond b (new_slots (chain_rows zone.shape)) (kept_slots (chain zone.key)))) r + times (cond b (chain zone.key) []) r ≡ times (chain zone.key) r
      by true = (let none = ap (λ v. times v r) (new_none (chain_rows zone.shape)) in omega (arith, none))
      by false = (let lists = ap (λ v. times v r) (kept_all (chain zone.key)) in omega (arith, lists))

turned_key : (a b : ℕ) → (a == b) ≡ true → (b == a) ≡ true
turned_key a b h = Rattle.std.proofs.Common.eq-eqb b a (sym (Rattle.act_image.proofs.BranchFacts.keys_are a b h))

pub kept_changed : (chain : ℕ → List ℕ) (e : Entry) (r : ℕ) (zones : List Zone) → times (kept_of (flat_map (zone_slots chain e) (changed zones e))) r ≡ times (kept_of (flat_map (zone_slots chain e) zones)) r
kept_changed chain (entry.Add key shape) r zones = kept_with chain (entry.Add key shape) r (record { key = key; shape = shape }) zones (Rattle.std.proofs.Common.eq-eqb key key refl)
kept_changed chain (entry.DropZone key) r zones = kept_without chain (entry.DropZone key) r key zones (λ zone h. turned_key zone.key key h)
kept_changed chain (entry.Replace key shape) r zones = kept_reshaped chain (entry.Replace key shape) r key shape zones (λ zone h. turned_key zone.key key h) (Rattle.std.proofs.Common.eq-eqb key key refl)
kept_changed chain (entry.Train cells) r zones = refl

-- the chain rows that go, by zones
pub gone_zones : (e : Entry) (rows : List ℕ) (first f : ℕ) (all : List ChainPlace) (zones : List Zone) → Each (λ (place : ChainPlace). chain_of all place.key ≡ place) (chains_from f zones)
    → flat_map (gone_chain e rows first) (chains_from f zones) ≡ flat_map (λ (zone : Zone). cond (is_changed e zone.key) (old_chain all rows first zone.key) []) zones
gone_zones e rows first f all [] h = refl
gone_zones e rows first f all (zone ∷ zones) h =
    (λ i. cond (is_changed e zone.key) (part_of rows (first + (sym h.0 i).first) (sym h.0 i).count) [] ++ gone_zones e rows first (f + chain_rows zone.shape) all zones h.1 i)

-- ---- the nodes that go
module _ (settings : Settings) (p : Pic) (x : Sight) (old : State) (shown : Shows settings p x old) (k : Address → Bool) (stays : List Bool) (marked : stays ≡ map (λ (node : NodePlace). k node.cell) p.nodes) where
  abbrev cells : List Address
  cells = shown.cells

  abbrev gone_at : Address → List ℕ
  gone_at c = cond (k c) [] ((layout_in p).node c ∷ (layout_in p).lists c)

  cell_gone : (i : ℕ) → i < length shown.cells → gone_node p.nodes stays p.rows i ≡ gone_at (get_or shown.cells i root_cell)
  cell_gone i low =
      let c = get_or shown.cells i root_cell in
      let q = made settings p x old shown in
      let whole = made_whole settings p x old shown in
      let keys = made_keys settings p x old shown in
      let once = made_once settings p x old shown in
      let small = made_low settings p x old shown in
      let need = made_need settings p x old shown in
      let a = at_node settings p q old shown.cells whole shown.served keys once small need refl c (at_among shown.cells i low) in
      let same : a.j ≡ i = same_place settings p q old shown.cells whole shown.served keys once small need refl c a i low refl in
      let layout = made_layout settings p x old shown in
      let long : length p.nodes ≡ length shown.cells = ap length shown.copy.nodes ∙ places_length settings old 0 shown.cells in
      let many = nodes_many settings p x old shown in
      let place = ap (λ v. get_or v i no_node) shown.copy.nodes ∙ place_at settings old 0 shown.cells i low in
      let first = ap (λ (z : NodePlace). z.first) place in
      let count = ap (λ (z : NodePlace). z.count) place in
      let stay : get_or stays i false ≡ k (get_or shown.cells i root_cell) =
      ap (λ v. get_or v i false) marked ∙ get_or-map (λ (node : NodePlace). k node.cell) p.nodes i no_node false (omega (arith, low, long)) ∙ ap (λ (z : NodePlace). k z.cell) place in
      let row : (layout_in p).node c ≡ get_or p.rows i 0 = ap (λ (l : Layout). l.node c) (sym layout) ∙ a.row ∙ ap (λ j. get_or p.rows j 0) same in
      let at : length p.nodes + (get_or p.nodes i no_node).first ≡ length q.spots + length (flat_map (lists_of settings old) (take a.j shown.cells)) =
      omega (arith, many, first, ap (λ j. length (flat_map (lists_of settings old) (take j shown.cells))) same) in
      let lists : (layout_in p).lists c ≡ part_of p.rows (length p.nodes + (get_or p.nodes i no_node).first) (get_or p.nodes i no_node).count =
      ap (λ (l : Layout). l.lists c) (sym layout) ∙ a.lists ∙ (λ t. part_of p.rows (sym at t) (sym count t)) in
      λ t. cond (stay t) [] (sym row t ∷ sym lists t)

  along : (f : ℕ → List ℕ) (g : Address → List ℕ) (j : ℕ) (cs : List Address) → ((i : ℕ) → i < length cs → f (j + i) ≡ g (get_or cs i root_cell)) → flat_map f (from j (length cs)) ≡ flat_map g cs
  along f g j [] h = refl
  along f g j (c ∷ cs) h =
      let none : j + 0 ≡ j = omega arith in
      let here : f j ≡ g c = ap f (sym none) ∙ h 0 (omega arith) in
      let rest = along f g (j + 1) cs (λ i low. (let next : j + 1 + i ≡ j + suc i = omega arith in ap f next ∙ h (suc i) (omega (arith, low)))) in
      λ t. here t ++ rest t

  gone_cells : flat_map (gone_node p.nodes stays p.rows) (from 0 (length p.nodes)) ≡ flat_map gone_at shown.cells
  gone_cells =
      let long : length p.nodes ≡ length shown.cells = ap length shown.copy.nodes ∙ places_length settings old 0 shown.cells in
      ap (λ n. flat_map (gone_node p.nodes stays p.rows) (from 0 n)) long
      ∙ along (gone_node p.nodes stays p.rows) gone_at 0 shown.cells (λ i low. (let none : 0 + i ≡ i = omega arith in ap (gone_node p.nodes stays p.rows) none ∙ cell_gone i low))

  -- the rows of the nodes that stay, and of those that go
  pub node_balance : (r : ℕ) → sum_by (λ (node : NodePlace). cond (k node.cell) (times ((layout_in p).node node.cell ∷ (layout_in p).lists node.cell) r) 0) p.nodes + times (flat_map (gone_node p.nodes stays p.rows) (from 0 (length p.nodes))) r
      ≡ sum_by (λ c. times ((layout_in p).node c ∷ (layout_in p).lists c) r) (nodes_of settings old)
  node_balance r =
      let f = λ (c : Address). times ((layout_in p).node c ∷ (layout_in p).lists c) r in
      let kept = ap (sum_by (λ (node : NodePlace). cond (k node.cell) (times ((layout_in p).node node.cell ∷ (layout_in p).lists node.cell) r) 0)) shown.copy.nodes
      ∙ sum_places settings old (λ c. cond (k c) (times ((layout_in p).node c ∷ (layout_in p).lists c) r) 0) 0 shown.cells in
      let left = ap (λ v. times v r) gone_cells ∙ flat_times gone_at shown.cells r ∙ each_out shown.cells in
      omega (arith, kept, left, sum_parts k (λ c. times ((layout_in p).node c ∷ (layout_in p).lists c) r) shown.cells, shown.copy.same (λ c. times ((layout_in p).node c ∷ (layout_in p).lists c) r))
    where
      each_out : (cs : List Address) → sum_by (λ c. times (gone_at c) r) cs ≡ sum_by (λ c. cond (k c) 0 (times ((layout_in p).node c ∷ (layout_in p).lists c) r)) cs
      each_out [] = refl
      each_out (c ∷ cs) =
          omega (arith, sum_by-cons (λ c. times (gone_at c) r) c cs, sum_by-cons (λ c. cond (k c) 0 (times ((layout_in p).node c ∷ (layout_in p).lists c) r)) c cs, one (k c), each_out cs)
        where
          one : (b : Bool) → times (cond b [] ((layout_in p).node c ∷ (layout_in p).lists c)) r ≡ cond b 0 (times ((layout_in p).node c ∷ (layout_in p).lists c) r)
          one true = refl
          one false = refl

-- ---- lists with the same numbers are as long
record Taken (x : ℕ) (ys : List ℕ) : Type 0 where
  rest : List ℕ
  times_are : (r : ℕ) → times ys r ≡ cond (x == r) 1 0 + times rest r
  long : length ys ≡ suc (length rest)

taken : (x : ℕ) (ys : List ℕ) → 0 < times ys x → Taken x ys
taken x [] some = absurd (omega (arith, some))
taken x (y ∷ ys) some = by (eqb_tells y x) (λ more. taken x ys more)
  where
    by : ((eqb y x ≡ true) × (y ≡ x)) ⊎ ((eqb y x ≡ false) × (y ≢ x)) → (0 < times ys x → Taken x ys) → Taken x (y ∷ ys)
    by (inl same) more = record { rest = ys; times_are = λ r. ap (λ v. cond (v == r) 1 0 + times ys r) same.1; long = refl }
    by (inr other) more =
        let t = more (omega (arith, some, times_else y x ys other.1)) in
        record { rest = y ∷ t.rest; times_are = λ r. (let own = t.times_are r in omega (arith, own)); long = ap suc t.long }

pub same_length : (xs ys : List ℕ) → ((r : ℕ) → times xs r ≡ times ys r) → length xs ≡ length ys
same_length [] [] h = refl
same_length [] (y ∷ ys) h = absurd (omega (arith, h y, times_here y ys))
same_length (x ∷ xs) ys h =
    let t = taken x ys (omega (arith, h x, times_here x xs)) in
    let rest = same_length xs t.rest (λ r. (let own = t.times_are r in omega (arith, h r, own))) in
    omega (arith, rest, t.long)

-- ---- one more node
module _ (nodes : List NodePlace) (stays : List Bool) (rows before now : List ℕ) (i : ℕ) (h : now ≡ before ++ flat_map (gone_node nodes stays rows) (from 0 i)) where
  pub node_stays : (after : List ℕ) → get_or stays i false ≡ true → after ≡ now → after ≡ before ++ flat_map (gone_node nodes stays rows) (from 0 (i + 1))
  node_stays after stay same =
      node_step (gone_node nodes stays rows) before now after i h
      (same ∙ sym (append-nil now) ∙ ap (λ b. now ++ cond b [] (get_or rows i 0 ∷ part_of rows (length nodes + (get_or nodes i no_node).first) (get_or nodes i no_node).count)) (sym stay))

  pub node_goes : (after middle : List ℕ) (row : ℕ) (node : NodePlace) → get_or stays i false ≡ false → row ≡ get_or rows i 0 → node ≡ get_or nodes i no_node → middle ≡ now ++ row ∷ [] → after ≡ middle ++ part_of rows (length nodes + node.first) node.count
      → after ≡ before ++ flat_map (gone_node nodes stays rows) (from 0 (i + 1))
  node_goes after middle row node stay row_is node_is first rest =
      node_step (gone_node nodes stays rows) before now after i h
      (rest ∙ ap (λ v. v ++ part_of rows (length nodes + node.first) node.count) first ∙ append_assoc now (row ∷ []) (part_of rows (length nodes + node.first) node.count)
      ∙ (λ t. now ++ row_is t ∷ part_of rows (length nodes + (node_is t).first) (node_is t).count)
      ∙ ap (λ b. now ++ cond b [] (get_or rows i 0 ∷ part_of rows (length nodes + (get_or nodes i no_node).first) (get_or nodes i no_node).count)) (sym stay))
