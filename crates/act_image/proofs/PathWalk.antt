-- The walk that takes the branches which stay from the nodes before, one node a step.
use Rattle.std.proofs.Common.{◌≡◌, ℕ, ◌+◌, ◌<◌, Bool, true, false, not, cond, refl, sym, ap, ◌∙◌, subst, arith, List, [], ◌∷◌, ◌++◌, Option, Some, None, length, get_or, map, take}
use Rattle.std.specs.List.{AllByRecursion as Each, flat_map}
use Rattle.std.proofs.lemmas.List.{append-nil, append_assoc, get_or-map, get_or_read, length-append, length-map, map-append, take-append-le, take_more}
use Rattle.std.proofs.lemmas.List.Concat.{flat_map-append}
use Rattle.act_grid.specs.declared.Settings.{Settings}
use Rattle.act_grid.specs.Cell.{Address, root_cell}
use Rattle.act_super.specs.declared.entry.Entry.{Entry}
use Rattle.act_super.specs.declared.entry.State.{State}
use Rattle.act_super.specs.Grounds.{is_among}
use Rattle.act_super.specs.Nodes.{IsNode, node_children}
use Rattle.act_probe.proofs.EntryFacts.{root_node}
use Rattle.act_image.specs.declared.nodes.NodePlace.{NodePlace}
use Rattle.act_image.specs.declared.path.Walker.{Walker}
use Rattle.act_image.specs.declared.slots.Slot.TheVariants as slot
use Rattle.act_image.specs.Fresh.{branch_stays}
use Rattle.act_image.specs.Kept.{kept_slots, list_slots, new_slots, node_slot}
use Rattle.act_image.specs.Paths.{IsWalker, layout_of, own_lists, own_spots, source_in, source_of}
use Rattle.act_image.specs.Pics.{node_at}
use Rattle.act_image.specs.Plans.{lists_of, places_from, spots_of}
use Rattle.act_image.proofs.StepFacts.{each_get, next_queue, places_push, root_queue}

module _ (settings : Settings) (was new : State) (e : Entry) where
  -- ---- where nodes stood
  turned_source : (nodes : List NodePlace) (turned : List Address) (c : Address) → is_among turned c ≡ not (branch_stays settings was new e c) → source_in nodes turned c ≡ source_of settings was new e nodes c
  turned_source nodes turned c h = by (branch_stays settings was new e c) h
    where
      by : (b : Bool) → is_among turned c ≡ not b → cond (is_among turned c) None (Some (node_at nodes c)) ≡ cond b (Some (node_at nodes c)) None
      by true h = ap (λ b. cond b None (Some (node_at nodes c))) h
      by false h = ap (λ b. cond b None (Some (node_at nodes c))) h

  pub turned_sources : (nodes : List NodePlace) (turned cells : List Address) → ((c : Address) → IsNode settings new c → is_among turned c ≡ not (branch_stays settings was new e c)) → Each (IsNode settings new) cells
      → map (source_in nodes turned) cells ≡ map (source_of settings was new e nodes) cells
  turned_sources nodes turned [] h are = refl
  turned_sources nodes turned (c ∷ cells) h are = λ i. turned_source nodes turned c (h c are.0) i ∷ turned_sources nodes turned cells h are.1 i

  pub record Stood (nodes : List NodePlace) (c : Address) (at : ℕ) : Type 0 where
    pub stay : branch_stays settings was new e c ≡ true
    pub is : node_at nodes c ≡ at

  pub stood : (nodes : List NodePlace) (c : Address) (at : ℕ) → source_of settings was new e nodes c ≡ Some at → Stood nodes c at
  stood nodes c at h = by (branch_stays settings was new e c) refl h
    where
      some_is : (a b : ℕ) → Some a ≡ Some b → a ≡ b
      some_is a b h = cc

      by : (b : Bool) → branch_stays settings was new e c ≡ b → cond b (Some (node_at nodes c)) None ≡ Some at → Stood nodes c at
      by true is h = record { stay = is; is = some_is (node_at nodes c) at h }
      by false is h = absurd (cc)

  pub turned_away : (nodes : List NodePlace) (c : Address) → source_of settings was new e nodes c ≡ None → branch_stays settings was new e c ≡ false
  turned_away nodes c h = by (branch_stays settings was new e c) refl h
    where
      by : (b : Bool) → branch_stays settings was new e c ≡ b → cond b (Some (node_at nodes c)) None ≡ None → branch_stays settings was new e c ≡ false
      by true is h = absurd (cc)
      by false is h = is

  -- ---- one more node
  spots_push : (base slot : ℕ) (cells : List Address) (c : Address)
      → own_spots settings was new e base slot (cells ++ c ∷ [])
      ≡ own_spots settings was new e base slot cells ++ cond (branch_stays settings was new e c) [] (spots_of settings new (base + length (flat_map (lists_of settings new) cells)) (slot + length (flat_map (node_children settings new) cells)) c ∷ [])
  spots_push base slot [] c =
      let f : base ≡ base + 0 = omega arith in
      let g : slot ≡ slot + 0 = omega arith in
      append-nil (cond (branch_stays settings was new e c) [] (spots_of settings new base slot c ∷ [])) ∙ (λ i. cond (branch_stays settings was new e c) [] (spots_of settings new (f i) (g i) c ∷ []))
  spots_push base slot (d ∷ cells) c =
      let f : base + length (lists_of settings new d) + length (flat_map (lists_of settings new) cells) ≡ base + length (lists_of settings new d ++ flat_map (lists_of settings new) cells) =
      omega (arith, length-append (lists_of settings new d) (flat_map (lists_of settings new) cells)) in
      let g : slot + length (node_children settings new d) + length (flat_map (node_children settings new) cells) ≡ slot + length (node_children settings new d ++ flat_map (node_children settings new) cells) =
      omega (arith, length-append (node_children settings new d) (flat_map (node_children settings new) cells)) in
      let own = cond (branch_stays settings was new e d) [] (spots_of settings new base slot d ∷ []) in
      let more = own_spots settings was new e (base + length (lists_of settings new d)) (slot + length (node_children settings new d)) cells in
      ap (λ v. own ++ v) (spots_push (base + length (lists_of settings new d)) (slot + length (node_children settings new d)) cells c
      ∙ (λ i. more ++ cond (branch_stays settings was new e c) [] (spots_of settings new (f i) (g i) c ∷ [])))
      ∙ sym (append_assoc own more (cond (branch_stays settings was new e c) [] (spots_of settings new (base + length (flat_map (lists_of settings new) (d ∷ cells))) (slot + length (flat_map (node_children settings new) (d ∷ cells))) c ∷ [])))

  -- what a step has to add for the cell
  pub record Adds (nodes : List NodePlace) (rows : List ℕ) (c : Address) (old new_walker : Walker) : Type 0 where
    pub cells : new_walker.cells.items ≡ old.cells.items ++ node_children settings new c
    pub sources : new_walker.sources.items ≡ old.sources.items ++ map (source_of settings was new e nodes) (node_children settings new c)
    pub places : new_walker.places.items ≡ old.places.items ++ record { cell = c; first = old.base; count = length (lists_of settings new c) } ∷ []
    pub under : new_walker.under.items ≡ old.under.items ++ length (node_children settings new c) ∷ []
    pub node_slots : new_walker.node_slots.items ≡ old.node_slots.items ++ node_slot settings (layout_of nodes rows) was new e c ∷ []
    pub list_slots : new_walker.list_slots.items ≡ old.list_slots.items ++ list_slots settings (layout_of nodes rows) was new e c
    pub spots : new_walker.spots.items ≡ old.spots.items ++ cond (branch_stays settings was new e c) [] (spots_of settings new old.base (length old.cells.items) c ∷ [])
    pub lists : new_walker.lists.items ≡ old.lists.items ++ own_lists settings was new e c
    pub base : new_walker.base ≡ old.base + length (lists_of settings new c)

  pub away_adds : (nodes : List NodePlace) (rows : List ℕ) (c : Address) (old later : Walker) → branch_stays settings was new e c ≡ false → later.cells.items ≡ old.cells.items ++ node_children settings new c
      → later.sources.items ≡ old.sources.items ++ map (source_of settings was new e nodes) (node_children settings new c)
      → later.places.items ≡ old.places.items ++ record { cell = c; first = old.base; count = length (lists_of settings new c) } ∷ [] → later.under.items ≡ old.under.items ++ length (node_children settings new c) ∷ []
      → later.node_slots.items ≡ old.node_slots.items ++ slot.New ∷ [] → later.list_slots.items ≡ old.list_slots.items ++ new_slots (length (lists_of settings new c))
      → later.spots.items ≡ old.spots.items ++ spots_of settings new old.base (length old.cells.items) c ∷ [] → later.lists.items ≡ old.lists.items ++ lists_of settings new c
      → later.base ≡ old.base + length (lists_of settings new c) → Adds nodes rows c old later
  away_adds nodes rows c old later away cells sources places under node_slots list_slots spots lists base =
      let layout = layout_of nodes rows in
      record {
        cells = cells;
        sources = sources;
        places = places;
        under = under;
        node_slots = node_slots ∙ ap (λ b. old.node_slots.items ++ cond b (slot.Kept (layout.node c)) slot.New ∷ []) (sym away);
        list_slots = list_slots ∙ ap (λ b. old.list_slots.items ++ cond b (kept_slots (layout.lists c)) (new_slots (length (lists_of settings new c)))) (sym away);
        spots = spots ∙ ap (λ b. old.spots.items ++ cond b [] (spots_of settings new old.base (length old.cells.items) c ∷ [])) (sym away);
        lists = lists ∙ ap (λ b. old.lists.items ++ cond b [] (lists_of settings new c)) (sym away);
        base = base;
      }

  module _ (nodes : List NodePlace) (rows : List ℕ) (k : ℕ) (old : Walker) (h : IsWalker settings was new e nodes rows k old) (low : k < length old.cells.items) (c : Address) (is : get_or old.cells.items k root_cell ≡ c) where
    pub node_there : IsNode settings new c
    node_there = subst (IsNode settings new) is (each_get (IsNode settings new) old.cells.items k root_cell h.walk.are low)

    pub source_there : get_or old.sources.items k None ≡ source_of settings was new e nodes c
    source_there = ap (λ v. get_or v k None) h.sources ∙ get_or-map (source_of settings was new e nodes) old.cells.items k root_cell None low ∙ ap (source_of settings was new e nodes) is

    pub source_read : (x : Option ℕ) → x ≡ get_or old.sources.items k x → x ≡ source_of settings was new e nodes c
    source_read x read = get_or_read old.sources.items k x (omega (arith, low, ap length h.sources, length-map old.cells.items (source_of settings was new e nodes))) read None ∙ source_there

    abbrev done : List Address
    done = take k old.cells.items

    pub next_walker : (later : Walker) → Adds nodes rows c old later → IsWalker settings was new e nodes rows (k + 1) later
    next_walker later a =
        let children = node_children settings new c in
        let layout = layout_of nodes rows in
        let taken : take (k + 1) later.cells.items ≡ done ++ c ∷ [] =
        ap (take (k + 1)) a.cells ∙ take-append-le (k + 1) old.cells.items children (omega (arith, low)) ∙ take_more old.cells.items k root_cell low ∙ ap (λ v. take k old.cells.items ++ v ∷ []) is in
        let base : 0 + length (flat_map (lists_of settings new) done) ≡ old.base = omega (arith, h.base) in
        let slot : 1 + length (flat_map (node_children settings new) done) ≡ length old.cells.items = omega (arith, ap length h.walk.queue) in
        record {
          walk = next_queue settings new k old.cells.items later.cells.items h.walk low c is a.cells;
          sources = a.sources ∙ ap (λ v. v ++ map (source_of settings was new e nodes) children) h.sources
              ∙ sym (ap (map (source_of settings was new e nodes)) a.cells ∙ map-append (source_of settings was new e nodes) old.cells.items children);
          places = a.places ∙ ap (λ v. v ++ record { cell = c; first = old.base; count = length (lists_of settings new c) } ∷ []) h.places
              ∙ sym (ap (places_from settings new 0) taken ∙ places_push settings new 0 done c ∙ ap (λ n. places_from settings new 0 done ++ record { cell = c; first = n; count = length (lists_of settings new c) } ∷ []) base);
          under = a.under ∙ ap (λ v. v ++ length children ∷ []) h.under
              ∙ sym (ap (map (λ d. length (node_children settings new d))) taken ∙ map-append (λ d. length (node_children settings new d)) done (c ∷ []));
          node_slots = a.node_slots ∙ ap (λ v. v ++ node_slot settings layout was new e c ∷ []) h.node_slots
              ∙ sym (ap (map (node_slot settings layout was new e)) taken ∙ map-append (node_slot settings layout was new e) done (c ∷ []));
          list_slots = a.list_slots ∙ ap (λ v. v ++ list_slots settings layout was new e c) h.list_slots
              ∙ sym (ap (flat_map (list_slots settings layout was new e)) taken ∙ flat_map-append (list_slots settings layout was new e) done (c ∷ [])
              ∙ ap (λ v. flat_map (list_slots settings layout was new e) done ++ v) (append-nil (list_slots settings layout was new e c)));
          spots = a.spots ∙ ap (λ v. v ++ cond (branch_stays settings was new e c) [] (spots_of settings new old.base (length old.cells.items) c ∷ [])) h.spots
              ∙ sym (ap (own_spots settings was new e 0 1) taken ∙ spots_push 0 1 done c ∙ (λ i. own_spots settings was new e 0 1 done ++ cond (branch_stays settings was new e c) [] (spots_of settings new (base i) (slot i) c ∷ [])));
          lists = a.lists ∙ ap (λ v. v ++ own_lists settings was new e c) h.lists
              ∙ sym (ap (flat_map (own_lists settings was new e)) taken ∙ flat_map-append (own_lists settings was new e) done (c ∷ []) ∙ ap (λ v. flat_map (own_lists settings was new e) done ++ v) (append-nil (own_lists settings was new e c)));
          base = (
              let all : length (flat_map (lists_of settings new) (done ++ c ∷ [])) ≡ length (flat_map (lists_of settings new) done) + length (lists_of settings new c) =
              ap length (flat_map-append (lists_of settings new) done (c ∷ []) ∙ ap (λ v. flat_map (lists_of settings new) done ++ v) (append-nil (lists_of settings new c)))
              ∙ length-append (flat_map (lists_of settings new) done) (lists_of settings new c) in
              omega (arith, a.base, h.base, all, ap (λ v. length (flat_map (lists_of settings new) v)) taken));
        }

  pub root_walker : (nodes : List NodePlace) (rows : List ℕ) (turned : List Address) (w : Walker) → ((c : Address) → IsNode settings new c → is_among turned c ≡ not (branch_stays settings was new e c))
      → w.cells.items ≡ root_cell ∷ [] → w.sources.items ≡ map (source_in nodes turned) w.cells.items → w.places.items ≡ [] → w.under.items ≡ [] → w.node_slots.items ≡ [] → w.list_slots.items ≡ [] → w.spots.items ≡ []
      → w.lists.items ≡ [] → w.base ≡ 0 → IsWalker settings was new e nodes rows 0 w
  root_walker nodes rows turned w h cells sources places under node_slots list_slots spots lists base = record {
    walk = root_queue settings new w.cells.items cells;
    sources = sources ∙ turned_sources nodes turned w.cells.items h (subst (Each (IsNode settings new)) (sym cells) (root_node settings new, tt));
    places = places;
    under = under;
    node_slots = node_slots;
    list_slots = list_slots;
    spots = spots;
    lists = lists;
    base = base;
  }
