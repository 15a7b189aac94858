-- All nodes are walked: which of the nodes before stay.
use Rattle.std.proofs.Common.{◌≡◌, ℕ, zero, suc, ◌+◌, ◌<◌, ◌≤◌, ◌⊎◌, inl, inr, Bool, true, false, cond, ◌&&◌, ◌||◌, ◌==◌, refl, sym, ap, ◌∙◌, subst, arith, List, [], ◌∷◌, ◌++◌, Option, Some, None, length, get_or, map, take, drop}
use Rattle.std.specs.List.{AllByRecursion as Each, flat_map, sum_by}
use Rattle.std.proofs.lemmas.List.{drop_all, ext_get_or, get_or-map, length-map, take_all}
use Rattle.std.proofs.lemmas.List.Sums.{sum_by-cons}
use Rattle.act_grid.specs.declared.Settings.{Settings}
use Rattle.act_grid.specs.Cell.{Address, root_cell}
use Rattle.act_super.specs.declared.entry.Entry.{Entry}
use Rattle.act_super.specs.declared.entry.State.{State}
use Rattle.act_super.specs.Grounds.{same_cell}
use Rattle.act_super.specs.Nodes.{IsNode, is_parted, node_children, nodes_of}
use Rattle.act_probe.proofs.NodeFacts.{Among}
use Rattle.act_image.specs.declared.nodes.NodePlace.{NodePlace}
use Rattle.act_image.specs.declared.path.Path.{Path}
use Rattle.act_image.specs.declared.path.Walker.{Walker}
use Rattle.act_image.specs.Fresh.{branch_stays}
use Rattle.act_image.specs.Kept.{list_slots, node_slot}
use Rattle.act_image.specs.Paths.{IsOld, IsPath, IsWalker, StaysIn, has_source, is_kept, layout_of, own_lists, own_spots, source_of}
use Rattle.act_image.specs.Pics.{no_node, node_at}
use Rattle.act_image.specs.Plans.{lists_of, nodes_from, places_from}
use Rattle.act_image.proofs.BranchFacts.{branch_parts}
use Rattle.act_image.proofs.FillFacts.{same_is, same_self}
use Rattle.act_image.proofs.Leaves.{each_among}
use Rattle.act_image.proofs.PathTaken.{cell_at, many_nodes, node_stands, once, same_among, same_once}
use Rattle.act_image.proofs.PathWalk.{stood}
use Rattle.act_image.proofs.PlaceFacts.{at_among}
use Rattle.act_image.proofs.SubSums.{sub_sum}

both_true : (a b : Bool) → (a && b) ≡ true → (a ≡ true) × (b ≡ true)
both_true true b h = (refl, h)
both_true false b h = absurd (cc)

some_true : (a b : Bool) → (a || b) ≡ true → (a ≡ true) ⊎ (b ≡ true)
some_true true b h = inl refl
some_true false b h = inr h

right_true : (a b : Bool) → b ≡ true → (a || b) ≡ true
right_true true b h = refl
right_true false b h = h

module _ (settings : Settings) (state : State) (c : Address) where
  abbrev has_node : Bool
  has_node = same_cell c root_cell || is_parted settings state c

  node_has : IsNode settings state c → has_node ≡ true
  node_has node = by node.split
    where
      by : (c ≡ root_cell) ⊎ (is_parted settings state c ≡ true) → (same_cell c root_cell || is_parted settings state c) ≡ true
      by (inl root) = ap (λ b. b || is_parted settings state c) (same_self c root_cell root)
      by (inr parted) = right_true (same_cell c root_cell) (is_parted settings state c) parted

  has_split : (same_cell c root_cell ≡ true) ⊎ (is_parted settings state c ≡ true) → (c ≡ root_cell) ⊎ (is_parted settings state c ≡ true)
  has_split (inl same) = inl (same_is c root_cell same)
  has_split (inr parted) = inr parted

  node_in : (was : State) → IsNode settings was c → has_node ≡ true → IsNode settings state c
  node_in was node h = record { cell = node.cell; step = node.step; split = has_split (some_true (same_cell c root_cell) (is_parted settings state c) h) }

sum_places : (settings : Settings) (state : State) (g : Address → ℕ) (base : ℕ) (cells : List Address) → sum_by (λ (node : NodePlace). g node.cell) (places_from settings state base cells) ≡ sum_by g cells
sum_places settings state g base [] = refl
sum_places settings state g base (c ∷ cells) =
    let more = places_from settings state (base + length (lists_of settings state c)) cells in
    let one : sum_by (λ (node : NodePlace). g node.cell) (record { cell = c; first = base; count = length (lists_of settings state c) } ∷ more) ≡ g c + sum_by (λ (node : NodePlace). g node.cell) more =
    sum_by-cons (λ (node : NodePlace). g node.cell) (record { cell = c; first = base; count = length (lists_of settings state c) }) more in
    omega (arith, one, sum_by-cons g c cells, sum_places settings state g (base + length (lists_of settings state c)) cells)

module _ (settings : Settings) (was new : State) (e : Entry) (nodes : List NodePlace) (under rows : List ℕ) (before : List Address) (old : IsOld settings was nodes under rows before)
    (cells : List Address) (same : (f : Address → ℕ) → sum_by f cells ≡ sum_by f (nodes_of settings new)) (are : Each (IsNode settings new) cells) where
  node_of_cell : (c : Address) → Among cells c → IsNode settings new c
  node_of_cell c among = each_among (IsNode settings new) cells c are among

  stays_before : (c : Address) → Among cells c → branch_stays settings was new e c ≡ true → Among before c
  stays_before c among stay = same_among settings was before old.same c (branch_parts settings was new e c (node_of_cell c among) stay).0.was

  kept_is : (c : Address) → Among cells c → branch_stays settings was new e c ≡ true → is_kept settings was new e c ≡ true
  kept_is c among stay = ap (λ b. b && branch_stays settings was new e c) (node_has settings new c (node_of_cell c among)) ∙ stay

  kept_among : (c : Address) → Among before c → is_kept settings was new e c ≡ true → Among cells c × (branch_stays settings was new e c ≡ true)
  kept_among c among kept =
      let t = both_true (same_cell c root_cell || is_parted settings new c) (branch_stays settings was new e c) kept in
      let node = node_in settings new c was (each_among (IsNode settings was) before c old.are among) t.0 in
      (same_among settings new cells same c node, t.1)

  -- ---- what stays is as much before as after
  pub balanced : (f : Address → ℕ) → sum_by (λ c. cond (branch_stays settings was new e c) (f c) 0) cells ≡ sum_by (λ (node : NodePlace). cond (is_kept settings was new e node.cell) (f node.cell) 0) nodes
  balanced f =
      let g : Address → ℕ = λ c. cond (branch_stays settings was new e c) (f c) 0 in
      let h : Address → ℕ = λ c. cond (is_kept settings was new e c) (f c) 0 in
      let up = sub_sum h g cells before (same_once settings new cells same) (λ c among some. (
      let stay = some_stays c (branch_stays settings was new e c) some in
      let kept = kept_is c among stay in
      (stays_before c among stay, same_size c (branch_stays settings was new e c) (is_kept settings was new e c) stay kept))) in
      let down = sub_sum g h before cells (once settings was nodes under rows before old) (λ c among some. (
      let kept = some_stays c (is_kept settings was new e c) some in
      let t = kept_among c among kept in
      (t.0, same_size c (is_kept settings was new e c) (branch_stays settings was new e c) kept t.1))) in
      let places : sum_by (λ (node : NodePlace). h node.cell) nodes ≡ sum_by h before = ap (sum_by (λ (node : NodePlace). h node.cell)) old.nodes_are ∙ sum_places settings was h 0 before in
      omega (arith, up, down, places)
    where
      some_stays : (c : Address) (b : Bool) → 0 < cond b (f c) 0 → b ≡ true
      some_stays c true some = refl
      some_stays c false some = absurd (omega (arith, some))

      same_size : (c : Address) (a b : Bool) → a ≡ true → b ≡ true → cond a (f c) 0 ≤ cond b (f c) 0
      same_size c true true h k = omega arith
      same_size c true false h k = absurd (cc)
      same_size c false b h k = absurd (cc)

  -- ---- which nodes are sources
  has_there : (cs : List Address) (c : Address) (i : ℕ) → Among cs c → source_of settings was new e nodes c ≡ Some i → has_source (map (source_of settings was new e nodes) cs) i ≡ true
  has_there [] c i among is = absurd among
  has_there (d ∷ cs) c i (inl here) is =
      ap (λ s. has_source (s ∷ map (source_of settings was new e nodes) cs) i) (ap (source_of settings was new e nodes) here ∙ is) ∙ ap (λ b. b || has_source (map (source_of settings was new e nodes) cs) i) (Rattle.std.proofs.Common.eq-eqb i i refl)
  has_there (d ∷ cs) c i (inr more) is = by (source_of settings was new e nodes d) (has_there cs c i more is)
    where
      by : (s : Option ℕ) → has_source (map (source_of settings was new e nodes) cs) i ≡ true → has_source (s ∷ map (source_of settings was new e nodes) cs) i ≡ true
      by None h = h
      by (Some j) h = right_true (j == i) (has_source (map (source_of settings was new e nodes) cs) i) h

  record From (cs : List Address) (i : ℕ) : Type 0 where
    pub cell : Address
    pub among : Among cs cell
    pub is : source_of settings was new e nodes cell ≡ Some i

  more_from : (d : Address) (cs : List Address) (i : ℕ) → From cs i → From (d ∷ cs) i
  more_from d cs i f = record { cell = f.cell; among = inr f.among; is = f.is }

  has_from : (cs : List Address) (i : ℕ) → has_source (map (source_of settings was new e nodes) cs) i ≡ true → From cs i
  has_from [] i h = absurd (cc)
  has_from (d ∷ cs) i h = by (source_of settings was new e nodes d) refl h (λ more. more_from d cs i (has_from cs i more))
    where
      by : (s : Option ℕ) → source_of settings was new e nodes d ≡ s → has_source (s ∷ map (source_of settings was new e nodes) cs) i ≡ true → (has_source (map (source_of settings was new e nodes) cs) i ≡ true → From (d ∷ cs) i) → From (d ∷ cs) i
      by None is h more = more h
      by (Some j) is h more = elim (some_true (j == i) (has_source (map (source_of settings was new e nodes) cs) i) h) [
        | inl same ↦ record { cell = d; among = inl refl; is = is ∙ ap Some (number j same) }
        | inr rest ↦ more rest
      ]
        where
          number : (j : ℕ) → (j == i) ≡ true → j ≡ i
          number j same = grind (arith, Rattle.std.proofs.lemmas.Bool.Decides.nat_tests)

  source_is : (i : ℕ) → i < length before → has_source (map (source_of settings was new e nodes) cells) i ≡ is_kept settings was new e (get_or before i root_cell)
  source_is i low = by (is_kept settings was new e (get_or before i root_cell)) refl (has_source (map (source_of settings was new e nodes) cells) i) refl
    where
      yes : is_kept settings was new e (get_or before i root_cell) ≡ true → has_source (map (source_of settings was new e nodes) cells) i ≡ true
      yes kept =
          let d = get_or before i root_cell in
          let t = kept_among d (at_among before i low) kept in
          let s = node_stands settings was nodes under rows before old d (at_among before i low) in
          let at : node_at nodes d ≡ i = Rattle.act_image.proofs.PlaceFacts.one_place before (node_at nodes d) i (once settings was nodes under rows before old) s.within low s.cell in
          has_there cells d i t.0 (ap (λ b. cond b (Some (node_at nodes d)) None) t.1 ∙ ap Some at)

      no : has_source (map (source_of settings was new e nodes) cells) i ≡ true → is_kept settings was new e (get_or before i root_cell) ≡ true
      no has =
          let f = has_from cells i has in
          let s = stood settings was new e nodes f.cell i f.is in
          let t = node_stands settings was nodes under rows before old f.cell (stays_before f.cell f.among s.stay) in
          let here : f.cell ≡ get_or before i root_cell = sym t.cell ∙ ap (λ m. get_or before m root_cell) s.is in
          subst (λ d. is_kept settings was new e d ≡ true) here (kept_is f.cell f.among s.stay)

      by : (b : Bool) → is_kept settings was new e (get_or before i root_cell) ≡ b → (d : Bool) → has_source (map (source_of settings was new e nodes) cells) i ≡ d
          → has_source (map (source_of settings was new e nodes) cells) i ≡ is_kept settings was new e (get_or before i root_cell)
      by true kept d has = yes kept ∙ sym kept
      by false kept true has = has ∙ sym (no has)
      by false kept false has = has ∙ sym kept

  pub stays_as : (sources : List (Option ℕ)) (stays : List Bool) → sources ≡ map (source_of settings was new e nodes) cells → StaysIn sources (length nodes) stays → stays ≡ map (λ (node : NodePlace). is_kept settings was new e node.cell) nodes
  stays_as sources stays is s =
      let long = many_nodes settings was nodes under rows before old in
      ext_get_or false stays (map (λ (node : NodePlace). is_kept settings was new e node.cell) nodes) (s.count_is ∙ sym (length-map nodes (λ (node : NodePlace). is_kept settings was new e node.cell)))
      (λ i low. (
      let within : i < length nodes = omega (arith, low, s.count_is) in
      s.each i within ∙ ap (λ v. has_source v i) is ∙ source_is i (omega (arith, within, long)) ∙ ap (is_kept settings was new e) (sym (cell_at settings was nodes under rows before old i within))
      ∙ sym (get_or-map (λ (node : NodePlace). is_kept settings was new e node.cell) nodes i no_node false within)))

-- the path of a walker whose nodes are all walked
pub finished : (settings : Settings) (was new : State) (e : Entry) (nodes : List NodePlace) (under rows : List ℕ) (before : List Address) → IsOld settings was nodes under rows before → (w : Walker) (p : Path)
    → IsWalker settings was new e nodes rows (length w.cells.items) w → p.cells.items ≡ w.cells.items → p.places.items ≡ w.places.items → p.under.items ≡ w.under.items → p.node_slots.items ≡ w.node_slots.items
    → p.list_slots.items ≡ w.list_slots.items → p.spots.items ≡ w.spots.items → p.lists.items ≡ w.lists.items → StaysIn w.sources.items (length nodes) p.stays.items → IsPath settings was new e nodes rows p
finished settings was new e nodes under rows before old w p h cells_is places_is under_is node_slots_is list_slots_is spots_is lists_is marked =
    let cells = w.cells.items in
    let all : take (length cells) cells ≡ p.cells.items = take_all (length cells) cells (omega arith) ∙ sym cells_is in
    let none : drop (length cells) cells ≡ [] = drop_all (length cells) cells (omega arith) in
    let same : (f : Address → ℕ) → sum_by f p.cells.items ≡ sum_by f (nodes_of settings new) = λ f. (
    let front = ap (sum_by f) all in
    let back = ap (sum_by (λ x. sum_by f (nodes_from settings new x))) none in
    omega (arith, front, back, h.walk.same f)) in
    let are : Each (IsNode settings new) p.cells.items = subst (Each (IsNode settings new)) (sym cells_is) h.walk.are in
    record {
      same = same;
      are = are;
      queue = cells_is ∙ h.walk.queue ∙ ap (λ v. root_cell ∷ flat_map (node_children settings new) v) all;
      places = places_is ∙ h.places ∙ ap (places_from settings new 0) all;
      under = under_is ∙ h.under ∙ ap (map (λ c. length (node_children settings new c))) all;
      node_slots = node_slots_is ∙ h.node_slots ∙ ap (map (node_slot settings (layout_of nodes rows) was new e)) all;
      list_slots = list_slots_is ∙ h.list_slots ∙ ap (flat_map (list_slots settings (layout_of nodes rows) was new e)) all;
      spots = spots_is ∙ h.spots ∙ ap (own_spots settings was new e 0 1) all;
      lists = lists_is ∙ h.lists ∙ ap (flat_map (own_lists settings was new e)) all;
      stays_are = stays_as settings was new e nodes under rows before old p.cells.items same are w.sources.items p.stays.items (h.sources ∙ ap (map (source_of settings was new e nodes)) (sym cells_is)) marked;
      balance = balanced settings was new e nodes under rows before old p.cells.items same are;
    }
