-- A node that stays, with the nodes below it, is the one that stood before.
use Rattle.std.proofs.Common.{◌≡◌, ℕ, zero, suc, ◌+◌, ◌<◌, ◌≤◌, Bool, true, false, cond, refl, sym, ap, ◌∙◌, subst, arith, List, [], ◌∷◌, ◌++◌, Option, Some, None, nat_lt, length, get_or, map, take, drop}
use Rattle.std.specs.List.{AllByRecursion as Each, flat_map, sum_by}
use Rattle.std.proofs.lemmas.List.{append-nil, get_or-drop, get_or-map, get_or-take, length-append, length-map}
use Rattle.act_grid.specs.declared.Settings.{Settings}
use Rattle.act_grid.specs.Cell.{Address, root_cell}
use Rattle.act_super.specs.declared.entry.Entry.{Entry}
use Rattle.act_super.specs.declared.entry.State.{State}
use Rattle.act_super.specs.declared.entry.Zone.{Zone}
use Rattle.act_super.specs.Nodes.{IsNode, ground_of, node_children, node_leaves, nodes_of}
use Rattle.act_super.specs.Packs.{list_words}
use Rattle.act_super.specs.Sizes.{refs_of}
use Rattle.act_probe.proofs.NodeFacts.{Among, node_listed}
use Rattle.act_probe.proofs.WayFacts.{root_is}
use Rattle.act_image.specs.declared.lists.Fill.{Fill}
use Rattle.act_image.specs.declared.lists.ListWord.{ListWord}
use Rattle.act_image.specs.declared.nodes.NodePlace.{NodePlace}
use Rattle.act_image.specs.declared.path.Walker.{Walker}
use Rattle.act_image.specs.declared.slots.Slot.TheVariants as slot
use Rattle.act_image.specs.Fresh.{branch_stays}
use Rattle.act_image.specs.Kept.{kept_slots, new_slots}
use Rattle.act_image.specs.Paths.{HaveOwnCells, IsOld, IsTaken, IsThere, IsWalker, layout_of, places_on, source_of, starts_from}
use Rattle.act_image.specs.Pics.{no_node, node_at, node_of, part_of}
use Rattle.act_image.specs.Plans.{behind_last, filled, lists_of, no_fill, places_from, put_list, put_lists, refs_on, spots_of, words_in}
use Rattle.act_image.proofs.BranchFacts.{Stayed, branch_parts}
use Rattle.act_image.proofs.PackFacts.{NoTwice}
use Rattle.act_image.proofs.PathWalk.{Adds, next_walker, node_there, source_read, stood}
use Rattle.act_image.proofs.PlaceFacts.{at_among, count_once, count_some, flat_within, found, is_cell, once_count, one_place, place_at, places_length, some_count}
use Rattle.act_image.proofs.WalkFacts.{nodes_are_under, under_once}

-- ---- the list rows of the same references
behind_long : (rows : List (List ListWord)) (words : List ListWord) → length (behind_last rows words) ≡ length rows
behind_long [] words = refl
behind_long (row ∷ []) words = refl
behind_long (row ∷ (next ∷ rows)) words = ap suc (behind_long (next ∷ rows) words)

one_long : (b d : Bool) (rows more : List (List ListWord)) (words others : List ListWord) → length rows ≡ length more
    → length (cond b rows (cond d (rows ++ words ∷ []) (behind_last rows words))) ≡ length (cond b more (cond d (more ++ others ∷ []) (behind_last more others)))
one_long true d rows more words others h = h
one_long false true rows more words others h = omega (arith, length-append rows (words ∷ []), length-append more (others ∷ []), h)
one_long false false rows more words others h = behind_long rows words ∙ h ∙ sym (behind_long more others)

put_long : (zones others : List Zone) (leaves : List Address) (s : Fill) (rows more : List (List ListWord)) → length rows ≡ length more → Each (λ leaf. refs_of zones leaf ≡ refs_of others leaf) leaves
    → length (put_lists zones s rows leaves) ≡ length (put_lists others s more leaves)
put_long zones others [] s rows more long h = long
put_long zones others (leaf ∷ leaves) s rows more long h =
    let n = length (refs_of zones leaf) in
    let count : length (refs_of zones leaf) ≡ length (refs_of others leaf) = ap length h.0 in
    put_long zones others leaves (filled s n) (put_list s n rows (refs_on zones leaf)) (put_list s n more (refs_on others leaf))
    (one_long (nat_lt n 3) (nat_lt 256 (s.at + list_words n)) rows more (words_in (refs_on zones leaf)) (words_in (refs_on others leaf)) long) h.1
    ∙ ap (λ m. length (put_lists others (filled s m) (put_list s m more (refs_on others leaf)) leaves)) count

lists_long : (settings : Settings) (was new : State) (c : Address) → node_leaves settings was c ≡ node_leaves settings new c → Each (λ leaf. refs_of was.zones leaf ≡ refs_of new.zones leaf) (node_leaves settings new c)
    → length (lists_of settings was c) ≡ length (lists_of settings new c)
unfolding lists_of
lists_long settings was new c leaves refs = ap (λ v. length (put_lists was.zones no_fill [] v)) leaves ∙ put_long was.zones new.zones (node_leaves settings new c) no_fill [] [] refl refs

-- ---- lists of lists, one behind the other
starts_length : (under : List ℕ) (next : ℕ) → length (starts_from next under) ≡ length under
starts_length [] next = refl
starts_length (n ∷ under) next = ap suc (starts_length under (next + n))

module _ {X Y : Type 0} (f : X → List Y) where
  starts_at : (xs : List X) (j next : ℕ) → j < length xs → get_or (starts_from next (map (λ x. length (f x)) xs)) j 0 ≡ next + length (flat_map f (take j xs))
  starts_at [] j next low = absurd (omega (arith, low))
  starts_at (x ∷ xs) zero next low = omega arith
  starts_at (x ∷ xs) (suc j) next low = omega (arith, starts_at xs j (next + length (f x)) (omega (arith, low)), length-append (f x) (flat_map f (take j xs)))

take_front : {Y : Type 0} (ys zs : List Y) → take (length ys) (ys ++ zs) ≡ ys
take_front [] zs = refl
take_front (y ∷ ys) zs = ap (λ v. y ∷ v) (take_front ys zs)

drop_front : {Y : Type 0} (ys zs : List Y) (n : ℕ) → drop (length ys + n) (ys ++ zs) ≡ drop n zs
drop_front [] zs n = let e : 0 + n ≡ n = omega arith in ap (λ m. drop m zs) e
drop_front (y ∷ ys) zs n = let e : suc (length ys) + n ≡ suc (length ys + n) = omega arith in ap (λ m. drop m (y ∷ (ys ++ zs))) e ∙ drop_front ys zs n

piece_at : {X Y : Type 0} (f : X → List Y) (xs : List X) (j : ℕ) (d : X) → j < length xs → take (length (f (get_or xs j d))) (drop (length (flat_map f (take j xs))) (flat_map f xs)) ≡ f (get_or xs j d)
piece_at f [] j d low = absurd (omega (arith, low))
piece_at f (x ∷ xs) zero d low = take_front (f x) (flat_map f xs)
piece_at f (x ∷ xs) (suc j) d low =
    ap (λ n. take (length (f (get_or xs j d))) (drop n (f x ++ flat_map f xs))) (length-append (f x) (flat_map f (take j xs)))
    ∙ ap (take (length (f (get_or xs j d)))) (drop_front (f x) (flat_map f xs) (length (flat_map f (take j xs)))) ∙ piece_at f xs j d (omega (arith, low))

map_piece : {X Y : Type 0} (f : X → Y) (xs : List X) (start n : ℕ) → map f (take n (drop start xs)) ≡ take n (drop start (map f xs))
map_piece f [] start n = none start n
  where
    none : (start n : ℕ) → map f (take n (drop start [])) ≡ take n (drop start [])
    none zero zero = refl
    none zero (suc n) = refl
    none (suc start) zero = refl
    none (suc start) (suc n) = refl
map_piece f (x ∷ xs) zero zero = refl
map_piece f (x ∷ xs) zero (suc n) = ap (λ v. f x ∷ v) (map_piece f xs 0 n)
map_piece f (x ∷ xs) (suc start) n = map_piece f xs start n

cells_of_places : (settings : Settings) (state : State) (base : ℕ) (cells : List Address) → map (λ (node : NodePlace). node.cell) (places_from settings state base cells) ≡ cells
cells_of_places settings state base [] = refl
cells_of_places settings state base (c ∷ cells) = ap (λ v. c ∷ v) (cells_of_places settings state (base + length (lists_of settings state c)) cells)

-- ---- the cells of all nodes
module _ (settings : Settings) (state : State) (cells : List Address) (same : (f : Address → ℕ) → sum_by f cells ≡ sum_by f (nodes_of settings state)) where
  pub same_once : NoTwice cells
  same_once = once_count cells (λ c. omega (arith, same (is_cell c), count_once (nodes_of settings state) nodes_once c))
    where
      nodes_once : NoTwice (nodes_of settings state)
      nodes_once = subst NoTwice (sym (nodes_are_under settings state)) (under_once (ground_of settings state) state.zones 28 root_cell root_is refl)

  pub same_among : (c : Address) → IsNode settings state c → Among cells c
  same_among c node = some_count cells c (omega (arith, same (is_cell c), count_some (nodes_of settings state) c (node_listed settings state c node)))

module _ (settings : Settings) (was : State) (nodes : List NodePlace) (under rows : List ℕ) (cells : List Address) (old : IsOld settings was nodes under rows cells) where
  pub once : NoTwice cells
  once = same_once settings was cells old.same

  pub many_nodes : length nodes ≡ length cells
  many_nodes = ap length old.nodes_are ∙ places_length settings was 0 cells

  pub cells_are : map (λ (node : NodePlace). node.cell) nodes ≡ cells
  cells_are = ap (map (λ (node : NodePlace). node.cell)) old.nodes_are ∙ cells_of_places settings was 0 cells

  pub cell_at : (i : ℕ) → i < length nodes → (get_or nodes i no_node).cell ≡ get_or cells i root_cell
  cell_at i low = sym (get_or-map (λ (node : NodePlace). node.cell) nodes i no_node root_cell low) ∙ ap (λ v. get_or v i root_cell) cells_are

  pub own_cells : HaveOwnCells nodes
  own_cells = λ i j h k e. one_place cells i j once (omega (arith, h, many_nodes)) (omega (arith, k, many_nodes)) (sym (cell_at i h) ∙ e ∙ cell_at j k)

  pub record Stands (c : Address) : Type 0 where
    pub within : node_at nodes c < length cells
    pub cell : get_or cells (node_at nodes c) root_cell ≡ c
    pub node : get_or nodes (node_at nodes c) no_node ≡ record { cell = c; first = length (flat_map (lists_of settings was) (take (node_at nodes c) cells)); count = length (lists_of settings was c) }
    pub same : node_of nodes c ≡ get_or nodes (node_at nodes c) no_node

  pub node_stands : (c : Address) → Among cells c → Stands c
  node_stands c among =
      let f = found settings was 0 cells c among in
      let j = node_at (places_from settings was 0 cells) c in
      let at : node_at nodes c ≡ node_at (places_from settings was 0 cells) c = ap (λ v. node_at v c) old.nodes_are in
      let none : 0 + length (flat_map (lists_of settings was) (take j cells)) ≡ length (flat_map (lists_of settings was) (take j cells)) = omega arith in
      let first : 0 + length (flat_map (lists_of settings was) (take j cells)) ≡ length (flat_map (lists_of settings was) (take (node_at nodes c) cells)) = none ∙ ap (λ m. length (flat_map (lists_of settings was) (take m cells))) (sym at) in
      let here : get_or nodes (node_at nodes c) no_node ≡ get_or (places_from settings was 0 cells) j no_node = λ i. get_or (old.nodes_are i) (at i) no_node in
      record {
        within = omega (arith, f.within, at);
        cell = ap (λ m. get_or cells m root_cell) at ∙ f.cell;
        node = here ∙ place_at settings was 0 cells j f.within ∙ (λ i. record { cell = f.cell i; first = first i; count = length (lists_of settings was (f.cell i)) });
        same = ap (λ v. node_of v c) old.nodes_are ∙ f.node ∙ sym here;
      }

  -- ---- a node whose branch stays
  module _ (new : State) (e : Entry) where
    sources_on : (ds : List Address) (first : ℕ) → first + length ds ≤ length cells → ((k : ℕ) → k < length ds → get_or cells (first + k) root_cell ≡ get_or ds k root_cell) → Each (λ d. branch_stays settings was new e d ≡ true) ds
        → places_on first (length ds) ≡ map (source_of settings was new e nodes) ds
    sources_on [] first within h stay = refl
    sources_on (d ∷ ds) first within h stay =
        let none : first + 0 ≡ first = omega arith in
        let at : get_or cells first root_cell ≡ d = ap (λ m. get_or cells m root_cell) (sym none) ∙ h 0 (omega arith) in
        let low : first < length cells = omega (arith, within) in
        let s = node_stands d (subst (Among cells) at (at_among cells first low)) in
        let is : first ≡ node_at nodes d = one_place cells first (node_at nodes d) once low s.within (at ∙ sym s.cell) in
        let own : Some first ≡ source_of settings was new e nodes d = ap Some is ∙ ap (λ b. cond b (Some (node_at nodes d)) None) (sym stay.0) in
        let next : (k : ℕ) → k < length ds → get_or cells (first + 1 + k) root_cell ≡ get_or ds k root_cell = λ k small. (
        let same : first + 1 + k ≡ first + suc k = omega arith in
        ap (λ m. get_or cells m root_cell) same ∙ h (suc k) (omega (arith, small))) in
        let rest = sources_on ds (first + 1) (omega (arith, within)) next stay.1 in
        λ i. own i ∷ rest i

    module _ (c : Address) (node : IsNode settings new c) (stay : branch_stays settings was new e c ≡ true) where
      was_there : Stayed settings was new e c
      was_there = (branch_parts settings was new e c node stay).0

      pub stands : Stands c
      stands = node_stands c (same_among settings was cells old.same c was_there.was)

      abbrev pub j : ℕ
      j = node_at nodes c

      under_at : get_or under j 0 ≡ length (node_children settings was c)
      under_at =
          ap (λ v. get_or v j 0) old.under_are ∙ get_or-map (λ d. length (node_children settings was d)) cells j root_cell 0 stands.within ∙ ap (λ d. length (node_children settings was d)) stands.cell

      abbrev pub lists_before : ℕ
      lists_before = length (flat_map (lists_of settings was) (take j cells))

      abbrev pub nodes_before : ℕ
      nodes_before = length (flat_map (node_children settings was) (take j cells))

      pub start_at : (starts : List ℕ) → starts ≡ starts_from 1 under → get_or starts j 0 ≡ 1 + nodes_before
      start_at starts is =
          ap (λ v. get_or v j 0) (is ∙ ap (starts_from 1) old.under_are) ∙ starts_at (node_children settings was) cells j 1 stands.within

      pub is_there : (starts : List ℕ) → starts ≡ starts_from 1 under → IsThere nodes under rows j (get_or starts j 0)
      is_there starts is = record {
        within = omega (arith, stands.within, many_nodes);
        counted = ap length old.under_are ∙ length-map cells (λ d. length (node_children settings was d)) ∙ sym many_nodes;
        below = (
            let inside = flat_within (node_children settings was) cells j root_cell stands.within in
            omega (arith, start_at starts is, under_at, inside, ap (λ d. length (node_children settings was d)) stands.cell, ap length old.queue, many_nodes));
        lists = (
            let inside = flat_within (lists_of settings was) cells j root_cell stands.within in
            let first : (get_or nodes j no_node).first ≡ lists_before = ap (λ (n : NodePlace). n.first) stands.node in
            let count : (get_or nodes j no_node).count ≡ length (lists_of settings was c) = ap (λ (n : NodePlace). n.count) stands.node in
            omega (arith, first, count, inside, ap (λ d. length (lists_of settings was d)) stands.cell, old.enough));
      }

      children_at : (start : ℕ) → start ≡ 1 + nodes_before → take (get_or under j 0) (drop start cells) ≡ node_children settings new c
      children_at start is =
          let one : start ≡ suc nodes_before = omega (arith, is) in
          (λ i. take (under_at i) (drop (one i) (old.queue i))) ∙ ap (λ d. take (length (node_children settings was d)) (drop nodes_before (flat_map (node_children settings was) cells))) (sym stands.cell)
          ∙ piece_at (node_children settings was) cells j root_cell stands.within ∙ ap (node_children settings was) stands.cell ∙ was_there.children

      children_get : (start : ℕ) → start ≡ 1 + nodes_before → (k : ℕ) → k < length (node_children settings new c) → get_or cells (start + k) root_cell ≡ get_or (node_children settings new c) k root_cell
      children_get start is k low =
          let small : k < get_or under j 0 = omega (arith, low, under_at, ap length was_there.children) in
          sym (get_or-drop start cells k root_cell) ∙ sym (get_or-take (get_or under j 0) (drop start cells) k root_cell small) ∙ ap (λ v. get_or v k root_cell) (children_at start is)

      pub takes : (start : ℕ) (w v : Walker) → start ≡ 1 + nodes_before → start + get_or under j 0 ≤ length nodes → IsTaken nodes under rows j start w v → Adds settings was new e nodes rows c w v
      takes start w v is below t =
          let many : get_or under j 0 ≡ length (node_children settings new c) = under_at ∙ ap length was_there.children in
          let cell : (get_or nodes j no_node).cell ≡ c = ap (λ (n : NodePlace). n.cell) stands.node in
          let count : (get_or nodes j no_node).count ≡ length (lists_of settings new c) =
          ap (λ (n : NodePlace). n.count) stands.node ∙ lists_long settings was new c was_there.leaves was_there.refs in
          record {
            cells = t.cells ∙ ap (λ x. w.cells.items ++ x) (map_piece (λ (n : NodePlace). n.cell) nodes start (get_or under j 0) ∙ ap (λ x. take (get_or under j 0) (drop start x)) cells_are ∙ children_at start is);
            sources = t.sources ∙ ap (λ x. w.sources.items ++ x) (ap (places_on start) many
                ∙ sources_on (node_children settings new c) start (omega (arith, below, many, many_nodes)) (children_get start is) (branch_parts settings was new e c node stay).1);
            places = t.places ∙ (λ i. w.places.items ++ record { cell = cell i; first = w.base; count = count i } ∷ []);
            under = t.under_is ∙ ap (λ n. w.under.items ++ n ∷ []) many;
            node_slots = t.node_slots ∙ ap (λ b. w.node_slots.items ++ cond b (slot.Kept (get_or rows j 0)) slot.New ∷ []) (sym stay);
            list_slots = t.list_slots ∙ ap (λ (n : NodePlace). w.list_slots.items ++ kept_slots (part_of rows (length nodes + n.first) n.count)) (sym stands.same)
                ∙ ap (λ b. w.list_slots.items ++ cond b (kept_slots ((layout_of nodes rows).lists c)) (new_slots (length (lists_of settings new c)))) (sym stay);
            spots = t.spots ∙ sym (append-nil w.spots.items) ∙ ap (λ b. w.spots.items ++ cond b [] (spots_of settings new w.base (length w.cells.items) c ∷ [])) (sym stay);
            lists = t.lists ∙ sym (append-nil w.lists.items) ∙ ap (λ b. w.lists.items ++ cond b [] (lists_of settings new c)) (sym stay);
            base = omega (arith, t.base, count);
          }

    -- the step that takes a node
    pub record StepAt (k : ℕ) (w : Walker) (starts : List ℕ) (at : ℕ) : Type 0 where
      pub within : at < length starts
      pub there : IsThere nodes under rows at (get_or starts at 0)
      pub walks : (v : Walker) → IsTaken nodes under rows at (get_or starts at 0) w v → IsWalker settings was new e nodes rows (k + 1) v

    pub step_at : (k : ℕ) (w : Walker) (starts : List ℕ) (at : ℕ) (x : Option ℕ) → IsWalker settings was new e nodes rows k w → k < length w.cells.items → starts ≡ starts_from 1 under → x ≡ get_or w.sources.items k x → x ≡ Some at
        → StepAt k w starts at
    step_at k w starts at x h low is read source =
        let c = get_or w.cells.items k root_cell in
        let node = node_there settings was new e nodes rows k w h low c refl in
        let s = stood settings was new e nodes c at (sym (source_read settings was new e nodes rows k w h low c refl x read) ∙ source) in
        let there = is_there c node s.stay starts is in
        subst (StepAt k w starts) s.is (record {
          within = omega (arith, there.within, there.counted, ap length is, starts_length under 1);
          there = there;
          walks = λ v t. next_walker settings was new e nodes rows k w h low c refl v (takes c node s.stay (get_or starts (node_at nodes c) 0) w v (start_at c node s.stay starts is) there.below t);
        })
