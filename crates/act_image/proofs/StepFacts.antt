-- The walk over all nodes, one node a step.
use Rattle.std.proofs.Common.{◌≡◌, ℕ, zero, suc, ◌+◌, ◌%◌, ◌<◌, ◌≤◌, sym, ap, ◌∙◌, subst, arith, List, [], ◌∷◌, ◌++◌, length, get_or, take, drop, inr}
use Rattle.std.specs.List.{AllByRecursion as Each, flat_map, sum_by}
use Rattle.std.proofs.lemmas.List.{append-nil, length-append, take-append-le, take_more, drop-append-le, drop_more, map-append}
use Rattle.std.proofs.lemmas.List.Concat.{flat_map-append}
use Rattle.std.proofs.lemmas.List.Sums.{sum_by-append, sum_by-cons}
use Rattle.act_grid.specs.declared.Settings.{Settings}
use Rattle.act_grid.specs.Cell.{Address, root_cell}
use Rattle.act_super.specs.declared.entry.State.{State}
use Rattle.act_super.specs.Nodes.{IsNode, ground_of, node_children, node_leaves}
use Rattle.act_probe.proofs.EntryFacts.{node_deep, root_node}
use Rattle.act_image.specs.declared.walk.Nodes.{Nodes}
use Rattle.act_image.specs.Paths.{IsQueue}
use Rattle.act_image.specs.Plans.{IsLeafOf, IsWalk, lists_of, nodes_from, places_from, spots_from, spots_of, under_of}
use Rattle.act_image.proofs.Leaves.{LeafIn, SplitIn, each_append, each_mono, leaves_are, node_reached, split_parted, splits_are}
use Rattle.act_image.proofs.WalkFacts.{node_first, nodes_are_under, sum_flat}

pub each_get : {X : Type 0} (P : X → Type 0) (xs : List X) (j : ℕ) (d : X) → Each P xs → j < length xs → P (get_or xs j d)
each_get P [] j d h low = absurd (omega (arith, low))
each_get P (x ∷ xs) zero d h low = h.0
each_get P (x ∷ xs) (suc j) d h low = each_get P xs j d h.1 (omega (arith, low))

module _ (settings : Settings) (state : State) where
  -- ---- the leaves and child nodes of a node
  module _ (c : Address) (node : IsNode settings state c) where
    deep : c.level ≤ 24
    deep = node_deep settings state c node

    pub leaves_of_it : Each (IsLeafOf c.level) (node_leaves settings state c)
    leaves_of_it =
        each_mono (LeafIn settings state c 4) (IsLeafOf c.level) (node_leaves settings state c)
        (λ l h. record { step = node.step; deep = deep; above = h.above; near = h.near })
        (leaves_are settings state 4 c node.cell (omega (arith, deep)) (node_reached settings state c node))

    children_in : Each (SplitIn settings state c 4) (node_children settings state c)
    children_in = splits_are settings state 4 c node.cell (omega (arith, deep)) (node_reached settings state c node)

    pub children_of_it : Each (IsLeafOf c.level) (node_children settings state c)
    children_of_it =
        each_mono (SplitIn settings state c 4) (IsLeafOf c.level) (node_children settings state c)
        (λ l h. record { step = node.step; deep = deep; above = omega (arith, h.level); near = omega (arith, h.level) }) children_in

    pub children_nodes : Each (IsNode settings state) (node_children settings state c)
    children_nodes =
        each_mono (SplitIn settings state c 4) (IsNode settings state) (node_children settings state c)
        (λ l h. record { cell = h.cell; step = (let e : l.level % 4 ≡ (c.level + 4) % 4 = ap (λ n. n % 4) h.level in omega (arith, e, node.step)); split = inr (split_parted settings state l h.cell h.reached h.split) }) children_in

  pub leaf_of_node : (c : Address) (leaves : List Address) (k : ℕ) → IsNode settings state c → leaves ≡ node_leaves settings state c → k < length leaves → IsLeafOf c.level (get_or leaves k root_cell)
  leaf_of_node c leaves k node is low = each_get (IsLeafOf c.level) leaves k root_cell (subst (Each (IsLeafOf c.level)) (sym is) (leaves_of_it c node)) low

  pub child_of_node : (c : Address) (children : List Address) (k : ℕ) → IsNode settings state c → children ≡ node_children settings state c → k < length children → IsLeafOf c.level (get_or children k root_cell)
  child_of_node c children k node is low = each_get (IsLeafOf c.level) children k root_cell (subst (Each (IsLeafOf c.level)) (sym is) (children_of_it c node)) low

  -- ---- one more node
  pub places_push : (base : ℕ) (cells : List Address) (c : Address)
      → places_from settings state base (cells ++ c ∷ []) ≡ places_from settings state base cells ++ record { cell = c; first = base + length (flat_map (lists_of settings state) cells); count = length (lists_of settings state c) } ∷ []
  places_push base [] c = let e : base ≡ base + 0 = omega arith in ap (λ n. record { cell = c; first = n; count = length (lists_of settings state c) } ∷ []) e
  places_push base (d ∷ cells) c =
      let e : base + length (lists_of settings state d) + length (flat_map (lists_of settings state) cells) ≡ base + length (lists_of settings state d ++ flat_map (lists_of settings state) cells) =
      omega (arith, length-append (lists_of settings state d) (flat_map (lists_of settings state) cells)) in
      ap (λ v. record { cell = d; first = base; count = length (lists_of settings state d) } ∷ v) (places_push (base + length (lists_of settings state d)) cells c
      ∙ ap (λ n. places_from settings state (base + length (lists_of settings state d)) cells ++ record { cell = c; first = n; count = length (lists_of settings state c) } ∷ []) e)

  spots_push : (base slot : ℕ) (cells : List Address) (c : Address)
      → spots_from settings state base slot (cells ++ c ∷ [])
      ≡ spots_from settings state base slot cells ++ spots_of settings state (base + length (flat_map (lists_of settings state) cells)) (slot + length (flat_map (node_children settings state) cells)) c ∷ []
  spots_push base slot [] c =
      let e : base ≡ base + 0 = omega arith in
      let f : slot ≡ slot + 0 = omega arith in
      λ i. spots_of settings state (e i) (f i) c ∷ []
  spots_push base slot (d ∷ cells) c =
      let e : base + length (lists_of settings state d) + length (flat_map (lists_of settings state) cells) ≡ base + length (lists_of settings state d ++ flat_map (lists_of settings state) cells) =
      omega (arith, length-append (lists_of settings state d) (flat_map (lists_of settings state) cells)) in
      let f : slot + length (node_children settings state d) + length (flat_map (node_children settings state) cells) ≡ slot + length (node_children settings state d ++ flat_map (node_children settings state) cells) =
      omega (arith, length-append (node_children settings state d) (flat_map (node_children settings state) cells)) in
      ap (λ v. spots_of settings state base slot d ∷ v) (spots_push (base + length (lists_of settings state d)) (slot + length (node_children settings state d)) cells c
      ∙ (λ i. spots_from settings state (base + length (lists_of settings state d)) (slot + length (node_children settings state d)) cells ++ spots_of settings state (e i) (f i) c ∷ []))

  -- ---- the queue
  pub root_queue : (cells : List Address) → cells ≡ root_cell ∷ [] → IsQueue settings state 0 cells
  root_queue cells is = record {
    within = omega arith;
    same = λ f. (
        let one = sum_by-cons (λ c. sum_by f (nodes_from settings state c)) root_cell [] in
        let all = ap (sum_by f) (nodes_are_under settings state) in
        let here = ap (sum_by (λ c. sum_by f (nodes_from settings state c))) is in
        omega (arith, one, all, here));
    are = subst (Each (IsNode settings state)) (sym is) (root_node settings state, tt);
    queue = is;
  }

  module _ (k : ℕ) (old new : List Address) (h : IsQueue settings state k old) (low : k < length old) (c : Address) (is : get_or old k root_cell ≡ c) where
    pub node_next : IsNode settings state c
    node_next = subst (IsNode settings state) is (each_get (IsNode settings state) old k root_cell h.are low)

    pub taken_next : new ≡ old ++ node_children settings state c → take (k + 1) new ≡ take k old ++ c ∷ []
    taken_next cells =
        ap (take (k + 1)) cells ∙ take-append-le (k + 1) old (node_children settings state c) (omega (arith, low)) ∙ take_more old k root_cell low ∙ ap (λ v. take k old ++ v ∷ []) is

    pub next_queue : new ≡ old ++ node_children settings state c → IsQueue settings state (k + 1) new
    next_queue cells =
        let children = node_children settings state c in
        let taken = taken_next cells in
        let left : drop (k + 1) new ≡ drop (k + 1) old ++ children = ap (drop (k + 1)) cells ∙ drop-append-le (k + 1) old children (omega (arith, low)) in
        let before : drop k old ≡ c ∷ drop (k + 1) old = drop_more old k root_cell low ∙ ap (λ v. v ∷ drop (k + 1) old) is in
        let node = node_next in
        let first = node_first (ground_of settings state) state.zones c node.step (node_deep settings state c node) in
        record {
          within = omega (arith, ap length cells, length-append old children, low);
          same = λ f. (
              let sum_c : sum_by f (nodes_from settings state c) ≡ f c + sum_by f (flat_map (nodes_from settings state) children) = ap (sum_by f) first ∙ sum_by-cons f c (flat_map (nodes_from settings state) children) in
              let below : sum_by f (flat_map (nodes_from settings state) children) ≡ sum_by (λ d. sum_by f (nodes_from settings state d)) children = sum_flat f (nodes_from settings state) children in
              let a : sum_by f (take (k + 1) new) ≡ sum_by f (take k old) + sum_by f (c ∷ []) = ap (sum_by f) taken ∙ sum_by-append f (take k old) (c ∷ []) in
              let one : sum_by f (c ∷ []) ≡ f c + sum_by f [] = sum_by-cons f c [] in
              let b : sum_by (λ d. sum_by f (nodes_from settings state d)) (drop (k + 1) new) ≡ sum_by (λ d. sum_by f (nodes_from settings state d)) (drop (k + 1) old) + sum_by (λ d. sum_by f (nodes_from settings state d)) children =
              ap (sum_by (λ d. sum_by f (nodes_from settings state d))) left ∙ sum_by-append (λ d. sum_by f (nodes_from settings state d)) (drop (k + 1) old) children in
              let e : sum_by (λ d. sum_by f (nodes_from settings state d)) (drop k old) ≡ sum_by f (nodes_from settings state c) + sum_by (λ d. sum_by f (nodes_from settings state d)) (drop (k + 1) old) =
              ap (sum_by (λ d. sum_by f (nodes_from settings state d))) before ∙ sum_by-cons (λ d. sum_by f (nodes_from settings state d)) c (drop (k + 1) old) in
              omega (arith, sum_c, below, a, one, b, e, h.same f));
          are = subst (Each (IsNode settings state)) (sym cells) (each_append (IsNode settings state) old children h.are (children_nodes c node));
          queue = (
              let more : flat_map (node_children settings state) (take (k + 1) new) ≡ flat_map (node_children settings state) (take k old) ++ children =
              ap (flat_map (node_children settings state)) taken ∙ flat_map-append (node_children settings state) (take k old) (c ∷ []) ∙ ap (λ v. flat_map (node_children settings state) (take k old) ++ v) (append-nil children) in
              cells ∙ ap (λ v. v ++ children) h.queue ∙ ap (λ v. root_cell ∷ v) (sym more));
        }

  queue_of : (k : ℕ) (nodes : Nodes) → IsWalk settings state k nodes → IsQueue settings state k nodes.cells.items
  queue_of k nodes h = record { within = h.within; same = h.same; are = h.are; queue = h.queue }

  pub root_walk : (nodes : Nodes) → nodes.cells.items ≡ root_cell ∷ [] → nodes.places.items ≡ [] → nodes.under.items ≡ [] → nodes.spots.items ≡ [] → nodes.lists.items ≡ [] → IsWalk settings state 0 nodes
  root_walk nodes cells places under spots lists =
      let q = root_queue nodes.cells.items cells in
      record { within = q.within; same = q.same; are = q.are; queue = q.queue; places = places; under = under; spots = spots; lists = lists }

  module _ (k : ℕ) (old new : Nodes) (h : IsWalk settings state k old) (low : k < length old.cells.items) (c : Address) (is : get_or old.cells.items k root_cell ≡ c) where
    pub node_there : IsNode settings state c
    node_there = node_next k old.cells.items new.cells.items (queue_of k old h) low c is

    abbrev done : List Address
    done = take k old.cells.items

    pub next_walk : new.cells.items ≡ old.cells.items ++ node_children settings state c
        → new.places.items ≡ old.places.items ++ record { cell = c; first = length old.lists.items; count = length (lists_of settings state c) } ∷ []
        → new.under.items ≡ old.under.items ++ length (node_children settings state c) ∷ []
        → new.spots.items ≡ old.spots.items ++ spots_of settings state (length old.lists.items) (length old.cells.items) c ∷ []
        → new.lists.items ≡ old.lists.items ++ lists_of settings state c → IsWalk settings state (k + 1) new
    next_walk cells places under spots lists =
        let taken = taken_next k old.cells.items new.cells.items (queue_of k old h) low c is cells in
        let q = next_queue k old.cells.items new.cells.items (queue_of k old h) low c is cells in
        let base : 0 + length (flat_map (lists_of settings state) done) ≡ length old.lists.items = omega (arith, ap length h.lists) in
        let slot : 1 + length (flat_map (node_children settings state) done) ≡ length old.cells.items = omega (arith, ap length h.queue) in
        record {
          within = q.within;
          same = q.same;
          are = q.are;
          queue = q.queue;
          places = places ∙ ap (λ v. v ++ record { cell = c; first = length old.lists.items; count = length (lists_of settings state c) } ∷ []) h.places
              ∙ sym (ap (places_from settings state 0) taken ∙ places_push 0 done c ∙ ap (λ n. places_from settings state 0 done ++ record { cell = c; first = n; count = length (lists_of settings state c) } ∷ []) base);
          under = under ∙ ap (λ v. v ++ length (node_children settings state c) ∷ []) h.under
              ∙ sym (ap (under_of settings state) taken ∙ map-append (λ d. length (node_children settings state d)) done (c ∷ []));
          spots = spots ∙ ap (λ v. v ++ spots_of settings state (length old.lists.items) (length old.cells.items) c ∷ []) h.spots
              ∙ sym (ap (spots_from settings state 0 1) taken ∙ spots_push 0 1 done c ∙ (λ i. spots_from settings state 0 1 done ++ spots_of settings state (base i) (slot i) c ∷ []));
          lists = lists ∙ ap (λ v. v ++ lists_of settings state c) h.lists
              ∙ sym (ap (flat_map (lists_of settings state)) taken ∙ flat_map-append (lists_of settings state) done (c ∷ []) ∙ ap (λ v. flat_map (lists_of settings state) done ++ v) (append-nil (lists_of settings state c)));
        }
