-- The nodes that don't stay, from each node to its child nodes.
use Rattle.std.proofs.Common.{◌≡◌, ℕ, zero, suc, ◌+◌, ◌%◌, ◌^◌, ◌<◌, ◌≤◌, ◌⊎◌, inl, inr, Bool, true, false, not, cond, refl, sym, ap, ◌∙◌, subst, arith, append-nil, append_assoc, List, [], ◌∷◌, ◌++◌, ◌&&◌, ◌||◌, get_or, length, nat_lt, take}
use Rattle.std.specs.List.{AllByRecursion as Each, filter, flat_map, list_all}
use Rattle.std.proofs.lemmas.Bool.{ltb-true}
use Rattle.std.proofs.lemmas.Bool.Decides.{nat_tests}
use Rattle.std.proofs.lemmas.List.{take_more, take-append-le, take_all}
use Rattle.std.proofs.lemmas.List.Concat.{flat_map-append}
use Rattle.std.proofs.lemmas.List.Elements.{filter-append}
use Rattle.std.proofs.lemmas.List.Folds.{list_all-append}
use Rattle.act_grid.specs.declared.Settings.{Settings}
use Rattle.act_grid.specs.Hull.{IsIn}
use Rattle.act_grid.specs.Cell.{Address, IsCell, IsPart, hull_of, root_cell}
use Rattle.act_grid.proofs.CellOrder.{in_within, part_from_point, part_within}
use Rattle.act_super.specs.declared.entry.Entry.{Entry}
use Rattle.act_super.specs.declared.entry.State.{State}
use Rattle.act_super.specs.Grounds.{is_among, same_cell}
use Rattle.act_super.specs.Laws.{IsLeaf}
use Rattle.act_super.specs.Nodes.{IsNode, first_leaf, ground_of, is_parted, node_children, node_leaves, nodes_of}
use Rattle.act_super.specs.States.{after}
use Rattle.act_probe.proofs.EntryFacts.{node_deep}
use Rattle.act_probe.proofs.NodeFacts.{Among, node_listed}
use Rattle.act_probe.proofs.WayFacts.{first_in}
use Rattle.act_image.specs.Fresh.{branch_stays, leaf_stays, same_cells}
use Rattle.act_image.specs.Plans.{nodes_from}
use Rattle.act_image.specs.Turned.{is_free, turned_under}
use Rattle.act_image.proofs.BranchFacts.{branch_is, branch_parts}
use Rattle.act_image.proofs.ClearFacts.{leaf_is}
use Rattle.act_image.proofs.FillFacts.{same_is}
use Rattle.act_image.proofs.Leaves.{Held, LeafIn, SplitIn, covered, each_among, first_is_leaf, first_holds, first_leaf_is, leaves_are, node_reached, splits_are}
use Rattle.act_image.proofs.PruneFacts.{Within, each_both, stood_so}
use Rattle.act_image.proofs.StepFacts.{children_nodes}
use Rattle.act_image.proofs.WalkFacts.{node_first, nodes_are_under}

-- ---- lists
flat_filter : {X : Type 0} (p : X → Bool) (f : X → List X) (xs : List X) → filter p (flat_map f xs) ≡ flat_map (λ x. filter p (f x)) xs
flat_filter p f [] = refl
flat_filter p f (x ∷ xs) = filter-append p (f x) (flat_map f xs) ∙ ap (λ r. filter p (f x) ++ r) (flat_filter p f xs)

flat_none : {X Y : Type 0} (f : X → List Y) (xs : List X) → Each (λ x. f x ≡ []) xs → flat_map f xs ≡ []
flat_none f [] h = refl
flat_none f (x ∷ xs) h = λ i. h.0 i ++ flat_none f xs h.1 i

or_true : (b : Bool) → (b || true) ≡ true
or_true true = refl
or_true false = refl

same_self : (c : Address) → same_cell c c ≡ true
same_self c = rw (Rattle.std.proofs.Common.eq-eqb c.level c.level refl, Rattle.std.proofs.Common.eq-eqb c.path c.path refl) refl

pub among_is : (xs : List Address) (c : Address) → is_among xs c ≡ true → Among xs c
among_is [] c h = absurd (cc)
among_is (x ∷ xs) c h = by (same_cell x c) refl (among_is xs c) h
  where
    by : (b : Bool) → same_cell x c ≡ b → (is_among xs c ≡ true → Among xs c) → (b || is_among xs c) ≡ true → (x ≡ c) ⊎ Among xs c
    by true e more h = inl (same_is x c e)
    by false e more h = inr (more h)

pub is_there : (xs : List Address) (c : Address) → Among xs c → is_among xs c ≡ true
is_there [] c h = absurd h
is_there (x ∷ xs) c (inl same) = ap (λ b. b || is_among xs c) (ap (λ d. same_cell d c) same ∙ same_self c)
is_there (x ∷ xs) c (inr more) = ap (λ b. same_cell x c || b) (is_there xs c more) ∙ or_true (same_cell x c)

-- a cell of a list is among those that pass a test where it passes
filter_none : (p : Address → Bool) (xs : List Address) (c : Address) → p c ≡ false → is_among (filter p xs) c ≡ false
filter_none p [] c fails = refl
filter_none p (x ∷ xs) c fails = by (p x) refl (filter_none p xs c fails)
  where
    by : (b : Bool) → p x ≡ b → is_among (filter p xs) c ≡ false → is_among (cond b (x ∷ filter p xs) (filter p xs)) c ≡ false
    by true e rest = here (same_cell x c) refl
      where
        here : (a : Bool) → same_cell x c ≡ a → (a || is_among (filter p xs) c) ≡ false
        here true same = let clash : true ≡ false = sym e ∙ ap p (same_is x c same) ∙ fails in absurd (cc)
        here false same = rest
    by false e rest = rest

filter_some : (p : Address → Bool) (xs : List Address) (c : Address) → p c ≡ true → Among xs c → is_among (filter p xs) c ≡ true
filter_some p [] c passes h = absurd h
filter_some p (x ∷ xs) c passes (inl same) =
    let here : p x ≡ true = ap p same ∙ passes in
    ap (λ b. is_among (cond b (x ∷ filter p xs) (filter p xs)) c) here ∙ ap (λ b. b || is_among (filter p xs) c) (ap (λ d. same_cell d c) same ∙ same_self c)
filter_some p (x ∷ xs) c passes (inr more) = by (p x) (filter_some p xs c passes more)
  where
    by : (b : Bool) → is_among (filter p xs) c ≡ true → is_among (cond b (x ∷ filter p xs) (filter p xs)) c ≡ true
    by true rest = ap (λ b. same_cell x c || b) rest ∙ or_true (same_cell x c)
    by false rest = rest

filter_among : (p : Address → Bool) (xs : List Address) (c : Address) → Among xs c → is_among (filter p xs) c ≡ p c
filter_among p xs c h = by (p c) refl
  where
    by : (b : Bool) → p c ≡ b → is_among (filter p xs) c ≡ b
    by true e = filter_some p xs c e h
    by false e = filter_none p xs c e

-- ---- nodes of a state, from below
module _ (settings : Settings) (state : State) where
  lt : (a b : ℕ) → a < b → nat_lt a b ≡ true
  lt a b h = grind (arith, nat_tests)

  sides : (a b : ℕ) → (a < b) ⊎ (b ≤ a)
  sides a b = grind arith

  -- a cell that holds a parted cell is parted
  parted_up : (c d : Address) → IsCell c → Within c d → is_parted settings state d ≡ true → is_parted settings state c ≡ true
  parted_up c d cell w parted = by (sides c.level (first_leaf settings state c).level)
    where
      deep : d.level < (first_leaf settings state d).level
      deep = ltb-true d.level (first_leaf settings state d).level parted

      low_leaf : IsLeaf settings state (first_leaf settings state d)
      low_leaf = first_is_leaf settings state d w.cell

      high_leaf : IsLeaf settings state (first_leaf settings state c)
      high_leaf = first_is_leaf settings state c cell

      never : (b : Bool) → b ≡ true → b ≡ false → ⊥
      never b e f = cc

      by : (c.level < (first_leaf settings state c).level) ⊎ ((first_leaf settings state c).level ≤ c.level) → is_parted settings state c ≡ true
      by (inl less) = lt c.level (first_leaf settings state c).level less
      by (inr high) =
          let part : IsPart (first_leaf settings state c) c = part_from_point (first_leaf settings state c) c (hull_of c).lo high_leaf.cell cell high (first_holds settings state c cell) (first_in c cell) in
          let inside : IsIn (hull_of (first_leaf settings state c)) (hull_of d).lo = in_within (hull_of (first_leaf settings state c)) (hull_of c) (hull_of d).lo (part_within (first_leaf settings state c) c high_leaf.cell cell part) w.inside in
          let below : IsPart (first_leaf settings state c) (first_leaf settings state d) =
          part_from_point (first_leaf settings state c) (first_leaf settings state d) (hull_of d).lo high_leaf.cell low_leaf.cell (omega (arith, high, w.above, deep)) inside (first_holds settings state d w.cell) in
          absurd (never _ (low_leaf.reached (first_leaf settings state c) below (omega (arith, high, w.above, deep))) high_leaf.whole)

  pub node_up : (c d : Address) → IsCell c → c.level % 4 ≡ 0 → Within c d → IsNode settings state d → IsNode settings state c
  node_up c d cell step w node = record { cell = cell; step = step; split = by node.split }
    where
      top : (m p : ℕ) → m ≡ 0 → p < 4 ^ m → p ≡ 0
      top m p e h = let one : p < 4 ^ 0 = subst (λ n. p < 4 ^ n) e h in omega (arith, one)

      by : (d ≡ root_cell) ⊎ (is_parted settings state d ≡ true) → (c ≡ root_cell) ⊎ (is_parted settings state c ≡ true)
      by (inl same) =
          let level : c.level ≡ 0 = omega (arith, w.above, ap (λ (a : Address). a.level) same) in
          inl (λ i. record { level = level i; path = top c.level c.path level cell.short i })
      by (inr parted) = inr (parted_up c d cell w parted)

  -- a node four levels below a node is one of its child nodes
  pub node_child : (c d : Address) → IsNode settings state c → IsNode settings state d → Within c d → d.level ≡ c.level + 4 → is_among (node_children settings state c) d ≡ true
  node_child c d node under w level = by (covered settings state 4 c d node.cell w.cell (omega (arith, node_deep settings state c node)) level w.inside)
    where
      leaves : Each (LeafIn settings state c 4) (node_leaves settings state c)
      leaves = leaves_are settings state 4 c node.cell (omega (arith, node_deep settings state c node)) (node_reached settings state c node)

      by : Held settings state (node_leaves settings state c) d ⊎ Among (node_children settings state c) d → is_among (node_children settings state c) d ≡ true
      by (inr among) = is_there (node_children settings state c) d among
      by (inl held) = elim under.split [
        | inl same ↦ absurd (omega (arith, level, ap (λ (a : Address). a.level) same))
        | inr parted ↦
            let leaf : LeafIn settings state c 4 held.leaf = each_among (LeafIn settings state c 4) (node_leaves settings state c) held.leaf leaves held.among in
            let is : first_leaf settings state d ≡ held.leaf = first_leaf_is settings state d held.leaf w.cell leaf.leaf held.inside in
            let more : d.level < (first_leaf settings state d).level = ltb-true d.level (first_leaf settings state d).level parted in
            absurd (omega (arith, more, level, leaf.near, ap (λ (a : Address). a.level) is))
      ]

-- ---- the nodes that don't stay
module _ (settings : Settings) (old : State) (e : Entry) where
  abbrev pub new : State
  new = after settings old e

  abbrev pub stays : Address → Bool
  stays c = branch_stays settings old (after settings old e) e c

  abbrev pub turned : Address → List Address
  turned c = turned_under settings old (after settings old e) e c

  pub turned_first : (c : Address) → IsNode settings new c → turned c ≡ cond (stays c) [] (c ∷ []) ++ flat_map turned (node_children settings new c)
  unfolding turned_under
  turned_first c node =
      ap (filter (λ d. not (stays d))) (node_first (ground_of settings new) new.zones c node.step (node_deep settings new c node)) ∙ by (stays c)
    where
      below : filter (λ d. not (stays d)) (flat_map (nodes_from settings new) (node_children settings new c)) ≡ flat_map (λ d. filter (λ x. not (stays x)) (nodes_from settings new d)) (node_children settings new c)
      below = flat_filter (λ d. not (stays d)) (nodes_from settings new) (node_children settings new c)

      by : (b : Bool) → cond (not b) (c ∷ filter (λ d. not (stays d)) (flat_map (nodes_from settings new) (node_children settings new c))) (filter (λ d. not (stays d)) (flat_map (nodes_from settings new) (node_children settings new c)))
          ≡ cond b [] (c ∷ []) ++ flat_map (λ d. filter (λ x. not (stays x)) (nodes_from settings new d)) (node_children settings new c)
      by true = below
      by false = ap (λ r. c ∷ r) below

  split_cells : (c : Address) → IsNode settings new c → Each (SplitIn settings new c 4) (node_children settings new c)
  split_cells c node = splits_are settings new 4 c node.cell (omega (arith, node_deep settings new c node)) (node_reached settings new c node)

  -- where a node stays with those below it there is none
  none_by : (n : ℕ) (c : Address) → 28 ≤ c.level + n → IsNode settings new c → stays c ≡ true → turned c ≡ []
  none_by zero c low node h = absurd (omega (arith, low, node_deep settings new c node))
  none_by (suc n) c low node h =
      turned_first c node ∙ ap (λ b. cond b [] (c ∷ []) ++ flat_map turned (node_children settings new c)) h
      ∙ flat_none turned (node_children settings new c)
      (each_both (SplitIn settings new c 4) (λ d. IsNode settings new d × (stays d ≡ true)) (λ d. turned d ≡ []) (node_children settings new c)
      (λ d s t. none_by n d (omega (arith, low, s.level)) t.0 t.1) (split_cells c node)
      (each_both (IsNode settings new) (λ d. stays d ≡ true) (λ d. IsNode settings new d × (stays d ≡ true)) (node_children settings new c) (λ d a b. (a, b))
      (children_nodes settings new c node) (branch_parts settings old new e c node h).1))

  pub none_turned : (c : Address) → IsNode settings new c → stays c ≡ true → turned c ≡ []
  none_turned c node h = none_by 28 c (omega arith) node h

  -- a node that the old state lacks doesn't stay
  pub lacked : (c : Address) → IsNode settings new c → (IsNode settings old c → ⊥) → stays c ≡ false
  lacked c node lacks = by (stays c) refl
    where
      by : (b : Bool) → stays c ≡ b → b ≡ false
      by true h = absurd (lacks (branch_parts settings old new e c node h).0.was)
      by false h = refl

  -- a node that the old state has, by its leaves and child nodes
  abbrev pub own_stays : Address → Bool
  own_stays c =
      same_cells (node_leaves settings old c) (node_leaves settings new c) && same_cells (node_children settings old c) (node_children settings new c)
      && list_all (is_free e old.zones) (node_leaves settings new c)

  pub stays_is : (c : Address) → IsNode settings old c → IsNode settings new c → stays c ≡ (own_stays c && list_all stays (node_children settings new c))
  stays_is c was node =
      branch_is settings old new e c node
      ∙ ap (λ b. b && list_all stays (node_children settings new c))
      (ap (λ b. b && same_cells (node_leaves settings old c) (node_leaves settings new c) && same_cells (node_children settings old c) (node_children settings new c) && list_all (leaf_stays old new e) (node_leaves settings new c)) (stood_so settings old c was)
      ∙ ap (λ b. same_cells (node_leaves settings old c) (node_leaves settings new c) && same_cells (node_children settings old c) (node_children settings new c) && b) (leaves (node_leaves settings new c)))
    where
      leaves : (xs : List Address) → list_all (leaf_stays old new e) xs ≡ list_all (is_free e old.zones) xs
      leaves [] = refl
      leaves (x ∷ xs) = λ i. leaf_is settings old e x i && leaves xs i

  -- ---- a child node
  module _ (c : Address) (children : List Address) (i : ℕ) (d : Address) (node : IsNode settings new c) (are : children ≡ node_children settings new c) (low : i < length children) (is : d ≡ get_or children i root_cell) where
    get_each : (P : Address → Type 0) (xs : List Address) (i : ℕ) → Each P xs → i < length xs → P (get_or xs i root_cell)
    get_each P [] i h low = absurd (omega (arith, low))
    get_each P (x ∷ xs) zero h low = h.0
    get_each P (x ∷ xs) (suc i) h low = get_each P xs i h.1 (omega (arith, low))

    pub child_node : IsNode settings new d
    child_node = subst (IsNode settings new) (sym is) (get_each (IsNode settings new) children i (subst (Each (IsNode settings new)) (sym are) (children_nodes settings new c node)) low)

    child_split : SplitIn settings new c 4 d
    child_split = subst (SplitIn settings new c 4) (sym is) (get_each (SplitIn settings new c 4) children i (subst (Each (SplitIn settings new c 4)) (sym are) (split_cells c node)) low)

    pub child_level : d.level ≡ c.level + 4
    child_level = child_split.level

    pub child_within : Within c d
    child_within = record { cell = child_split.cell; above = omega (arith, child_split.level); inside = child_split.inside }

    pub child_was : (before : List Address) → before ≡ node_children settings old c → IsNode settings old c → is_among before d ≡ true → IsNode settings old d
    child_was before be was h =
        each_among (IsNode settings old) (node_children settings old c) d (children_nodes settings old c was) (among_is (node_children settings old c) d (ap (λ xs. is_among xs d) (sym be) ∙ h))

    pub child_lacked : (before : List Address) → before ≡ node_children settings old c → IsNode settings old c → is_among before d ≡ false → IsNode settings old d → ⊥
    child_lacked before be was h there =
        let held : is_among before d ≡ true = ap (λ xs. is_among xs d) be ∙ node_child settings old c d was there child_within child_level in
        let clash : true ≡ false = sym held ∙ h in absurd (cc)

    pub lacked_below : (IsNode settings old c → ⊥) → IsNode settings old d → ⊥
    lacked_below lacks there = lacks (node_up settings old c d node.cell node.step child_within there)

    -- one child node more
    pub turned_more : (before now more : List Address) → now ≡ before ++ flat_map turned (take i children) → more ≡ now ++ turned d → more ≡ before ++ flat_map turned (take (i + 1) children)
    turned_more before now more h k =
        let last : flat_map turned (take (i + 1) children) ≡ flat_map turned (take i children) ++ turned d =
        ap (flat_map turned) (take_more children i root_cell low) ∙ flat_map-append turned (take i children) (get_or children i root_cell ∷ []) ∙ ap (λ r. flat_map turned (take i children) ++ r) (append-nil (turned (get_or children i root_cell)) ∙ ap turned (sym is)) in
        k ∙ ap (λ r. r ++ turned d) h ∙ append_assoc before (flat_map turned (take i children)) (turned d) ∙ ap (λ r. before ++ r) (sym last)

    pub stay_more : (b now : Bool) → now ≡ list_all stays (take i children) → b ≡ stays d → (b && now) ≡ list_all stays (take (i + 1) children)
    stay_more b now h k =
        (λ j. k j && h j) ∙ swap (stays d) (list_all stays (take i children))
        ∙ sym (ap (list_all stays) (take_more children i root_cell low) ∙ list_all-append stays (take i children) (get_or children i root_cell ∷ []) ∙ ap (λ b. list_all stays (take i children) && b) (one (stays (get_or children i root_cell)) ∙ ap stays (sym is)))
      where
        one : (b : Bool) → (b && true) ≡ b
        one true = refl
        one false = refl

        swap : (a b : Bool) → (a && b) ≡ (b && a)
        swap true true = refl
        swap true false = refl
        swap false true = refl
        swap false false = refl

  -- ---- a node, once its child nodes are looked at
  module _ (c : Address) (node : IsNode settings new c) (before now : List Address) (all : now ≡ (before ++ c ∷ []) ++ flat_map turned (node_children settings new c)) where
    front : now ≡ before ++ c ∷ flat_map turned (node_children settings new c)
    front = all ∙ append_assoc before (c ∷ []) (flat_map turned (node_children settings new c))

    pub turned_here : stays c ≡ false → now ≡ before ++ turned c
    turned_here h = front ∙ ap (λ r. before ++ r) (sym (turned_first c node ∙ ap (λ b. cond b [] (c ∷ []) ++ flat_map turned (node_children settings new c)) h))

    pub turned_back : (n : ℕ) (kept : List Address) → stays c ≡ true → n ≡ length before → kept ≡ take n now → kept ≡ before ++ turned c
    turned_back n kept h is k =
        k ∙ ap (λ m. take m now) is ∙ ap (take (length before)) front ∙ take-append-le (length before) before (c ∷ flat_map turned (node_children settings new c)) (omega arith)
        ∙ take_all (length before) before (omega arith)
        ∙ sym (ap (λ r. before ++ r) (none_turned c node h) ∙ append-nil before)

  -- ---- all nodes
  pub turned_all : (cells : List Address) → cells ≡ [] ++ turned root_cell → (c : Address) → IsNode settings new c → is_among cells c ≡ not (stays c)
  unfolding turned_under
  turned_all cells is c node =
      ap (λ xs. is_among xs c) is
      ∙ ap (λ xs. is_among (filter (λ d. not (stays d)) xs) c) (sym (nodes_are_under settings new))
      ∙ filter_among (λ d. not (stays d)) (nodes_of settings new) c (node_listed settings new c node)
