-- Entries of nodes that stand.
use Rattle.std.proofs.Common.{◌≡◌, ℕ, ◌+◌, ◌-◌, ◌*◌, ◌/◌, ◌%◌, ◌^◌, ◌<◌, ◌≤◌, ◌==◌, ◌⊎◌, inl, inr, Bool, true, false, cond, Some, None, refl, sym, ap, ◌∙◌, subst, arith, List, [], ◌∷◌, length}
use Rattle.std.proofs.lemmas.Bool.{ltb-false, ltb-true, ne_eqb}
use Rattle.std.proofs.Math.Nat.{div-eq_of_lt}
use Rattle.std.proofs.lemmas.Nat.{pow-add}
use Rattle.std.proofs.lemmas.List.{length-map}
use Rattle.std.proofs.lemmas.Option.{same_Some}
use Rattle.act_grid.specs.declared.Point.{Point}
use Rattle.act_grid.specs.declared.Settings.{Settings}
use Rattle.act_grid.specs.Hull.{IsIn}
use Rattle.act_grid.specs.Cell.{Address, IsCell, hull_of, id_of, root_cell}
use Rattle.act_base.specs.Sight.{Sight}
use Rattle.act_entry.specs.declared.reference.Ref.{Ref}
use Rattle.act_entry.specs.declared.entry.Entry.TheVariants as entry
use Rattle.act_entry.specs.Entries.{IsEntry, entry_of}
use Rattle.act_entry.specs.References.{IsRow}
use Rattle.act_entry.proofs.EntryFacts.{told}
use Rattle.act_super.specs.declared.entry.State.{State}
use Rattle.act_super.specs.declared.entry.Zone.{Zone}
use Rattle.act_super.specs.Grounds.{leaf_at}
use Rattle.act_super.specs.Nodes.{IsNode, entry_cell, first_leaf, ground_of, is_parted}
use Rattle.act_super.specs.Sizes.{refs_of}
use Rattle.act_super.specs.Stands.{IsServed, Layout, Stands, StandsBy, entry_at, entry_for, leaf_entry, ref_in, refs_in}
use Rattle.act_probe.specs.Chains.{RefsOf}
use Rattle.act_probe.specs.Reads.{nodes_above}
use Rattle.act_probe.specs.Ways.{IsReached, IsTop, child_in, leaf_of, over}
use Rattle.act_probe.proofs.ChainFacts.{row_fits}
use Rattle.act_probe.proofs.LeafFacts.{holds, no_deeper}
use Rattle.act_probe.proofs.ListFacts.{pairs_enough}
use Rattle.act_probe.proofs.StandFacts.{held_list, held_node, hit_on, refs_at, zones_on}
use Rattle.act_probe.proofs.WayFacts.{below_node, entry_is, entry_of_id, entry_on, in_root, root_is, same_leaf}

-- the cell of level 30 that holds a point, by its id
pub top_is : (p : Point) (c : Address) (id : ℕ) → c.level ≡ 30 → IsCell c → IsIn (hull_of c) p → id ≡ id_of c → IsTop id p
top_is p c id level cell inside is =
    let told_id : id ≡ c.path * 2 + 1 = (rw level at is) in
    let path : id / 2 ≡ c.path = omega (arith, told_id) in
    let same : record { level = 30; path = id / 2 } ≡ c = λ i. record { level = sym level i; path = path i } in
    record { odd = omega (arith, told_id); cell = subst IsCell (sym same) cell; inside = subst (λ (a : Address). IsIn (hull_of a) p) (sym same) inside }

-- the entry of references is that of no node
no_child : (refs : List Ref) (row place : ℕ) → child_in (entry_for refs row place) ≡ None
no_child [] row place = refl
no_child (a ∷ []) row place = refl
no_child (a ∷ (b ∷ [])) row place = refl
no_child (a ∷ (b ∷ (c ∷ refs))) row place = refl

entry_ok : (x : Sight) (hit : Zone → Bool) (zones : List Zone) (refs : List Ref) (row place : ℕ) → RefsOf x hit zones refs → (2 < length refs → IsRow row × (place ≤ 253))
    → IsEntry (entry_for refs row place)
entry_ok x hit zones [] row place h list = tt
entry_ok x hit [] (a ∷ refs) row place h list = absurd h
entry_ok x hit (z ∷ zones) (a ∷ []) row place h list = row_fits h.0
entry_ok x hit (z ∷ []) (a ∷ (b ∷ refs)) row place h list = absurd h.2
entry_ok x hit (z ∷ (y ∷ zones)) (a ∷ (b ∷ [])) row place h list = (row_fits h.0, row_fits h.2.0)
entry_ok x hit (z ∷ (y ∷ zones)) (a ∷ (b ∷ (c ∷ refs))) row place h list = list (omega arith)

module _ (settings : Settings) (state : State) where
  leaf_shallow : (p : Point) → (leaf_of settings state p).level ≤ 28
  unfolding leaf_at
  leaf_shallow p = no_deeper (ground_of settings state) state.zones 28 root_cell p

  pub node_deep : (c : Address) → IsNode settings state c → c.level ≤ 24
  node_deep c node = by node.split
    where
      by : (c ≡ root_cell) ⊎ (is_parted settings state c ≡ true) → c.level ≤ 24
      by (inl same) = omega (arith, ap (λ (a : Address). a.level) same)
      by (inr parted) = omega (arith, ltb-true c.level _ parted, leaf_shallow (hull_of c).lo, node.step)

  -- the cell of an entry is that of a node, where it is split
  entry_node : (c : Address) (i : ℕ) → IsNode settings state c → i < 256 → is_parted settings state (entry_cell c i) ≡ true → IsNode settings state (entry_cell c i)
  entry_node c i node within parted =
      let four_more : 4 ^ (c.level + 4) ≡ 4 ^ c.level * 256 = pow-add 4 c.level 4 in
      record {
        cell = record { deep = omega (arith, node_deep c node); short = omega (arith, four_more, node.cell.short, within) };
        step = omega (arith, node.step);
        split = inr parted;
      }

-- the leaf of a point holds it
leaf_in : (settings : Settings) (state : State) (p : Point) (id : ℕ) → IsTop id p → IsIn (hull_of (leaf_of settings state p)) p
unfolding leaf_at
leaf_in settings state p id top =
    (holds (ground_of settings state) state.zones 28 root_cell p root_is (omega arith) (in_root (record { level = 30; path = id / 2 }) p top.cell top.inside)).inside

module _ (settings : Settings) (x : Sight) (root : ℕ) (state : State) (served : IsServed settings state) (layout : Layout) (s : StandsBy settings x root state layout) where
  is_entry : (c : Address) (i : ℕ) → IsNode settings state c → i < 256 → IsEntry (entry_at layout settings state c i)
  is_entry c i node within = by (is_parted settings state (entry_cell c i)) refl
    where
      by : (b : Bool) → is_parted settings state (entry_cell c i) ≡ b
          → IsEntry (cond b (entry.Child (layout.node (entry_cell c i))) (leaf_entry layout settings state c (first_leaf settings state (entry_cell c i))))
      by true parted =
          let low = s.low (layout.node (entry_cell c i)) (held_node settings x root state served layout s (entry_cell c i) (entry_node settings state c i node within parted)) in
          (low.0, omega (arith, low.1))
      by false whole =
          entry_ok x (hit_on (first_leaf settings state (entry_cell c i))) (zones_on (first_leaf settings state (entry_cell c i)) state.zones)
          (refs_in layout (refs_of state.zones (first_leaf settings state (entry_cell c i)))) _ _ (refs_at settings x root state served layout s (first_leaf settings state (entry_cell c i)))
          (λ many.
          let long = length-map (refs_of state.zones (first_leaf settings state (entry_cell c i))) (ref_in layout) in
          let list = s.lists c i node within whole (omega (arith, long, many)) in
          let low = s.low _ (held_list settings x root state served layout s c _ node list.row) in
          ((low.0, omega (arith, low.1)), omega (arith, list.words.within, many, pairs_enough (refs_in layout (refs_of state.zones (first_leaf settings state (entry_cell c i)))))))

  pub decoded : (c : Address) (i word : ℕ) → IsNode settings state c → i < 256 → word ≡ x.word (layout.node c) i → entry_of word ≡ Some (entry_at layout settings state c i)
  decoded c i word node within is = ap entry_of (is ∙ s.entries c i node within) ∙ told (entry_at layout settings state c i) (is_entry c i node within)

  -- ---- on the way down
  module _ (p : Point) (id : ℕ) (top : IsTop id p) (depth : ℕ) (few : depth ≤ 6) (node : IsNode settings state (over (id / 2) (4 * depth))) where
    on_way : entry_cell (over (id / 2) (4 * depth)) (entry_on (id / 2) (4 * depth)) ≡ over (id / 2) (4 * (depth + 1))
    on_way =
        let next : 4 * depth + 4 ≡ 4 * (depth + 1) = omega arith in
        entry_is (id / 2) (4 * depth) (omega (arith, few)) ∙ ap (over (id / 2)) next

    within : entry_on (id / 2) (4 * depth) < 256
    within = omega arith

    pub goes_down : (below : ℕ) → child_in (entry_at layout settings state (over (id / 2) (4 * depth)) (entry_on (id / 2) (4 * depth))) ≡ Some below
        → IsNode settings state (over (id / 2) (4 * (depth + 1))) × (below ≡ layout.node (over (id / 2) (4 * (depth + 1))))
    goes_down below is = by (is_parted settings state (entry_cell (over (id / 2) (4 * depth)) (entry_on (id / 2) (4 * depth)))) refl is
      where
        by : (b : Bool) → is_parted settings state (entry_cell (over (id / 2) (4 * depth)) (entry_on (id / 2) (4 * depth))) ≡ b
            → child_in (cond b (entry.Child (layout.node (entry_cell (over (id / 2) (4 * depth)) (entry_on (id / 2) (4 * depth)))))
            (leaf_entry layout settings state (over (id / 2) (4 * depth)) (first_leaf settings state (entry_cell (over (id / 2) (4 * depth)) (entry_on (id / 2) (4 * depth)))))) ≡ Some below
            → IsNode settings state (over (id / 2) (4 * (depth + 1))) × (below ≡ layout.node (over (id / 2) (4 * (depth + 1))))
        by true parted is = (
          subst (IsNode settings state) on_way (entry_node settings state (over (id / 2) (4 * depth)) (entry_on (id / 2) (4 * depth)) node within parted),
          sym (same_Some _ below is) ∙ ap layout.node on_way,
        )
        by false whole is = let no = sym (no_child (refs_in layout (refs_of state.zones _)) _ _) ∙ is in cc

    -- the nodes on the way to the leaf
    counted : (leaf : Address) → leaf.level ≤ 4 * (depth + 1) → ((0 < depth) → 4 * depth < leaf.level) → depth + 1 ≡ nodes_above leaf
    counted leaf high under = by (sides leaf.level)
      where
        sides : (n : ℕ) → (n ≡ 0) ⊎ (0 < n)
        sides n = grind arith

        by : (leaf.level ≡ 0) ⊎ (0 < leaf.level) → depth + 1 ≡ cond (leaf.level == 0) 1 ((leaf.level + 3) / 4)
        by (inl none) = rw none (omega (arith, zero_depth none))
          where
            zero_depth : leaf.level ≡ 0 → depth ≡ 0
            zero_depth none = grind (arith, under)
        by (inr some) = let e : (leaf.level == 0) ≡ false = ne_eqb leaf.level 0 (λ e. omega (arith, e, some)) in rw e (grind (arith, high, under))

    not_root : 0 < depth → is_parted settings state (over (id / 2) (4 * depth)) ≡ true
    not_root some = by node.split
      where
        by : (over (id / 2) (4 * depth) ≡ root_cell) ⊎ (is_parted settings state (over (id / 2) (4 * depth)) ≡ true) → is_parted settings state (over (id / 2) (4 * depth)) ≡ true
        by (inl same) = absurd (omega (arith, some, ap (λ (a : Address). a.level) same))
        by (inr parted) = parted

    pub is_there : child_in (entry_at layout settings state (over (id / 2) (4 * depth)) (entry_on (id / 2) (4 * depth))) ≡ None
        → IsReached settings state layout p (entry_at layout settings state (over (id / 2) (4 * depth)) (entry_on (id / 2) (4 * depth))) (depth + 1)
    is_there is = by (is_parted settings state (entry_cell (over (id / 2) (4 * depth)) (entry_on (id / 2) (4 * depth)))) refl is
      where
        by : (b : Bool) → is_parted settings state (entry_cell (over (id / 2) (4 * depth)) (entry_on (id / 2) (4 * depth))) ≡ b
            → child_in (cond b (entry.Child (layout.node (entry_cell (over (id / 2) (4 * depth)) (entry_on (id / 2) (4 * depth)))))
            (leaf_entry layout settings state (over (id / 2) (4 * depth)) (first_leaf settings state (entry_cell (over (id / 2) (4 * depth)) (entry_on (id / 2) (4 * depth)))))) ≡ None
            → IsReached settings state layout p (cond b (entry.Child (layout.node (entry_cell (over (id / 2) (4 * depth)) (entry_on (id / 2) (4 * depth)))))
            (leaf_entry layout settings state (over (id / 2) (4 * depth)) (first_leaf settings state (entry_cell (over (id / 2) (4 * depth)) (entry_on (id / 2) (4 * depth)))))) (depth + 1)
        by true parted is = absurd (cc)
        by false whole is =
            let whole_on : is_parted settings state (over (id / 2) (4 * (depth + 1))) ≡ false = sym (ap (is_parted settings state) on_way) ∙ whole in
            let leaf : first_leaf settings state (over (id / 2) (4 * (depth + 1))) ≡ leaf_of settings state p =
            same_leaf p (id / 2) top.cell top.inside settings state (4 * (depth + 1)) (omega (arith, few)) whole_on in
            let leaf_on : first_leaf settings state (entry_cell (over (id / 2) (4 * depth)) (entry_on (id / 2) (4 * depth))) ≡ leaf_of settings state p = ap (first_leaf settings state) on_way ∙ leaf in
            let high : (first_leaf settings state (over (id / 2) (4 * (depth + 1)))).level ≤ 4 * (depth + 1) = ltb-false (4 * (depth + 1)) _ whole_on in
            record {
              node = over (id / 2) (4 * depth);
              place = entry_on (id / 2) (4 * depth);
              is_node = node;
              within = within;
              whole = whole;
              leaf = leaf_on;
              inside = leaf_in settings state p id top;
              is = ap (leaf_entry layout settings state (over (id / 2) (4 * depth))) leaf_on;
              count = counted (leaf_of settings state p) (omega (arith, high, ap (λ (a : Address). a.level) leaf))
                  (λ some. below_node p (id / 2) top.cell top.inside settings state (4 * depth) (omega (arith, few)) (not_root some));
            }

-- the place of the entry on the way, as it is read from the id
pub place_on : (p : Point) (id depth : ℕ) → IsTop id p → depth ≤ 6 → id / 2 ^ (53 - 2 * (4 * depth)) % 256 ≡ entry_on (id / 2) (4 * depth)
place_on p id depth top few = ap (λ n. n / 2 ^ (53 - 2 * (4 * depth)) % 256) top.odd ∙ entry_of_id (id / 2) (4 * depth) (omega (arith, few))

-- the way begins at the root
pub root_over : (p : Point) (id : ℕ) → IsTop id p → over (id / 2) 0 ≡ root_cell
root_over p id top = let none : id / 2 / 4 ^ 30 ≡ 0 = div-eq_of_lt top.cell.short in ap (λ n. record { level = 0; path = n }) none

pub root_node : (settings : Settings) (state : State) → IsNode settings state root_cell
root_node settings state = record { cell = root_is; step = refl; split = inl refl }

-- no way down has more than seven nodes
pub no_eighth : (settings : Settings) (state : State) (path : ℕ) → IsNode settings state (over path 28) → ⊥
no_eighth settings state path node = omega (arith, node_deep settings state (over path 28) node)

-- what stands in a word that was read, on the way
pub read_entry : {settings : Settings} {x : Sight} {root : ℕ} {state : State} (s : Stands settings x root state) (p : Point) (id depth row place word : ℕ) → IsTop id p → depth ≤ 6
    → IsNode settings state (over (id / 2) (4 * depth)) → row ≡ s.layout.node (over (id / 2) (4 * depth)) → place ≡ id / 2 ^ (53 - 2 * (4 * depth)) % 256 → word ≡ x.word row place
    → entry_of word ≡ Some (entry_at s.layout settings state (over (id / 2) (4 * depth)) (entry_on (id / 2) (4 * depth)))
read_entry {settings} {x} {root} {state} s p id depth row place word top few node row_is place_is is =
    decoded settings x root state s.served s.layout s.by_rows (over (id / 2) (4 * depth)) (entry_on (id / 2) (4 * depth)) word node (omega arith)
    (is ∙ ap (λ r. x.word r place) row_is ∙ ap (x.word (s.layout.node (over (id / 2) (4 * depth)))) (place_is ∙ place_on p id depth top few))
