-- A plan of all rows has as many as the state takes.
use Rattle.std.proofs.Common.{◌≡◌, ℕ, ◌+◌, ◌^◌, ◌<◌, ◌≤◌, refl, sym, ap, ◌∙◌, subst, arith, List, [], ◌∷◌, length, get_or, take, drop}
use Rattle.std.specs.List.{AllByRecursion as Each, flat_map, sum_by}
use Rattle.std.proofs.lemmas.List.{drop_all, length-append, take_all}
use Rattle.std.proofs.lemmas.List.Sums.{sum_by-cons}
use Rattle.act_grid.specs.declared.Settings.{Settings}
use Rattle.act_grid.specs.Cell.{Address, hull_of, root_cell}
use Rattle.act_super.specs.declared.entry.State.{State}
use Rattle.act_super.specs.declared.entry.Zone.{Zone}
use Rattle.act_super.specs.Nodes.{IsNode, count_at, list_rows, node_children, node_leaves}
use Rattle.act_super.specs.Sizes.{chain_rows, chains_of, size_of}
use Rattle.act_super.specs.Stands.{IsServed}
use Rattle.act_probe.proofs.EntryFacts.{node_deep}
use Rattle.act_probe.proofs.WayFacts.{first_in}
use Rattle.act_image.specs.declared.chains.Chains.{Chains}
use Rattle.act_image.specs.declared.walk.Nodes.{Nodes}
use Rattle.act_image.specs.Plans.{IsChains, IsWalked, chain_rows_from, lists_of, no_fill, nodes_from, places_from, rows_from, spots_from, under_of}
use Rattle.act_image.specs.declared.slots.Slot.TheVariants as slot
use Rattle.act_image.specs.Slots.{kept_of, new_places}
use Rattle.act_image.proofs.SlotFacts.{all_new, as_many_new, get_new, long_new, new_at, none_kept}
use Rattle.act_base.specs.Counting.{times}
use Rattle.act_image.specs.Pics.{HaveOwnKeys, IsPlan, IsWhole, IsWholePlan, Pic, Planned, planned_word, rows_in, with_numbers}
use Rattle.act_image.proofs.Leaves.{LeafIn, each_mono, first_leaf_is, leaves_are, node_reached}
use Rattle.act_image.proofs.PackFacts.{FewRefs, IsFilled, all_filled}
use Rattle.act_image.proofs.PlaceFacts.{rows_length, spots_length}
use Rattle.act_image.proofs.WalkFacts.{size_is}

pub empty_filled : IsFilled no_fill []
empty_filled = record { count = refl; last = λ r e. absurd (omega (arith, e)); none = λ e. refl; short = omega arith }

pub chain_count : (zones : List Zone) (chain : ℕ) → length (chain_rows_from chain zones) ≡ chains_of zones
chain_count [] chain = refl
chain_count (zone ∷ zones) chain =
    omega (
      arith,
      length-append (rows_from chain 0 (chain_rows zone.shape)) (chain_rows_from (chain + 1) zones),
      rows_length chain 0 (chain_rows zone.shape),
      chain_count zones (chain + 1),
      sum_by-cons (λ (z : Zone). chain_rows z.shape) zone zones,
    )

module _ (settings : Settings) (state : State) (served : IsServed settings state) where
  pub few_refs : (c : Address) → IsNode settings state c → Each (FewRefs state.zones) (node_leaves settings state c)
  few_refs c node =
      each_mono (LeafIn settings state c 4) (FewRefs state.zones) (node_leaves settings state c)
      (λ l h. (
      let is = first_leaf_is settings state l l h.leaf.cell h.leaf (first_in l h.leaf.cell) in
      subst (λ (d : Address). count_at state d ≤ 510) is (served.few (hull_of l).lo)))
      (leaves_are settings state 4 c node.cell (omega (arith, node_deep settings state c node)) (node_reached settings state c node))

  pub lists_count : (c : Address) → IsNode settings state c → length (lists_of settings state c) ≡ list_rows settings state c
  unfolding lists_of
  lists_count c node = all_filled state.zones state.trained (node_leaves settings state c) no_fill [] empty_filled (few_refs c node)

  sum_nodes : (ds : List Address) → Each (IsNode settings state) ds → sum_by (λ c. 1 + list_rows settings state c) ds ≡ length ds + length (flat_map (lists_of settings state) ds)
  sum_nodes [] h = refl
  sum_nodes (d ∷ ds) h =
      omega (
        arith,
        sum_by-cons (λ c. 1 + list_rows settings state c) d ds,
        sum_nodes ds h.1,
        lists_count d h.0,
        length-append (lists_of settings state d) (flat_map (lists_of settings state) ds),
      )

  pub whole_sized : (q : Planned) (cells : List Address) → IsWhole settings q state cells → length q.spots + length q.lists + length q.chain_rows ≡ size_of settings state
  whole_sized q cells w =
      omega (
        arith,
        ap length w.spots ∙ spots_length settings state 0 1 cells,
        ap length w.lists,
        ap length w.chain_rows,
        chain_count state.zones 0,
        size_is settings state,
        w.same (λ c. 1 + list_rows settings state c),
        sum_nodes cells w.are,
      )

-- what was walked, and the chains, make a plan of all rows
pub walked_whole : (settings : Settings) (state : State) (nodes : Nodes) (chains : Chains) (q : Planned) → IsWalked settings state nodes → IsChains state.zones chains → q.nodes ≡ nodes.places.items → q.under ≡ nodes.under.items → q.list_rows ≡ length nodes.lists.items → q.spots ≡ nodes.spots.items
    → q.lists ≡ nodes.lists.items → q.chains ≡ chains.places.items → q.bodies ≡ chains.bodies.items → q.chain_rows ≡ chains.rows.items → IsWhole settings q state nodes.cells.items
walked_whole settings state nodes chains q w c a u n b d e f g =
    let cells = nodes.cells.items in
    let all : take (length cells) cells ≡ cells = take_all (length cells) cells (omega arith) in
    let none : drop (length cells) cells ≡ [] = drop_all (length cells) cells (omega arith) in
    record {
      same = λ h. (
          let front = ap (sum_by h) all in
          let back = ap (sum_by (λ x. sum_by h (nodes_from settings state x))) none in
          omega (arith, front, back, w.same h));
      are = w.are;
      queue = w.queue ∙ ap (λ v. root_cell ∷ flat_map (node_children settings state) v) all;
      nodes = a ∙ w.places ∙ ap (places_from settings state 0) all;
      under = u ∙ w.under ∙ ap (under_of settings state) all;
      list_rows = n ∙ sym (ap length d);
      spots = b ∙ w.spots ∙ ap (spots_from settings state 0 1) all;
      lists = d ∙ w.lists ∙ ap (flat_map (lists_of settings state)) all;
      chains = e ∙ c.places;
      bodies = f ∙ c.bodies;
      chain_rows = g ∙ c.rows;
    }

-- and it is a plan for the state
pub whole_plan : (settings : Settings) (p : Pic) (q : Planned) (n : ℕ) (state new : State) (cells : List Address) → IsWhole settings q new cells → IsServed settings new → HaveOwnKeys new.zones
    → ((r : ℕ) → 0 < times (rows_in p) r → (0 < r) × (r < 2 ^ 24)) → q.gone ≡ rows_in p → q.slots ≡ all_new n → length q.slots ≡ length q.spots + length q.lists + length q.chain_rows
    → q.need ≡ length (new_places 0 q.slots) → IsPlan settings p q state new × (q.need ≡ size_of settings new)
whole_plan settings p q n state new cells w served keys low gone slots all need =
    let size = whole_sized settings new served q cells w in
    let kept : kept_of q.slots ≡ [] = ap kept_of slots ∙ none_kept n in
    let few = ap length slots ∙ long_new n in
    let leads : IsWholePlan settings p q state new = record {
      need = need;
      all = all;
      served = served;
      keys = keys;
      cells = cells;
      whole = w;
      low = low;
      gone = λ r. omega (arith, ap (λ v. times v r) kept, ap (λ v. times v r) gone);
      count = omega (arith, ap length kept, ap length gone);
      stay = λ old rows k r place shown fresh long is small. (let e : slot.New ≡ slot.Kept r = sym (get_new n k) ∙ ap (λ v. get_or v k slot.New) (sym slots) ∙ is in absurd (cc));
    } in (
      record { whole = q; leads = leads; trimmed = record { need = refl; nodes = refl; under = refl; list_rows = refl; chains = refl; slots = refl; gone = refl; words = same } },
      omega (arith, need, ap (λ v. length (new_places 0 v)) slots, as_many_new n 0, few, all, size),
    )
  where
    -- each row is new, so the i-th new row is the i-th of all
    same : (rows : List ℕ) (i place : ℕ) → length rows ≡ q.need → i < q.need → place < 256 → planned_word (with_numbers q rows) i place ≡ planned_word (with_numbers q rows) (get_or (new_places 0 q.slots) i 0) place
    same rows i place long low small =
        let many = need ∙ ap (λ v. length (new_places 0 v)) slots ∙ as_many_new n 0 in
        let at : get_or (new_places 0 q.slots) i 0 ≡ 0 + i = ap (λ v. get_or (new_places 0 v) i 0) slots ∙ new_at n 0 i (omega (arith, low, many)) in
        let zero_i : 0 + i ≡ i = omega arith in
        ap (λ k. planned_word (with_numbers q rows) k place) (sym (at ∙ zero_i))
