-- Two images of two states have the same words in rows that serve for the same.
use Rattle.std.proofs.Common.{◌≡◌, ℕ, zero, suc, ◌+◌, ◌*◌, ◌/◌, ◌%◌, ◌^◌, ◌<◌, ◌≤◌, refl, sym, ap, ◌∙◌, subst, arith, List, [], ◌∷◌, length, get_or, map}
use Rattle.std.specs.List.{AllByRecursion as Each, flat_map}
use Rattle.act_grid.specs.declared.Settings.{Settings}
use Rattle.act_grid.specs.Cell.{Address}
use Rattle.act_base.specs.Counting.{times}
use Rattle.act_base.specs.Sight.{Sight}
use Rattle.act_entry.specs.Entries.{entry_word}
use Rattle.act_super.specs.declared.entry.Entry.{Entry}
use Rattle.act_super.specs.declared.entry.State.{State}
use Rattle.act_super.specs.declared.entry.Zone.{Zone}
use Rattle.act_super.specs.Nodes.{IsNode, node_children, node_leaves}
use Rattle.act_super.specs.Sizes.{refs_of}
use Rattle.act_super.specs.Stands.{HasChain, refs_in}
use Rattle.act_probe.proofs.NodeFacts.{Among}
use Rattle.act_image.specs.Words.{placed_ref}
use Rattle.act_image.specs.Plans.{bodies_of, chain_rows_from, lists_of, refs_on, spots_from}
use Rattle.act_image.specs.Pics.{HaveOwnKeys, IsWhole, Pic, Planned, Shows, copy_numbers, installed, layout_in, rows_in}
use Rattle.act_image.proofs.BindFacts.{refs_are}
use Rattle.act_image.proofs.BranchFacts.{Stayed}
use Rattle.act_image.proofs.PlaceFacts.{places_length, spots_length}
use Rattle.act_image.proofs.ServedFacts.{old_keys}
use Rattle.act_image.proofs.StayFacts.{entry_stays, lists_stay}

-- ---- the copy of an image is that of a plan of all rows
module _ (settings : Settings) (p : Pic) (x : Sight) (state : State) (shown : Shows settings p x state) where
  abbrev pub made : Planned
  made = record {
    need = 0;
    root = get_or p.rows 0 0;
    nodes = p.nodes;
    under = p.under;
    list_rows = length (flat_map (lists_of settings state) shown.cells);
    spots = spots_from settings state 0 1 shown.cells;
    lists = flat_map (lists_of settings state) shown.cells;
    chains = p.chains;
    bodies = bodies_of state.zones;
    chain_rows = chain_rows_from 0 state.zones;
    slots = [];
    all = p.rows;
    rows = [];
    gone = [];
  }

  pub made_whole : IsWhole settings made state shown.cells
  made_whole = record {
    same = shown.copy.same;
    are = shown.copy.are;
    queue = shown.copy.queue;
    nodes = shown.copy.nodes;
    under = shown.copy.under;
    list_rows = refl;
    spots = refl;
    lists = refl;
    chains = shown.copy.chains;
    bodies = refl;
    chain_rows = refl;
  }

  own_rows : x.rows ≡ p.rows
  unfolding rows_in
  own_rows = shown.rows

  pub made_once : (r : ℕ) → times p.rows r ≤ 1
  made_once r = let same = ap (λ v. times v r) own_rows in omega (arith, same, shown.by_rows.once r)

  pub made_low : (r : ℕ) → 0 < times p.rows r → (0 < r) × (r < 2 ^ 24)
  made_low r some = shown.by_rows.low r (subst (λ v. 0 < times v r) (sym own_rows) some)

  pub nodes_many : length p.nodes ≡ length (spots_from settings state 0 1 shown.cells)
  nodes_many = ap length shown.copy.nodes ∙ places_length settings state 0 shown.cells ∙ sym (spots_length settings state 0 1 shown.cells)

  pub made_need : length p.rows ≡ length (spots_from settings state 0 1 shown.cells) + length (flat_map (lists_of settings state) shown.cells) + length (chain_rows_from 0 state.zones)
  made_need = omega (arith, shown.copy.all, shown.copy.lists, nodes_many)

  pub made_keys : HaveOwnKeys state.zones
  made_keys = old_keys settings x p.root state (layout_in p) shown.by_rows

  pub made_layout : layout_in (installed p made) ≡ layout_in p
  unfolding installed layout_in
  made_layout = ap (λ n. layout_in (record { root = p.root; nodes = p.nodes; under = p.under; lists = n; chains = p.chains; rows = p.rows })) (sym shown.copy.lists)

  -- the references of a leaf by the numbers of the copy
  pub copy_refs : (leaf : Address) → map (placed_ref (copy_numbers p)) (refs_on state.zones leaf) ≡ refs_in (layout_in p) (refs_of state.zones leaf)
  copy_refs leaf =
      (λ i. map (placed_ref (record { nodes = nodes_many i; lists = shown.copy.lists i; rows = p.rows })) (refs_on state.zones leaf))
      ∙ refs_are settings p made state shown.cells made_whole shown.served made_keys made_once made_low made_need refl leaf
      ∙ ap (λ v. refs_in v (refs_of state.zones leaf)) made_layout

-- ---- chains
-- the words of a chain follow from its rows and its zone
pub chain_same : (x y : Sight) (rows : List ℕ) (zone : Zone) → HasChain x rows zone → HasChain y rows zone → (i place : ℕ) → i < length rows → place < 256 → x.word (get_or rows i 0) place ≡ y.word (get_or rows i 0) place
chain_same x y rows zone a b zero zero low small = a.first ∙ sym b.first
chain_same x y rows zone a b (suc i) zero low small = a.next (suc i) (omega arith) low ∙ sym (b.next (suc i) (omega arith) low)
chain_same x y rows zone a b i (suc m) low small =
    let row : (i * 255 + m) / 255 ≡ i = omega (arith, small) in
    let place : 1 + (i * 255 + m) % 255 ≡ suc m = omega (arith, small) in
    let within : i * 255 + m < length rows * 255 = omega (arith, low, small) in
    (λ t. x.word (get_or rows (sym row t) 0) (sym place t)) ∙ a.body (i * 255 + m) within ∙ sym (b.body (i * 255 + m) within) ∙ (λ t. y.word (get_or rows (row t) 0) (place t))

-- ---- a node that stayed
module _ (settings : Settings) (p q : Pic) (x y : Sight) (old new : State) (e : Entry) (was : Shows settings p x old) (is : Shows settings q y new)
    (c : Address) (node : IsNode settings new c) (st : Stayed settings old new e c)
    (rows : Each (λ leaf. refs_in (layout_in p) (refs_of new.zones leaf) ≡ refs_in (layout_in q) (refs_of new.zones leaf)) (node_leaves settings new c)) (lists : (layout_in p).lists c ≡ (layout_in q).lists c) where
  pub node_same : ((d : Address) → Among (node_children settings new c) d → (layout_in p).node d ≡ (layout_in q).node d) → (layout_in p).node c ≡ (layout_in q).node c → (place : ℕ) → place < 256
      → x.word ((layout_in p).node c) place ≡ y.word ((layout_in p).node c) place
  node_same nodes own place small =
      was.by_rows.entries c place st.was small ∙ ap entry_word (entry_stays settings old new c st.was node st.leaves st.children place small (layout_in p) (layout_in q) nodes lists st.refs rows)
      ∙ sym (is.by_rows.entries c place node small) ∙ ap (λ r. y.word r place) (sym own)

  leaves_refs : (leaves : List Address) → Each (λ leaf. refs_of old.zones leaf ≡ refs_of new.zones leaf) leaves → Each (λ leaf. refs_in (layout_in p) (refs_of new.zones leaf) ≡ refs_in (layout_in q) (refs_of new.zones leaf)) leaves
      → Each (λ leaf. map (placed_ref (copy_numbers p)) (refs_on old.zones leaf) ≡ map (placed_ref (copy_numbers q)) (refs_on new.zones leaf)) leaves
  leaves_refs [] a b = tt
  leaves_refs (leaf ∷ leaves) a b = (
    copy_refs settings p x old was leaf ∙ ap (refs_in (layout_in p)) a.0 ∙ b.0 ∙ sym (copy_refs settings q y new is leaf),
    leaves_refs leaves a.1 b.1,
  )

  pub list_same : (i place : ℕ) → i < length ((layout_in p).lists c) → place < 256 → x.word (get_or ((layout_in p).lists c) i 0) place ≡ y.word (get_or ((layout_in p).lists c) i 0) place
  list_same i place low small =
      was.lists c i place st.was low small ∙ lists_stay (copy_numbers p) (copy_numbers q) settings old new c st.leaves (leaves_refs (node_leaves settings new c) st.refs rows) i place
      ∙ sym (is.lists c i place node (omega (arith, low, ap length lists)) small) ∙ ap (λ v. y.word (get_or v i 0) place) (sym lists)
