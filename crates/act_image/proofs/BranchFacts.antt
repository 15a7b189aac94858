-- What it means that a node, or all nodes from a cell down, stay.
use Rattle.std.proofs.Common.{◌≡◌, ◌≢◌, ℕ, ◌⊎◌, inl, inr, Bool, true, false, not, cond, refl, sym, ap, ◌∙◌, List, [], ◌∷◌, ◌&&◌, ◌||◌, ◌==◌, eqb}
use Rattle.std.specs.List.{AllByRecursion as Each, flat_map, list_all}
use Rattle.std.proofs.lemmas.Bool.Decides.{eqb_tells}
use Rattle.std.proofs.lemmas.List.Folds.{list_all-append}
use Rattle.act_grid.specs.declared.Settings.{Settings}
use Rattle.act_grid.specs.Cell.{Address, root_cell}
use Rattle.act_super.specs.declared.entry.Entry.{Entry}
use Rattle.act_super.specs.declared.entry.State.{State}
use Rattle.act_super.specs.declared.refs.ZoneRef.{ZoneRef}
use Rattle.act_super.specs.Grounds.{same_cell}
use Rattle.act_super.specs.Nodes.{IsNode, ground_of, is_parted, node_children, node_leaves}
use Rattle.act_super.specs.Sizes.{refs_of}
use Rattle.act_probe.proofs.EntryFacts.{node_deep}
use Rattle.act_image.specs.Fresh.{branch_stays, is_changed, leaf_stays, node_stays, same_cells, same_refs}
use Rattle.act_image.specs.Plans.{nodes_from}
use Rattle.act_image.proofs.FillFacts.{same_is}
use Rattle.act_image.proofs.WalkFacts.{node_first}

pub both : (a b : Bool) → (a && b) ≡ true → (a ≡ true) × (b ≡ true)
both true b h = (refl, h)
both false b h = absurd (cc)

pub either : (a b : Bool) → (a || b) ≡ true → (a ≡ true) ⊎ (b ≡ true)
either true b h = inl refl
either false b h = inr h

pub cells_are : (xs ys : List Address) → same_cells xs ys ≡ true → xs ≡ ys
cells_are [] [] h = refl
cells_are [] (d ∷ ys) h = absurd (cc)
cells_are (c ∷ xs) [] h = absurd (cc)
cells_are (c ∷ xs) (d ∷ ys) h = let t = both (same_cell c d) (same_cells xs ys) h in λ i. same_is c d t.0 i ∷ cells_are xs ys t.1 i

hits_are : (a b : Bool) → cond a b (not b) ≡ true → a ≡ b
hits_are true b h = sym h
hits_are false true h = absurd (cc)
hits_are false false h = refl

pub keys_are : (a b : ℕ) → (a == b) ≡ true → a ≡ b
keys_are a b h = by (eqb_tells a b)
  where
    by : ((eqb a b ≡ true) × (a ≡ b)) ⊎ ((eqb a b ≡ false) × (a ≢ b)) → a ≡ b
    by (inl same) = same.1
    by (inr other) = let no : false ≡ true = sym other.0 ∙ h in absurd (cc)

pub refs_are : (xs ys : List ZoneRef) → same_refs xs ys ≡ true → xs ≡ ys
refs_are [] [] h = refl
refs_are [] (b ∷ ys) h = absurd (cc)
refs_are (a ∷ xs) [] h = absurd (cc)
refs_are (a ∷ xs) (b ∷ ys) h =
    let t = both (a.key == b.key && cond a.hit b.hit (not b.hit)) (same_refs xs ys) h in
    let u = both (a.key == b.key) (cond a.hit b.hit (not b.hit)) t.0 in
    λ i. record { key = keys_are a.key b.key u.0 i; hit = hits_are a.hit b.hit u.1 i } ∷ refs_are xs ys t.1 i

pub each_of : {X : Type 0} (p : X → Bool) (P : X → Type 0) (xs : List X) → ((x : X) → p x ≡ true → P x) → list_all p xs ≡ true → Each P xs
each_of p P [] f h = tt
each_of p P (x ∷ xs) f h = let t = both (p x) (list_all p xs) h in (f x t.0, each_of p P xs f t.1)

pub not_is : (b : Bool) → not b ≡ true → b ≡ false
not_is true h = absurd (cc)
not_is false h = refl

module _ (settings : Settings) (old new : State) (e : Entry) where
  -- the same node stood there, and no reference of it is to the changed zone
  pub record Stayed (c : Address) : Type 0 where
    pub was : IsNode settings old c
    pub leaves : node_leaves settings old c ≡ node_leaves settings new c
    pub children : node_children settings old c ≡ node_children settings new c
    pub refs : Each (λ leaf. refs_of old.zones leaf ≡ refs_of new.zones leaf) (node_leaves settings new c)
    pub free : Each (λ leaf. Each (λ (r : ZoneRef). is_changed e r.key ≡ false) (refs_of new.zones leaf)) (node_leaves settings new c)

  pub stayed : (c : Address) → IsNode settings new c → node_stays settings old new e c ≡ true → Stayed c
  stayed c node h =
      let there = same_cell c root_cell || is_parted settings old c in
      let leaves = same_cells (node_leaves settings old c) (node_leaves settings new c) in
      let children = same_cells (node_children settings old c) (node_children settings new c) in
      let v = both (there && leaves && children) (list_all (leaf_stays old new e) (node_leaves settings new c)) h in
      let u = both (there && leaves) children v.0 in
      let t = both there leaves u.0 in
      record {
        was = record { cell = node.cell; step = node.step; split = split (either (same_cell c root_cell) (is_parted settings old c) t.0) };
        leaves = cells_are (node_leaves settings old c) (node_leaves settings new c) t.1;
        children = cells_are (node_children settings old c) (node_children settings new c) u.1;
        refs = each_of (leaf_stays old new e) (λ leaf. refs_of old.zones leaf ≡ refs_of new.zones leaf) (node_leaves settings new c)
            (λ leaf k. refs_are (refs_of old.zones leaf) (refs_of new.zones leaf) (parts leaf k).0) v.1;
        free = each_of (leaf_stays old new e) (λ leaf. Each (λ (r : ZoneRef). is_changed e r.key ≡ false) (refs_of new.zones leaf)) (node_leaves settings new c)
            (λ leaf k. each_of (λ (r : ZoneRef). not (is_changed e r.key)) (λ (r : ZoneRef). is_changed e r.key ≡ false) (refs_of new.zones leaf) (λ r n. not_is (is_changed e r.key) n) (parts leaf k).1) v.1;
      }
    where
      split : (same_cell c root_cell ≡ true) ⊎ (is_parted settings old c ≡ true) → (c ≡ root_cell) ⊎ (is_parted settings old c ≡ true)
      split (inl same) = inl (same_is c root_cell same)
      split (inr parted) = inr parted

      parts : (leaf : Address) → leaf_stays old new e leaf ≡ true
          → (same_refs (refs_of old.zones leaf) (refs_of new.zones leaf) ≡ true) × (list_all (λ (r : ZoneRef). not (is_changed e r.key)) (refs_of new.zones leaf) ≡ true)
      parts leaf k = both (same_refs (refs_of old.zones leaf) (refs_of new.zones leaf)) (list_all (λ (r : ZoneRef). not (is_changed e r.key)) (refs_of new.zones leaf)) k

  -- all nodes from a cell down stay: its own, and those from each child node down
  pub branch_is : (c : Address) → IsNode settings new c → branch_stays settings old new e c ≡ (node_stays settings old new e c && list_all (branch_stays settings old new e) (node_children settings new c))
  branch_is c node = ap (list_all (node_stays settings old new e)) (node_first (ground_of settings new) new.zones c node.step (node_deep settings new c node)) ∙ ap (λ b. node_stays settings old new e c && b) (below (node_children settings new c))
    where
      below : (xs : List Address) → list_all (node_stays settings old new e) (flat_map (nodes_from settings new) xs) ≡ list_all (branch_stays settings old new e) xs
      below [] = refl
      below (x ∷ xs) = list_all-append (node_stays settings old new e) (nodes_from settings new x) (flat_map (nodes_from settings new) xs) ∙ ap (λ b. list_all (node_stays settings old new e) (nodes_from settings new x) && b) (below xs)

  pub branch_parts : (c : Address) → IsNode settings new c → branch_stays settings old new e c ≡ true → Stayed c × Each (λ d. branch_stays settings old new e d ≡ true) (node_children settings new c)
  branch_parts c node h =
      let t = both (node_stays settings old new e c) (list_all (branch_stays settings old new e) (node_children settings new c)) (sym (branch_is c node) ∙ h) in
      (stayed c node t.0, each_of (branch_stays settings old new e) (λ d. branch_stays settings old new e d ≡ true) (node_children settings new c) (λ d k. k) t.1)
