-- Cells under which a change has no effect: all nodes there stay.
use Rattle.std.proofs.Common.{◌≡◌, ℕ, zero, suc, ◌+◌, ◌<◌, ◌≤◌, ◌⊎◌, inl, inr, Bool, true, false, not, cond, refl, sym, ap, ◌∙◌, subst, arith, List, [], ◌∷◌, ◌&&◌, ◌||◌, eq-eqb, nat_lt}
use Rattle.std.specs.List.{AllByRecursion as Each, list_all, list_any}
use Rattle.act_grid.specs.declared.Point.{Point}
use Rattle.act_grid.specs.declared.Settings.{Settings}
use Rattle.act_grid.specs.Hull.{IsIn}
use Rattle.act_grid.specs.Cell.{Address, IsCell, IsPart, child_of, hull_of, root_cell}
use Rattle.act_grid.proofs.CellOrder.{child_within, in_within, part_from_point, part_within}
use Rattle.act_geom.specs.declared.class.Class.{Class}
use Rattle.act_geom.specs.declared.class.Class.TheVariants.{Inside, Outside, Mixed}
use Rattle.act_geom.specs.Class.{class_on}
use Rattle.act_geom.proofs.ClassFacts.{class_goes_down}
use Rattle.act_cover.specs.Covering.{class_at, is_on}
use Rattle.act_cover.specs.Level.{level_of}
use Rattle.act_super.specs.declared.entry.Entry.{Entry}
use Rattle.act_super.specs.declared.entry.State.{State}
use Rattle.act_super.specs.declared.entry.Zone.{Zone}
use Rattle.act_super.specs.Grounds.{is_mixed, is_split, on, same_cell, some_asks}
use Rattle.act_super.specs.NodeParts.{leaves_near, splits_near}
use Rattle.act_super.specs.Nodes.{IsNode, ground_of, is_parted, node_children, node_leaves}
use Rattle.act_super.specs.States.{after, changed}
use Rattle.act_super.proofs.TreeFacts.{asks_on}
use Rattle.act_super.proofs.UnderFacts.{split_low}
use Rattle.act_probe.proofs.EntryFacts.{node_deep}
use Rattle.act_probe.proofs.WayFacts.{first_in}
use Rattle.act_image.specs.Fresh.{branch_stays, is_changed, leaf_stays, node_stays, same_cells}
use Rattle.act_image.specs.Turned.{IsTrainedAlike, is_clear, is_free}
use Rattle.act_image.proofs.BranchFacts.{both, branch_is}
use Rattle.act_image.proofs.ClearFacts.{all_from, all_true, leaf_is, on_same}
use Rattle.act_image.proofs.Leaves.{LeafIn, SplitIn, child_cell, each_mono, leaves_are, node_reached, splits_are}
use Rattle.act_image.proofs.StepFacts.{children_nodes}

cases : (b : Bool) → (b ≡ true) ⊎ (b ≡ false)
cases true = inl refl
cases false = inr refl

-- ---- cells within a cell
pub record Within (c d : Address) : Type 0 where
  pub cell : IsCell d
  pub above : c.level ≤ d.level
  pub inside : IsIn (hull_of c) (hull_of d).lo

within_part : (c d : Address) → IsCell c → Within c d → IsPart c d
within_part c d cell w = part_from_point c d (hull_of d).lo cell w.cell w.above w.inside (first_in d w.cell)

child_in : (c : Address) (q : ℕ) → IsCell c → c.level < 30 → q < 4 → Within c (child_of c q)
child_in c q cell low small =
    let below = child_cell c q cell low small in
    record { cell = below; above = omega arith; inside = in_within (hull_of c) (hull_of (child_of c q)) (hull_of (child_of c q)).lo (child_within c q cell low small) (first_in (child_of c q) below) }

outside_within : (rings : List (List Point)) (c d : Address) → IsCell c → Within c d → class_at rings c ≡ Outside → class_at rings d ≡ Outside
unfolding class_at
outside_within rings c d cell w e =
    let pure : class_on rings (hull_of c) ≡ Mixed → ⊥ = λ m. cc in
    class_goes_down rings (hull_of c) (hull_of d) (part_within c d cell w.cell (within_part c d cell w)) pure ∙ e

off_within : (rings : List (List Point)) (c d : Address) → IsCell c → Within c d → is_on (class_at rings c) ≡ false → is_on (class_at rings d) ≡ false
off_within rings c d cell w h = ap is_on (outside_within rings c d cell w (off (class_at rings c) h))
  where
    off : (k : Class) → is_on k ≡ false → k ≡ Outside
    off Inside h = absurd (cc)
    off Outside h = refl
    off Mixed h = absurd (cc)

clear_within : (e : Entry) (zones : List Zone) (c d : Address) → IsCell c → Within c d → is_clear e zones c ≡ true → is_clear e zones d ≡ true
clear_within e [] c d cell w h = refl
clear_within e (zone ∷ zones) c d cell w h =
    let t = both (not (is_changed e zone.key && is_on (class_at zone.shape c))) (is_clear e zones c) h in
    all_true (not (is_changed e zone.key && is_on (class_at zone.shape d))) (is_clear e zones d)
    (one (is_changed e zone.key) (is_on (class_at zone.shape c)) (is_on (class_at zone.shape d)) (off_within zone.shape c d cell w) t.0) (clear_within e zones c d cell w t.1)
  where
    one : (a b k : Bool) → (b ≡ false → k ≡ false) → not (a && b) ≡ true → not (a && k) ≡ true
    one true true k f h = absurd (cc)
    one true false k f h = ap not (f refl)
    one false b k f h = refl

cells_self : (cells : List Address) → same_cells cells cells ≡ true
cells_self [] = refl
cells_self (c ∷ cells) = all_true (same_cell c c) (same_cells cells cells) (rw (eq-eqb c.level c.level refl, eq-eqb c.path c.path refl) refl) (cells_self cells)

pub each_both : {X : Type 0} (P Q R : X → Type 0) (xs : List X) → ((x : X) → P x → Q x → R x) → Each P xs → Each Q xs → Each R xs
each_both P Q R [] f h k = tt
each_both P Q R (x ∷ xs) f h k = (f x h.0 k.0, each_both P Q R xs f h.1 k.1)

pub stood_so : (settings : Settings) (state : State) (c : Address) → IsNode settings state c → (same_cell c root_cell || is_parted settings state c) ≡ true
stood_so settings state c node = by node.split
  where
    or_true : (b : Bool) → (b || true) ≡ true
    or_true true = refl
    or_true false = refl

    by : (c ≡ root_cell) ⊎ (is_parted settings state c ≡ true) → (same_cell c root_cell || is_parted settings state c) ≡ true
    by (inl same) = let self : same_cell c root_cell ≡ true = rw same refl in ap (λ b. b || is_parted settings state c) self
    by (inr parted) = ap (λ b. same_cell c root_cell || b) parted ∙ or_true (same_cell c root_cell)

module _ (settings : Settings) (old : State) (e : Entry) where
  -- the change has no effect within the cell
  pub record Untouched (c : Address) : Type 0 where
    pub cell : IsCell c
    pub free : is_free e old.zones c ≡ true
    pub alike : IsTrainedAlike old (after settings old e) c

  pub untouched_within : (c d : Address) → Untouched c → Within c d → Untouched d
  untouched_within c d u w =
      let t = both (is_clear e old.zones c) (is_clear e (changed old.zones e) c) u.free in
      record {
        cell = w.cell;
        free = all_true (is_clear e old.zones d) (is_clear e (changed old.zones e) d) (clear_within e old.zones c d u.cell w t.0) (clear_within e (changed old.zones e) c d u.cell w t.1);
        alike = λ x cell inside. u.alike x cell (in_within (hull_of c) (hull_of d) (hull_of x).lo (part_within c d u.cell w.cell (within_part c d u.cell w)) inside);
      }

  -- so the same cells are split there
  asks_same : (c : Address) → Untouched c → some_asks (ground_of settings old) c old.zones ≡ some_asks (ground_of settings (after settings old e)) c (changed old.zones e)
  asks_same c u =
      sym (asks_on (ground_of settings old) c old.zones)
      ∙ ap (λ b. list_any (λ (zone : Zone). is_mixed (class_at zone.shape c) && (nat_lt c.level (level_of zone.shape settings.cells) || b)) (on (ground_of settings old) old.zones c)) (u.alike c u.cell (first_in c u.cell))
      ∙ ap (some_asks (ground_of settings (after settings old e)) c) (sym (on_same e old.zones c u.free))
      ∙ asks_on (ground_of settings (after settings old e)) c (changed old.zones e)

  split_same : (c : Address) → Untouched c → is_split (ground_of settings old) old.zones c ≡ is_split (ground_of settings (after settings old e)) (changed old.zones e) c
  split_same c u = ap (λ b. nat_lt c.level 28 && b) (asks_same c u)

  leaves_same : (k : ℕ) (c : Address) → Untouched c → leaves_near (ground_of settings old) k old.zones c ≡ leaves_near (ground_of settings (after settings old e)) k (changed old.zones e) c
  unfolding leaves_near
  leaves_same zero c u = ap (λ b. cond b [] (c ∷ [])) (split_same c u)
  leaves_same (suc k) c u =
      let test = split_same c u in
      elim (cases (is_split (ground_of settings (after settings old e)) (changed old.zones e) c)) [
        | inl s ↦
            let low = split_low (ground_of settings (after settings old e)) (changed old.zones e) c s in
            let sub : (q : ℕ) → q < 4 → leaves_near (ground_of settings old) k old.zones (child_of c q) ≡ leaves_near (ground_of settings (after settings old e)) k (changed old.zones e) (child_of c q) =
            λ q four. leaves_same k (child_of c q) (untouched_within c (child_of c q) u (child_in c q u.cell (omega arith) four)) in
            rw (test, s, sub 0 (omega arith), sub 1 (omega arith), sub 2 (omega arith), sub 3 (omega arith)) refl
        | inr s ↦ rw (test, s) refl
      ]

  splits_same : (k : ℕ) (c : Address) → Untouched c → splits_near (ground_of settings old) k old.zones c ≡ splits_near (ground_of settings (after settings old e)) k (changed old.zones e) c
  unfolding splits_near
  splits_same zero c u = ap (λ b. cond b (c ∷ []) []) (split_same c u)
  splits_same (suc k) c u =
      let test = split_same c u in
      elim (cases (is_split (ground_of settings (after settings old e)) (changed old.zones e) c)) [
        | inl s ↦
            let low = split_low (ground_of settings (after settings old e)) (changed old.zones e) c s in
            let sub : (q : ℕ) → q < 4 → splits_near (ground_of settings old) k old.zones (child_of c q) ≡ splits_near (ground_of settings (after settings old e)) k (changed old.zones e) (child_of c q) =
            λ q four. splits_same k (child_of c q) (untouched_within c (child_of c q) u (child_in c q u.cell (omega arith) four)) in
            rw (test, s, sub 0 (omega arith), sub 1 (omega arith), sub 2 (omega arith), sub 3 (omega arith)) refl
        | inr s ↦ rw (test, s) refl
      ]

  -- a node that stood stays, and so do all under it
  module _ (c : Address) (u : Untouched c) (was : IsNode settings old c) (node : IsNode settings (after settings old e) c) where
    leaf_cells : Each (LeafIn settings (after settings old e) c 4) (node_leaves settings (after settings old e) c)
    leaf_cells = leaves_are settings (after settings old e) 4 c u.cell (omega (arith, node_deep settings (after settings old e) c node)) (node_reached settings (after settings old e) c node)

    split_cells : Each (SplitIn settings (after settings old e) c 4) (node_children settings (after settings old e) c)
    split_cells = splits_are settings (after settings old e) 4 c u.cell (omega (arith, node_deep settings (after settings old e) c node)) (node_reached settings (after settings old e) c node)

    leaves_stay : list_all (leaf_stays old (after settings old e) e) (node_leaves settings (after settings old e) c) ≡ true
    leaves_stay = all_from (leaf_stays old (after settings old e) e) (node_leaves settings (after settings old e) c)
        (each_mono (LeafIn settings (after settings old e) c 4) (λ l. leaf_stays old (after settings old e) e l ≡ true) (node_leaves settings (after settings old e) c)
        (λ l h. leaf_is settings old e l ∙ (untouched_within c l u (record { cell = h.leaf.cell; above = h.above; inside = h.inside })).free) leaf_cells)

    pub own_stays : node_stays settings old (after settings old e) e c ≡ true
    own_stays =
        let leaves : same_cells (node_leaves settings old c) (node_leaves settings (after settings old e) c) ≡ true =
        ap (λ xs. same_cells xs (node_leaves settings (after settings old e) c)) (leaves_same 4 c u) ∙ cells_self (node_leaves settings (after settings old e) c) in
        let children : same_cells (node_children settings old c) (node_children settings (after settings old e) c) ≡ true =
        ap (λ xs. same_cells xs (node_children settings (after settings old e) c)) (splits_same 4 c u) ∙ cells_self (node_children settings (after settings old e) c) in
        all_true ((same_cell c root_cell || is_parted settings old c) && same_cells (node_leaves settings old c) (node_leaves settings (after settings old e) c) && same_cells (node_children settings old c) (node_children settings (after settings old e) c))
        (list_all (leaf_stays old (after settings old e) e) (node_leaves settings (after settings old e) c))
        (all_true ((same_cell c root_cell || is_parted settings old c) && same_cells (node_leaves settings old c) (node_leaves settings (after settings old e) c))
        (same_cells (node_children settings old c) (node_children settings (after settings old e) c))
        (all_true (same_cell c root_cell || is_parted settings old c) (same_cells (node_leaves settings old c) (node_leaves settings (after settings old e) c)) (stood_so settings old c was) leaves) children) leaves_stay

    -- a child node that the change doesn't touch either
    pub record Child (d : Address) : Type 0 where
      pub untouched : Untouched d
      pub before : IsNode settings old d
      pub later : IsNode settings (after settings old e) d
      pub level : d.level ≡ c.level + 4

    pub children_so : Each Child (node_children settings (after settings old e) c)
    children_so =
        each_both (SplitIn settings (after settings old e) c 4) (λ d. IsNode settings old d × IsNode settings (after settings old e) d) Child (node_children settings (after settings old e) c)
        (λ d h n. record { untouched = untouched_within c d u (record { cell = h.cell; above = omega (arith, h.level); inside = h.inside }); before = n.0; later = n.1; level = h.level }) split_cells
        (each_both (IsNode settings old) (IsNode settings (after settings old e)) (λ d. IsNode settings old d × IsNode settings (after settings old e) d) (node_children settings (after settings old e) c) (λ d a b. (a, b))
        (subst (Each (IsNode settings old)) (splits_same 4 c u) (children_nodes settings old c was)) (children_nodes settings (after settings old e) c node))

  prune_by : (n : ℕ) (c : Address) → 28 ≤ c.level + n → Untouched c → IsNode settings old c → IsNode settings (after settings old e) c → branch_stays settings old (after settings old e) e c ≡ true
  prune_by zero c low u was node = absurd (omega (arith, low, node_deep settings (after settings old e) c node))
  prune_by (suc n) c low u was node =
      branch_is settings old (after settings old e) e c node
      ∙ all_true (node_stays settings old (after settings old e) e c) (list_all (branch_stays settings old (after settings old e) e) (node_children settings (after settings old e) c)) (own_stays c u was node)
      (all_from (branch_stays settings old (after settings old e) e) (node_children settings (after settings old e) c)
      (each_mono (Child c u was node) (λ d. branch_stays settings old (after settings old e) e d ≡ true) (node_children settings (after settings old e) c)
      (λ d h. prune_by n d (omega (arith, low, h.level)) h.untouched h.before h.later) (children_so c u was node)))

  pub prune : (c : Address) → Untouched c → IsNode settings old c → IsNode settings (after settings old e) c → branch_stays settings old (after settings old e) e c ≡ true
  prune c u was node = prune_by 28 c (omega arith) u was node
