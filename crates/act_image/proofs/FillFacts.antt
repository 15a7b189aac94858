-- The entries that the spots of a node fill.
use Rattle.std.proofs.Common.{◌≡◌, ◌≢◌, ℕ, suc, ◌+◌, ◌-◌, ◌*◌, ◌/◌, ◌^◌, ◌<◌, ◌≤◌, ◌⊎◌, inl, inr, Bool, true, false, cond, refl, sym, ap, ◌∙◌, subst, arith, List, [], ◌∷◌, ◌++◌, nat_lt, ◌&&◌, eqb, length, get_or}
use Rattle.std.specs.Prelude.{nat_le}
use Rattle.std.specs.List.{AllByRecursion as Each}
use Rattle.std.proofs.lemmas.Bool.{ltb-true, ltb-false}
use Rattle.std.proofs.lemmas.Bool.Decides.{eqb_tells, nat_tests}
use Rattle.act_grid.specs.declared.Settings.{Settings}
use Rattle.act_grid.specs.Hull.{IsIn}
use Rattle.act_grid.specs.Cell.{Address, IsCell, IsPart, entries_filled, first_entry, hull_of, entry_cell as cell_of_entry}
use Rattle.act_grid.proofs.CellOrder.{one_cell, part_from_point, part_within}
use Rattle.act_grid.proofs.SlotFacts.{slot_entries}
use Rattle.act_entry.specs.declared.entry.Entry.{Entry}
use Rattle.act_entry.specs.declared.entry.Entry.TheVariants as entry
use Rattle.act_super.specs.declared.entry.State.{State}
use Rattle.act_super.specs.declared.entry.Zone.{Zone}
use Rattle.act_super.specs.Grounds.{same_cell}
use Rattle.act_super.specs.Nodes.{IsNode, entry_cell, first_leaf, is_parted, list_start, node_children, node_leaves}
use Rattle.act_super.specs.Sizes.{refs_of}
use Rattle.act_super.specs.Stands.{entry_for, start_in}
use Rattle.act_probe.proofs.NodeFacts.{Among}
use Rattle.act_probe.proofs.WayFacts.{first_in}
use Rattle.act_probe.proofs.EntryFacts.{node_deep}
use Rattle.act_image.specs.declared.lists.Fill.{Fill}
use Rattle.act_image.specs.declared.spots.Spot.{Spot}
use Rattle.act_image.specs.Words.{entry_in, fills}
use Rattle.act_image.specs.Plans.{child_spots, filled, leaf_spots, no_fill, refs_on, spot_at, spots_of, start_at}
use Rattle.act_image.proofs.Leaves.{Held, LeafIn, SplitIn, covered, each_among, each_mono, first_is_leaf, first_holds, first_leaf_is, leaves_are, node_reached, split_parted, splits_are}

pub same_is : (c d : Address) → same_cell c d ≡ true → c ≡ d
same_is c d e = by (eqb_tells c.level d.level) (eqb_tells c.path d.path) e
  where
    by : ((eqb c.level d.level ≡ true) × (c.level ≡ d.level)) ⊎ ((eqb c.level d.level ≡ false) × (c.level ≢ d.level))
        → ((eqb c.path d.path ≡ true) × (c.path ≡ d.path)) ⊎ ((eqb c.path d.path ≡ false) × (c.path ≢ d.path)) → (eqb c.level d.level && eqb c.path d.path) ≡ true → c ≡ d
    by (inl a) (inl b) e = λ i. record { level = a.1 i; path = b.1 i }
    by (inl a) (inr b) e = let no : (true && false) ≡ true = rw (a.0, b.0) at e in absurd (cc)
    by (inr a) b e = let no : false ≡ true = rw a.0 at e in absurd (cc)

pub same_self : (c d : Address) → c ≡ d → same_cell c d ≡ true
same_self c d e = subst (λ (x : Address). same_cell c x ≡ true) e (itself c)
  where
    self : (n : ℕ) → eqb n n ≡ true
    self n = grind (arith, nat_tests)

    itself : (c : Address) → same_cell c c ≡ true
    itself c = rw (self c.level, self c.path) refl

pub other_is : (c d : Address) → same_cell c d ≡ false → c ≢ d
other_is c d e same = let yes = sym e ∙ same_self c d same in cc

two_bools : (a b : Bool) → (a ≡ true → b ≡ true) → (b ≡ true → a ≡ true) → a ≡ b
two_bools true true f g = refl
two_bools true false f g = sym (f refl)
two_bools false true f g = g refl
two_bools false false f g = refl

-- a leaf or a split cell of a node fills the entries whose cells are parts of it
module _ (c : Address) (i : ℕ) (small : i < 256) (l : Address) (cell : IsCell c) (cell_l : IsCell l) (above : c.level ≤ l.level) (near : l.level ≤ c.level + 4) (inside : IsIn (hull_of c) (hull_of l).lo) where
  on_entry : cell_of_entry l c.level i ≡ entry_cell c i
  on_entry = ap (λ n. record { level = c.level + 4; path = n * 256 + i }) (part_from_point c l (hull_of l).lo cell cell_l above inside (first_in l cell_l)).begins

  pub fills_part : (x : Entry) → fills (spot_at c.level l x) i ≡ true → IsPart l (entry_cell c i)
  fills_part x e = subst (IsPart l) on_entry ((slot_entries l c.level i above near small).0 (tells (first_entry l c.level) (entries_filled l c.level) e))
    where
      tells : (f n : ℕ) → (nat_le f i && nat_lt i (f + n)) ≡ true → (f ≤ i) × (i < f + n)
      tells f n e = grind (arith, nat_tests)

  pub part_fills : (x : Entry) → IsPart l (entry_cell c i) → fills (spot_at c.level l x) i ≡ true
  part_fills x part =
      let both = (slot_entries l c.level i above near small).1 (subst (IsPart l) (sym on_entry) part) in
      tells (first_entry l c.level) (entries_filled l c.level) both.0 both.1
    where
      tells : (f n : ℕ) → f ≤ i → i < f + n → (nat_le f i && nat_lt i (f + n)) ≡ true
      tells f n h k = grind (arith, nat_tests)

-- ---- lists of spots
pub entry_left : (xs ys : List Spot) (i : ℕ) → Each (λ spot. fills spot i ≡ false) xs → entry_in (xs ++ ys) i ≡ entry_in ys i
entry_left [] ys i h = refl
entry_left (x ∷ xs) ys i h = ap (λ b. cond b x.entry (entry_in (xs ++ ys) i)) h.0 ∙ entry_left xs ys i h.1

module _ (zones : List Zone) (level base i : ℕ) (rest : List Spot) where
  -- no leaf fills the entry
  pub no_leaf : (leaves : List Address) (s : Fill) → Each (λ leaf. (x : Entry) → fills (spot_at level leaf x) i ≡ false) leaves
      → entry_in (leaf_spots zones level base s leaves ++ rest) i ≡ entry_in rest i
  no_leaf [] s h = refl
  no_leaf (leaf ∷ leaves) s h =
      ap (λ b. cond b (entry_for (refs_on zones leaf) (base + (start_at s (length (refs_of zones leaf))).row) (start_at s (length (refs_of zones leaf))).place)
      (entry_in (leaf_spots zones level base (filled s (length (refs_of zones leaf))) leaves ++ rest) i)) (h.0 (entry_for (refs_on zones leaf) (base + (start_at s (length (refs_of zones leaf))).row) (start_at s (length (refs_of zones leaf))).place))
      ∙ no_leaf leaves (filled s (length (refs_of zones leaf))) h.1

  -- the entry of the leaf that fills it
  pub one_leaf_fills : (trained : List Address) (leaf : Address) (leaves : List Address) (s : Fill) → Among leaves leaf
      → Each (λ other. (x : Entry) → fills (spot_at level other x) i ≡ same_cell other leaf) leaves
      → entry_in (leaf_spots zones level base s leaves ++ rest) i
      ≡ entry_for (refs_on zones leaf) (base + (list_start (record { zones = zones; trained = trained }) (record { rows = s.rows; at = s.at }) leaves leaf).row)
      (list_start (record { zones = zones; trained = trained }) (record { rows = s.rows; at = s.at }) leaves leaf).place
  one_leaf_fills trained leaf [] s among h = absurd among
  one_leaf_fills trained leaf (other ∷ leaves) s among h =
      ap (λ b. cond b (entry_for (refs_on zones other) (base + (start_at s (length (refs_of zones other))).row) (start_at s (length (refs_of zones other))).place)
      (entry_in (leaf_spots zones level base (filled s (length (refs_of zones other))) leaves ++ rest) i))
      (h.0 (entry_for (refs_on zones other) (base + (start_at s (length (refs_of zones other))).row) (start_at s (length (refs_of zones other))).place))
      ∙ by (same_cell other leaf) refl among (λ among. one_leaf_fills trained leaf leaves (filled s (length (refs_of zones other))) among h.1)
    where
      by : (b : Bool) → same_cell other leaf ≡ b → Among (other ∷ leaves) leaf
          → (Among leaves leaf → entry_in (leaf_spots zones level base (filled s (length (refs_of zones other))) leaves ++ rest) i
          ≡ entry_for (refs_on zones leaf) (base + (list_start (record { zones = zones; trained = trained }) (record { rows = (filled s (length (refs_of zones other))).rows; at = (filled s (length (refs_of zones other))).at }) leaves leaf).row)
          (list_start (record { zones = zones; trained = trained }) (record { rows = (filled s (length (refs_of zones other))).rows; at = (filled s (length (refs_of zones other))).at }) leaves leaf).place)
          → cond b (entry_for (refs_on zones other) (base + (start_at s (length (refs_of zones other))).row) (start_at s (length (refs_of zones other))).place)
          (entry_in (leaf_spots zones level base (filled s (length (refs_of zones other))) leaves ++ rest) i)
          ≡ entry_for (refs_on zones leaf)
          (base + (cond b (start_at s (length (refs_of zones other))) (list_start (record { zones = zones; trained = trained }) (record { rows = (filled s (length (refs_of zones other))).rows; at = (filled s (length (refs_of zones other))).at }) leaves leaf)).row)
          (cond b (start_at s (length (refs_of zones other))) (list_start (record { zones = zones; trained = trained }) (record { rows = (filled s (length (refs_of zones other))).rows; at = (filled s (length (refs_of zones other))).at }) leaves leaf)).place
      by true e among more = ap (λ l. entry_for (refs_on zones l) (base + (start_at s (length (refs_of zones other))).row) (start_at s (length (refs_of zones other))).place) (same_is other leaf e)
      by false e (inl same) more = absurd (other_is other leaf e same)
      by false e (inr among) more = more among

-- the child node that fills an entry
pub record ChildAt (slot : ℕ) (children : List Address) (e : Address) (found : Entry) : Type 0 where
  pub place : ℕ
  pub within : place < length children
  pub cell : get_or children place e ≡ e
  pub is : found ≡ entry.Child (slot + place)

pub one_child_fills : (level i : ℕ) (e : Address) (children : List Address) (slot : ℕ) → Among children e
    → Each (λ child. (x : Entry) → fills (spot_at level child x) i ≡ same_cell child e) children
    → ChildAt slot children e (entry_in (child_spots level slot children) i)
one_child_fills level i e [] slot among h = absurd among
one_child_fills level i e (child ∷ children) slot among h =
    by (same_cell child e) refl (h.0 (entry.Child slot)) among (λ among. one_child_fills level i e children (slot + 1) among h.1)
  where
    by : (b : Bool) → same_cell child e ≡ b → fills (spot_at level child (entry.Child slot)) i ≡ same_cell child e → Among (child ∷ children) e
        → (Among children e → ChildAt (slot + 1) children e (entry_in (child_spots level (slot + 1) children) i))
        → ChildAt slot (child ∷ children) e (cond (fills (spot_at level child (entry.Child slot)) i) (entry.Child slot) (entry_in (child_spots level (slot + 1) children) i))
    by true same fill among more =
        let yes = fill ∙ same in
        let none : slot ≡ slot + 0 = omega arith in
        record { place = 0; within = omega arith; cell = same_is child e same; is = ap (λ b. cond b (entry.Child slot) (entry_in (child_spots level (slot + 1) children) i)) yes ∙ ap entry.Child none }
    by false same fill (inl is) more = absurd (other_is child e same is)
    by false same fill (inr among) more =
        let no = fill ∙ same in
        let rec = more among in
        let next : slot + 1 + rec.place ≡ slot + suc rec.place = omega arith in
        record {
          place = suc rec.place;
          within = omega (arith, rec.within);
          cell = rec.cell;
          is = ap (λ b. cond b (entry.Child slot) (entry_in (child_spots level (slot + 1) children) i)) no ∙ rec.is ∙ ap entry.Child next;
        }

-- ---- the entries of a node
module _ (settings : Settings) (state : State) (c : Address) (node : IsNode settings state c) (i : ℕ) (small : i < 256) where
  deep : c.level ≤ 24
  deep = node_deep settings state c node

  pub entry_is_cell : IsCell (entry_cell c i)
  entry_is_cell =
      let four_more : 4 ^ (c.level + 4) ≡ 4 ^ c.level * 256 = Rattle.std.proofs.lemmas.Nat.pow-add 4 c.level 4 in
      record { deep = omega (arith, deep); short = omega (arith, four_more, node.cell.short, small) }

  entry_part : IsPart c (entry_cell c i)
  entry_part =
      let four_levels : c.level + 4 - c.level ≡ 4 = omega arith in
      let up : (c.path * 256 + i) / 4 ^ 4 ≡ c.path = omega (arith, small) in
      record { below = omega arith; begins = ap (λ n. (c.path * 256 + i) / 4 ^ n) four_levels ∙ up }

  entry_inside : IsIn (hull_of c) (hull_of (entry_cell c i)).lo
  entry_inside = (part_within c (entry_cell c i) node.cell entry_is_cell entry_part).low

  in_part : (l : Address) → IsCell l → IsPart l (entry_cell c i) → IsIn (hull_of l) (hull_of (entry_cell c i)).lo
  in_part l cell part = (part_within l (entry_cell c i) cell entry_is_cell part).low

  near_leaves : Each (LeafIn settings state c 4) (node_leaves settings state c)
  near_leaves = leaves_are settings state 4 c node.cell (omega (arith, deep)) (node_reached settings state c node)

  near_splits : Each (SplitIn settings state c 4) (node_children settings state c)
  near_splits = splits_are settings state 4 c node.cell (omega (arith, deep)) (node_reached settings state c node)

  cover : Held settings state (node_leaves settings state c) (entry_cell c i) ⊎ Among (node_children settings state c) (entry_cell c i)
  cover = covered settings state 4 c (entry_cell c i) node.cell entry_is_cell (omega (arith, deep)) refl entry_inside

  leaf_is_first : (l : Address) → LeafIn settings state c 4 l → IsPart l (entry_cell c i) → first_leaf settings state (entry_cell c i) ≡ l
  leaf_is_first l h part = first_leaf_is settings state (entry_cell c i) l entry_is_cell h.leaf (in_part l h.leaf.cell part)

  leaf_fills : (l : Address) → LeafIn settings state c 4 l → (x : Entry) → is_parted settings state (entry_cell c i) ≡ false
      → fills (spot_at c.level l x) i ≡ same_cell l (first_leaf settings state (entry_cell c i))
  leaf_fills l h x whole =
      two_bools (fills (spot_at c.level l x) i) (same_cell l (first_leaf settings state (entry_cell c i)))
      (λ e. same_self l (first_leaf settings state (entry_cell c i)) (sym (leaf_is_first l h (fills_part c i small l node.cell h.leaf.cell h.above h.near h.inside x e))))
      (λ e.
      let is = same_is l (first_leaf settings state (entry_cell c i)) e in
      let low : (first_leaf settings state (entry_cell c i)).level ≤ (entry_cell c i).level = ltb-false (entry_cell c i).level _ whole in
      let part = part_from_point (first_leaf settings state (entry_cell c i)) (entry_cell c i) (hull_of (entry_cell c i)).lo (first_is_leaf settings state (entry_cell c i) entry_is_cell).cell entry_is_cell low
      (first_holds settings state (entry_cell c i) entry_is_cell) (first_in (entry_cell c i) entry_is_cell) in
      part_fills c i small l node.cell h.leaf.cell h.above h.near h.inside x (subst (λ (a : Address). IsPart a (entry_cell c i)) (sym is) part))

  leaf_fills_not : (l : Address) → LeafIn settings state c 4 l → (x : Entry) → is_parted settings state (entry_cell c i) ≡ true → fills (spot_at c.level l x) i ≡ false
  leaf_fills_not l h x parted = by (fills (spot_at c.level l x) i) refl
    where
      by : (b : Bool) → fills (spot_at c.level l x) i ≡ b → b ≡ false
      by false e = refl
      by true e =
          let is = leaf_is_first l h (fills_part c i small l node.cell h.leaf.cell h.above h.near h.inside x e) in
          let deeper : (entry_cell c i).level < (first_leaf settings state (entry_cell c i)).level = ltb-true (entry_cell c i).level _ parted in
          absurd (omega (arith, deeper, h.near, ap (λ (a : Address). a.level) is))

  child_fills : (d : Address) → SplitIn settings state c 4 d → (x : Entry) → fills (spot_at c.level d x) i ≡ same_cell d (entry_cell c i)
  child_fills d h x =
      two_bools (fills (spot_at c.level d x) i) (same_cell d (entry_cell c i))
      (λ e. same_self d (entry_cell c i) (one_cell d (entry_cell c i) (hull_of (entry_cell c i)).lo h.cell entry_is_cell h.level
      (in_part d h.cell (fills_part c i small d node.cell h.cell (omega (arith, h.level)) (omega (arith, h.level)) h.inside x e)) (first_in (entry_cell c i) entry_is_cell)))
      (λ e.
      let is = same_is d (entry_cell c i) e in
      let part = part_from_point (entry_cell c i) (entry_cell c i) (hull_of (entry_cell c i)).lo entry_is_cell entry_is_cell (omega arith) (first_in (entry_cell c i) entry_is_cell) (first_in (entry_cell c i) entry_is_cell) in
      part_fills c i small d node.cell h.cell (omega (arith, h.level)) (omega (arith, h.level)) h.inside x (subst (λ (a : Address). IsPart a (entry_cell c i)) (sym is) part))

  -- the leaf at the entry is a leaf of the node
  pub leaf_among : is_parted settings state (entry_cell c i) ≡ false → Among (node_leaves settings state c) (first_leaf settings state (entry_cell c i))
  leaf_among whole = by cover
    where
      by : Held settings state (node_leaves settings state c) (entry_cell c i) ⊎ Among (node_children settings state c) (entry_cell c i)
          → Among (node_leaves settings state c) (first_leaf settings state (entry_cell c i))
      by (inl h) =
          let leaf = each_among (LeafIn settings state c 4) (node_leaves settings state c) h.leaf near_leaves h.among in
          subst (Among (node_leaves settings state c)) (sym (first_leaf_is settings state (entry_cell c i) h.leaf entry_is_cell leaf.leaf h.inside)) h.among
      by (inr among) =
          let s = each_among (SplitIn settings state c 4) (node_children settings state c) (entry_cell c i) near_splits among in
          let no = sym whole ∙ split_parted settings state (entry_cell c i) entry_is_cell s.reached s.split in
          absurd (cc)

  pub child_among : is_parted settings state (entry_cell c i) ≡ true → Among (node_children settings state c) (entry_cell c i)
  child_among parted = by cover
    where
      by : Held settings state (node_leaves settings state c) (entry_cell c i) ⊎ Among (node_children settings state c) (entry_cell c i)
          → Among (node_children settings state c) (entry_cell c i)
      by (inr among) = among
      by (inl h) =
          let leaf = each_among (LeafIn settings state c 4) (node_leaves settings state c) h.leaf near_leaves h.among in
          let is = first_leaf_is settings state (entry_cell c i) h.leaf entry_is_cell leaf.leaf h.inside in
          let deeper : (entry_cell c i).level < (first_leaf settings state (entry_cell c i)).level = ltb-true (entry_cell c i).level _ parted in
          absurd (omega (arith, deeper, leaf.near, ap (λ (a : Address). a.level) is))

  -- a child node's entry is split, and a leaf that holds an entry is its own
  pub child_parted : Among (node_children settings state c) (entry_cell c i) → is_parted settings state (entry_cell c i) ≡ true
  child_parted among =
      let s = each_among (SplitIn settings state c 4) (node_children settings state c) (entry_cell c i) near_splits among in
      split_parted settings state (entry_cell c i) entry_is_cell s.reached s.split

  pub first_is : (l : Address) → Among (node_leaves settings state c) l → IsIn (hull_of l) (hull_of (entry_cell c i)).lo → first_leaf settings state (entry_cell c i) ≡ l
  first_is l among inside = first_leaf_is settings state (entry_cell c i) l entry_is_cell (each_among (LeafIn settings state c 4) (node_leaves settings state c) l near_leaves among).leaf inside

  pub first_inside : IsIn (hull_of (first_leaf settings state (entry_cell c i))) (hull_of (entry_cell c i)).lo
  first_inside = first_holds settings state (entry_cell c i) entry_is_cell

  pub leaf_entry_is : (base slot : ℕ) → is_parted settings state (entry_cell c i) ≡ false
      → entry_in (spots_of settings state base slot c) i
      ≡ entry_for (refs_on state.zones (first_leaf settings state (entry_cell c i))) (base + (start_in settings state c (first_leaf settings state (entry_cell c i))).row)
      (start_in settings state c (first_leaf settings state (entry_cell c i))).place
  leaf_entry_is base slot whole =
      one_leaf_fills state.zones c.level base i (child_spots c.level slot (node_children settings state c)) state.trained (first_leaf settings state (entry_cell c i)) (node_leaves settings state c) no_fill (leaf_among whole)
      (each_mono (LeafIn settings state c 4) (λ other. (x : Entry) → fills (spot_at c.level other x) i ≡ same_cell other (first_leaf settings state (entry_cell c i))) (node_leaves settings state c)
      (λ l h x. leaf_fills l h x whole) near_leaves)

  pub child_entry_is : (base slot : ℕ) → is_parted settings state (entry_cell c i) ≡ true
      → ChildAt slot (node_children settings state c) (entry_cell c i) (entry_in (spots_of settings state base slot c) i)
  child_entry_is base slot parted =
      let skip = no_leaf state.zones c.level base i (child_spots c.level slot (node_children settings state c)) (node_leaves settings state c) no_fill
      (each_mono (LeafIn settings state c 4) (λ leaf. (x : Entry) → fills (spot_at c.level leaf x) i ≡ false) (node_leaves settings state c) (λ l h x. leaf_fills_not l h x parted) near_leaves) in
      let at = one_child_fills c.level i (entry_cell c i) (node_children settings state c) slot (child_among parted)
      (each_mono (SplitIn settings state c 4) (λ child. (x : Entry) → fills (spot_at c.level child x) i ≡ same_cell child (entry_cell c i)) (node_children settings state c) (λ d h x. child_fills d h x) near_splits) in
      record { place = at.place; within = at.within; cell = at.cell; is = skip ∙ at.is }
