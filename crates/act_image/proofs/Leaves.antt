-- Which leaf fills an entry of a node.
use Rattle.std.proofs.Common.{◌≡◌, ℕ, zero, suc, ◌+◌, ◌-◌, ◌*◌, ◌/◌, ◌^◌, ◌<◌, ◌≤◌, ◌⊎◌, inl, inr, Bool, true, false, cond, refl, sym, ap, ◌∙◌, subst, arith, List, [], ◌∷◌, ◌++◌, nat_lt}
use Rattle.std.specs.List.{AllByRecursion as Each}
use Rattle.std.proofs.lemmas.Bool.{le-ltb}
use Rattle.std.proofs.lemmas.Bool.Decides.{nat_tests}
use Rattle.std.proofs.lemmas.Nat.{div_below, pow-add, pow_pos, shr-shr}
use Rattle.act_grid.specs.declared.Settings.{Settings}
use Rattle.act_grid.specs.Hull.{IsIn}
use Rattle.act_grid.specs.Cell.{Address, IsCell, IsPart, child_of, hull_of, root_cell}
use Rattle.act_grid.proofs.CellFacts.{four}
use Rattle.act_grid.proofs.CellOrder.{child_within, in_within, one_cell, part_from_point, part_within, some_child}
use Rattle.act_super.specs.declared.entry.State.{State}
use Rattle.act_super.specs.Grounds.{is_split}
use Rattle.act_super.specs.Laws.{IsLeaf}
use Rattle.act_super.specs.NodeParts.{leaves_near, splits_near}
use Rattle.act_super.specs.Nodes.{IsNode, first_leaf, ground_of, is_parted}
use Rattle.act_super.proofs.LawFacts.{leaf_holds_point, one_leaf}
use Rattle.act_probe.proofs.NodeFacts.{Among}
use Rattle.act_probe.proofs.WayFacts.{first_in, in_root}

-- ---- lists of cells
pub among_left : (xs ys : List Address) (c : Address) → Among xs c → Among (xs ++ ys) c
among_left [] ys c h = absurd h
among_left (x ∷ xs) ys c (inl same) = inl same
among_left (x ∷ xs) ys c (inr more) = inr (among_left xs ys c more)

pub among_right : (xs ys : List Address) (c : Address) → Among ys c → Among (xs ++ ys) c
among_right [] ys c h = h
among_right (x ∷ xs) ys c h = inr (among_right xs ys c h)

pub among_four : (f : ℕ → List Address) (c : Address) (q : ℕ) → q < 4 → Among (f q) c → Among (f 0 ++ f 1 ++ f 2 ++ f 3) c
among_four f c zero small h = among_left (f 0 ++ f 1 ++ f 2) (f 3) c (among_left (f 0 ++ f 1) (f 2) c (among_left (f 0) (f 1) c h))
among_four f c (suc zero) small h = among_left (f 0 ++ f 1 ++ f 2) (f 3) c (among_left (f 0 ++ f 1) (f 2) c (among_right (f 0) (f 1) c h))
among_four f c (suc (suc zero)) small h = among_left (f 0 ++ f 1 ++ f 2) (f 3) c (among_right (f 0 ++ f 1) (f 2) c h)
among_four f c (suc (suc (suc zero))) small h = among_right (f 0 ++ f 1 ++ f 2) (f 3) c h
among_four f c (suc (suc (suc (suc q)))) small h = absurd (omega (arith, small))

pub each_append : {X : Type 0} (P : X → Type 0) (xs ys : List X) → Each P xs → Each P ys → Each P (xs ++ ys)
each_append P [] ys a b = b
each_append P (x ∷ xs) ys a b = (a.0, each_append P xs ys a.1 b)

pub each_four : {X : Type 0} (P : X → Type 0) (f : ℕ → List X) → ((q : ℕ) → q < 4 → Each P (f q)) → Each P (f 0 ++ f 1 ++ f 2 ++ f 3)
each_four P f h =
    each_append P (f 0 ++ f 1 ++ f 2) (f 3) (each_append P (f 0 ++ f 1) (f 2) (each_append P (f 0) (f 1) (h 0 (omega arith)) (h 1 (omega arith))) (h 2 (omega arith))) (h 3 (omega arith))

pub each_mono : {X : Type 0} (P Q : X → Type 0) (xs : List X) → ((x : X) → P x → Q x) → Each P xs → Each Q xs
each_mono P Q [] h e = tt
each_mono P Q (x ∷ xs) h e = (h x e.0, each_mono P Q xs h e.1)

-- what each of a list has, one of them has
pub each_among : (P : Address → Type 0) (xs : List Address) (c : Address) → Each P xs → Among xs c → P c
each_among P [] c e h = absurd h
each_among P (x ∷ xs) c e (inl same) = subst P same e.0
each_among P (x ∷ xs) c e (inr more) = each_among P xs c e.1 more

pub child_cell : (c : Address) (q : ℕ) → IsCell c → c.level < 30 → q < 4 → IsCell (child_of c q)
child_cell c q cell low small = Rattle.act_cover.proofs.Placed.child_cell c q cell low small

same_address : (c d : Address) → c.level ≡ d.level → c.path ≡ d.path → c ≡ d
same_address c d e f = λ i. record { level = e i; path = f i }

div_four : (n k : ℕ) → n / 4 / 4 ^ k ≡ n / 4 ^ suc k
div_four n k =
    let e : 2 * suc k ≡ 2 + 2 * k = omega arith in
    ap (λ v. n / 4 / v) (four k) ∙ shr-shr n 2 (2 * k) ∙ ap (λ v. n / 2 ^ v) (sym e) ∙ ap (λ v. n / v) (sym (four (suc k)))

-- a cell above a child is the cell or lies above it
part_up : (c e : Address) (q : ℕ) → q < 4 → e.level ≤ c.level → IsPart e (child_of c q) → IsPart e c
part_up c e q small low part =
    let deeper : c.level + 1 - e.level ≡ suc (c.level - e.level) = omega (arith, low) in
    let up : (c.path * 4 + q) / 4 ≡ c.path = omega (arith, small) in
    record {
      below = low;
      begins = ap (λ v. v / 4 ^ (c.level - e.level)) (sym up) ∙ div_four (c.path * 4 + q) (c.level - e.level) ∙ ap (λ v. (c.path * 4 + q) / 4 ^ v) (sym deeper) ∙ part.begins;
    }

part_level : (c e : Address) → c.level ≡ e.level → IsPart e c → e ≡ c
part_level c e same part =
    let none : c.level - e.level ≡ 0 = omega (arith, same) in
    let path : c.path / 4 ^ 0 ≡ e.path = ap (λ n. c.path / 4 ^ n) (sym none) ∙ part.begins in
    let whole : c.path / 1 ≡ c.path = omega arith in
    same_address e c (sym same) (sym path ∙ whole)

cases : (b : Bool) → (b ≡ true) ⊎ (b ≡ false)
cases true = inl refl
cases false = inr refl

module _ (settings : Settings) (state : State) where
  abbrev pub splits : Address → Bool
  splits c = is_split (ground_of settings state) state.zones c

  -- all cells above it are split
  abbrev pub Reached : Address → Type 0
  Reached c = (d : Address) → IsPart d c → d.level < c.level → is_split (ground_of settings state) state.zones d ≡ true

  pub reached_child : (c : Address) (q : ℕ) → q < 4 → Reached c → is_split (ground_of settings state) state.zones c ≡ true → Reached (child_of c q)
  reached_child c q small above split e part low = by (sides e.level c.level (omega (arith, low)))
    where
      sides : (a b : ℕ) → a ≤ b → (a < b) ⊎ (b ≡ a)
      sides a b h = grind arith

      by : (e.level < c.level) ⊎ (c.level ≡ e.level) → is_split (ground_of settings state) state.zones e ≡ true
      by (inl less) = above e (part_up c e q small (omega (arith, less)) part) less
      by (inr same) = subst (λ (d : Address). is_split (ground_of settings state) state.zones d ≡ true) (sym (part_level c e same (part_up c e q small (omega (arith, same)) part))) split

  -- a leaf of a node
  pub record LeafIn (c : Address) (k : ℕ) (l : Address) : Type 0 where
    pub leaf : IsLeaf settings state l
    pub above : c.level ≤ l.level
    pub near : l.level ≤ c.level + k
    pub inside : IsIn (hull_of c) (hull_of l).lo

  -- a split cell under a node
  pub record SplitIn (c : Address) (k : ℕ) (d : Address) : Type 0 where
    pub cell : IsCell d
    pub reached : Reached d
    pub split : is_split (ground_of settings state) state.zones d ≡ true
    pub level : d.level ≡ c.level + k
    pub inside : IsIn (hull_of c) (hull_of d).lo

  leaf_up : (c : Address) (k q : ℕ) (l : Address) → IsCell c → c.level < 30 → q < 4 → LeafIn (child_of c q) k l → LeafIn c (suc k) l
  leaf_up c k q l cell low small h = record {
    leaf = h.leaf;
    above = omega (arith, h.above);
    near = omega (arith, h.near);
    inside = in_within (hull_of c) (hull_of (child_of c q)) (hull_of l).lo (child_within c q cell low small) h.inside;
  }

  split_up : (c : Address) (k q : ℕ) (l : Address) → IsCell c → c.level < 30 → q < 4 → SplitIn (child_of c q) k l → SplitIn c (suc k) l
  split_up c k q l cell low small h = record {
    cell = h.cell;
    reached = h.reached;
    split = h.split;
    level = omega (arith, h.level);
    inside = in_within (hull_of c) (hull_of (child_of c q)) (hull_of l).lo (child_within c q cell low small) h.inside;
  }

  pub leaves_are : (k : ℕ) (c : Address) → IsCell c → c.level + k ≤ 28 → Reached c → Each (LeafIn c k) (leaves_near (ground_of settings state) k state.zones c)
  unfolding leaves_near
  leaves_are zero c cell low above = by (is_split (ground_of settings state) state.zones c) refl
    where
      by : (b : Bool) → is_split (ground_of settings state) state.zones c ≡ b → Each (LeafIn c 0) (cond b [] (c ∷ []))
      by true e = tt
      by false e = (record { leaf = record { cell = cell; reached = above; whole = e }; above = omega arith; near = omega arith; inside = first_in c cell }, tt)
  leaves_are (suc k) c cell low above =
      by (is_split (ground_of settings state) state.zones c) refl
      (λ split q small. each_mono (LeafIn (child_of c q) k) (LeafIn c (suc k)) (leaves_near (ground_of settings state) k state.zones (child_of c q))
      (λ l h. leaf_up c k q l cell (omega (arith, low)) small h)
      (leaves_are k (child_of c q) (child_cell c q cell (omega (arith, low)) small) (omega (arith, low)) (reached_child c q small above split)))
    where
      by : (b : Bool) → is_split (ground_of settings state) state.zones c ≡ b
          → (is_split (ground_of settings state) state.zones c ≡ true → (q : ℕ) → q < 4 → Each (LeafIn c (suc k)) (leaves_near (ground_of settings state) k state.zones (child_of c q)))
          → Each (LeafIn c (suc k)) (cond b (leaves_near (ground_of settings state) k state.zones (child_of c 0) ++ leaves_near (ground_of settings state) k state.zones (child_of c 1)
          ++ leaves_near (ground_of settings state) k state.zones (child_of c 2) ++ leaves_near (ground_of settings state) k state.zones (child_of c 3)) (c ∷ []))
      by true e more = each_four (LeafIn c (suc k)) (λ q. leaves_near (ground_of settings state) k state.zones (child_of c q)) (more e)
      by false e more = (record { leaf = record { cell = cell; reached = above; whole = e }; above = omega arith; near = omega arith; inside = first_in c cell }, tt)

  pub splits_are : (k : ℕ) (c : Address) → IsCell c → c.level + k ≤ 28 → Reached c → Each (SplitIn c k) (splits_near (ground_of settings state) k state.zones c)
  unfolding splits_near
  splits_are zero c cell low above = by (is_split (ground_of settings state) state.zones c) refl
    where
      by : (b : Bool) → is_split (ground_of settings state) state.zones c ≡ b → Each (SplitIn c 0) (cond b (c ∷ []) [])
      by true e = (record { cell = cell; reached = above; split = e; level = omega arith; inside = first_in c cell }, tt)
      by false e = tt
  splits_are (suc k) c cell low above =
      by (is_split (ground_of settings state) state.zones c) refl
      (λ split q small. each_mono (SplitIn (child_of c q) k) (SplitIn c (suc k)) (splits_near (ground_of settings state) k state.zones (child_of c q))
      (λ l h. split_up c k q l cell (omega (arith, low)) small h)
      (splits_are k (child_of c q) (child_cell c q cell (omega (arith, low)) small) (omega (arith, low)) (reached_child c q small above split)))
    where
      by : (b : Bool) → is_split (ground_of settings state) state.zones c ≡ b
          → (is_split (ground_of settings state) state.zones c ≡ true → (q : ℕ) → q < 4 → Each (SplitIn c (suc k)) (splits_near (ground_of settings state) k state.zones (child_of c q)))
          → Each (SplitIn c (suc k)) (cond b (splits_near (ground_of settings state) k state.zones (child_of c 0) ++ splits_near (ground_of settings state) k state.zones (child_of c 1)
          ++ splits_near (ground_of settings state) k state.zones (child_of c 2) ++ splits_near (ground_of settings state) k state.zones (child_of c 3)) [])
      by true e more = each_four (SplitIn c (suc k)) (λ q. splits_near (ground_of settings state) k state.zones (child_of c q)) (more e)
      by false e more = tt

  -- a cell lies in one of the leaves, or it is one of the split cells
  pub record Held (leaves : List Address) (e : Address) : Type 0 where
    pub leaf : Address
    pub among : Among leaves leaf
    pub inside : IsIn (hull_of leaf) (hull_of e).lo

  abbrev Covers : List Address → List Address → Address → Type 0
  Covers leaves splits e = Held leaves e ⊎ Among splits e

  held_four : (f : ℕ → List Address) (e : Address) (q : ℕ) → q < 4 → Held (f q) e → Held (f 0 ++ f 1 ++ f 2 ++ f 3) e
  held_four f e q small h = record { leaf = h.leaf; among = among_four f h.leaf q small h.among; inside = h.inside }

  pub covered : (k : ℕ) (c e : Address) → IsCell c → IsCell e → c.level + k ≤ 28 → e.level ≡ c.level + k → IsIn (hull_of c) (hull_of e).lo
      → Held (leaves_near (ground_of settings state) k state.zones c) e ⊎ Among (splits_near (ground_of settings state) k state.zones c) e
  unfolding leaves_near splits_near
  covered zero c e cell cell_e low level inside = by (is_split (ground_of settings state) state.zones c)
    where
      by : (b : Bool) → Covers (cond b [] (c ∷ [])) (cond b (c ∷ []) []) e
      by true = inr (inl (one_cell c e (hull_of e).lo cell cell_e (omega (arith, level)) inside (first_in e cell_e)))
      by false = inl (record { leaf = c; among = inl refl; inside = inside })
  covered (suc k) c e cell cell_e low level inside =
      let q = some_child c (hull_of e).lo cell (omega (arith, low)) inside in
      by (is_split (ground_of settings state) state.zones c) q.0 q.1
      (covered k (child_of c q.0) e (child_cell c q.0 cell (omega (arith, low)) q.1) cell_e (omega (arith, low)) (omega (arith, level)) q.2)
    where
      L : ℕ → List Address
      L q = leaves_near (ground_of settings state) k state.zones (child_of c q)

      S : ℕ → List Address
      S q = splits_near (ground_of settings state) k state.zones (child_of c q)

      by : (b : Bool) (q : ℕ) → q < 4 → Covers (leaves_near (ground_of settings state) k state.zones (child_of c q)) (splits_near (ground_of settings state) k state.zones (child_of c q)) e
          → Covers (cond b (leaves_near (ground_of settings state) k state.zones (child_of c 0) ++ leaves_near (ground_of settings state) k state.zones (child_of c 1)
          ++ leaves_near (ground_of settings state) k state.zones (child_of c 2) ++ leaves_near (ground_of settings state) k state.zones (child_of c 3)) (c ∷ []))
          (cond b (splits_near (ground_of settings state) k state.zones (child_of c 0) ++ splits_near (ground_of settings state) k state.zones (child_of c 1)
          ++ splits_near (ground_of settings state) k state.zones (child_of c 2) ++ splits_near (ground_of settings state) k state.zones (child_of c 3)) []) e
      by true q small (inl held) = inl (held_four (λ q. leaves_near (ground_of settings state) k state.zones (child_of c q)) e q small held)
      by true q small (inr among) = inr (among_four (λ q. splits_near (ground_of settings state) k state.zones (child_of c q)) e q small among)
      by false q small h = inl (record { leaf = c; among = inl refl; inside = inside })

  -- ---- the leaf at the first point of a cell
  pub first_leaf_is : (e l : Address) → IsCell e → IsLeaf settings state l → IsIn (hull_of l) (hull_of e).lo → first_leaf settings state e ≡ l
  first_leaf_is e l cell leaf inside =
      let top = leaf_holds_point settings state (hull_of e).lo (in_root e (hull_of e).lo cell (first_in e cell)) in
      one_leaf settings state (first_leaf settings state e) l (hull_of e).lo top.1 leaf top.0 inside

  pub first_is_leaf : (e : Address) → IsCell e → IsLeaf settings state (first_leaf settings state e)
  first_is_leaf e cell = (leaf_holds_point settings state (hull_of e).lo (in_root e (hull_of e).lo cell (first_in e cell))).1

  pub first_holds : (e : Address) → IsCell e → IsIn (hull_of (first_leaf settings state e)) (hull_of e).lo
  first_holds e cell = (leaf_holds_point settings state (hull_of e).lo (in_root e (hull_of e).lo cell (first_in e cell))).0

  -- a split cell below split cells is parted
  pub split_parted : (d : Address) → IsCell d → Reached d → is_split (ground_of settings state) state.zones d ≡ true → is_parted settings state d ≡ true
  split_parted d cell above split = by (sides d.level (first_leaf settings state d).level)
    where
      sides : (a b : ℕ) → (a < b) ⊎ ((b < a) ⊎ (b ≡ a))
      sides a b = grind arith

      never : (b : Bool) → b ≡ true → b ≡ false → ⊥
      never b e f = cc

      lt : (a b : ℕ) → a < b → nat_lt a b ≡ true
      lt a b h = grind (arith, nat_tests)

      leaf : IsLeaf settings state (first_leaf settings state d)
      leaf = first_is_leaf d cell

      part : (first_leaf settings state d).level ≤ d.level → IsPart (first_leaf settings state d) d
      part low = part_from_point (first_leaf settings state d) d (hull_of d).lo leaf.cell cell low (first_holds d cell) (first_in d cell)

      by : (d.level < (first_leaf settings state d).level) ⊎ (((first_leaf settings state d).level < d.level) ⊎ ((first_leaf settings state d).level ≡ d.level)) → is_parted settings state d ≡ true
      by (inl less) = lt d.level (first_leaf settings state d).level less
      by (inr (inl more)) = absurd (never _ (above (first_leaf settings state d) (part (omega (arith, more))) more) leaf.whole)
      by (inr (inr same)) =
          let is : first_leaf settings state d ≡ d = one_cell (first_leaf settings state d) d (hull_of d).lo leaf.cell cell same (first_holds d cell) (first_in d cell) in
          absurd (never _ split (ap (λ c. is_split (ground_of settings state) state.zones c) (sym is) ∙ leaf.whole))

  -- all cells above a node are split, and so is the node but for the root
  pub node_reached : (c : Address) → IsNode settings state c → Reached c
  node_reached c node = by node.split
    where
      by : (c ≡ root_cell) ⊎ (is_parted settings state c ≡ true) → Reached c
      by (inl same) = λ d part low. absurd (omega (arith, low, ap (λ (a : Address). a.level) same))
      by (inr parted) = λ d part low. (
          let less : c.level < (first_leaf settings state c).level = Rattle.std.proofs.lemmas.Bool.ltb-true c.level _ parted in
          let leaf = first_is_leaf c node.cell in
          let inside : IsIn (hull_of d) (hull_of c).lo = (part_within d c (above_cell d part) node.cell part).low in
          leaf.reached d (part_from_point d (first_leaf settings state c) (hull_of c).lo (above_cell d part) leaf.cell (omega (arith, less, low)) inside (first_holds c node.cell)) (omega (arith, less, low)))
        where
          above_cell : (d : Address) → IsPart d c → IsCell d
          above_cell d part =
              let e : c.level ≡ d.level + (c.level - d.level) = omega (arith, part.below) in
              let whole : c.path < 4 ^ d.level * 4 ^ (c.level - d.level) = subst (λ v. c.path < v) (ap (λ n. 4 ^ n) e ∙ pow-add 4 d.level (c.level - d.level)) node.cell.short in
              let pos : 0 < 4 ^ (c.level - d.level) = omega (arith, four (c.level - d.level), pow_pos (2 * (c.level - d.level))) in
              record { deep = omega (arith, part.below, node.cell.deep); short = subst (λ v. v < 4 ^ d.level) part.begins (div_below c.path (4 ^ (c.level - d.level)) (4 ^ d.level) pos whole) }
