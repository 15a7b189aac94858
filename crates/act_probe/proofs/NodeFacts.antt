-- Each node is listed, and so are its rows.
use Rattle.std.proofs.Common.{◌≡◌, ℕ, zero, suc, ◌+◌, ◌%◌, ◌==◌, ◌<◌, ◌≤◌, ◌⊎◌, inl, inr, Bool, true, false, cond, refl, sym, arith, List, [], ◌∷◌, ◌++◌}
use Rattle.std.specs.List.{flat_map}
use Rattle.std.proofs.lemmas.Bool.{ltb-true}
use Rattle.act_grid.specs.declared.Settings.{Settings}
use Rattle.act_grid.specs.Hull.{IsIn}
use Rattle.act_grid.specs.Cell.{Address, IsCell, child_of, hull_of, root_cell}
use Rattle.act_grid.proofs.CellOrder.{one_cell}
use Rattle.act_base.specs.Counting.{times}
use Rattle.act_base.proofs.Times.{times-append}
use Rattle.act_super.specs.declared.entry.State.{State}
use Rattle.act_super.specs.Grounds.{Ground, leaf_at, leaf_within, quarter_of, some_asks}
use Rattle.act_super.specs.Nodes.{IsNode, ground_of, is_parted, nodes_of, nodes_within}
use Rattle.act_probe.proofs.LeafFacts.{below}
use Rattle.act_probe.proofs.WayFacts.{first_in, in_root, root_is}

-- a list has the cell
abbrev pub Among : List Address → Address → Type 0
Among [] c = ⊥
Among (x ∷ xs) c = (x ≡ c) ⊎ Among xs c

among_left : (xs ys : List Address) (c : Address) → Among xs c → Among (xs ++ ys) c
among_left [] ys c h = absurd h
among_left (x ∷ xs) ys c (inl same) = inl same
among_left (x ∷ xs) ys c (inr more) = inr (among_left xs ys c more)

among_right : (xs ys : List Address) (c : Address) → Among ys c → Among (xs ++ ys) c
among_right [] ys c h = h
among_right (x ∷ xs) ys c h = inr (among_right xs ys c h)

-- it has those of the first list, and those of one of four behind it
among_first : (xs : List Address) (f : ℕ → List Address) (c : Address) → Among xs c → Among (xs ++ f 0 ++ f 1 ++ f 2 ++ f 3) c
among_first xs f c h =
    among_left (xs ++ f 0 ++ f 1 ++ f 2) (f 3) c (among_left (xs ++ f 0 ++ f 1) (f 2) c (among_left (xs ++ f 0) (f 1) c (among_left xs (f 0) c h)))

among_four : (xs : List Address) (f : ℕ → List Address) (c : Address) (q : ℕ) → q < 4 → Among (f q) c → Among (xs ++ f 0 ++ f 1 ++ f 2 ++ f 3) c
among_four xs f c zero small h =
    among_left (xs ++ f 0 ++ f 1 ++ f 2) (f 3) c (among_left (xs ++ f 0 ++ f 1) (f 2) c (among_left (xs ++ f 0) (f 1) c (among_right xs (f 0) c h)))
among_four xs f c (suc zero) small h = among_left (xs ++ f 0 ++ f 1 ++ f 2) (f 3) c (among_left (xs ++ f 0 ++ f 1) (f 2) c (among_right (xs ++ f 0) (f 1) c h))
among_four xs f c (suc (suc zero)) small h = among_left (xs ++ f 0 ++ f 1 ++ f 2) (f 3) c (among_right (xs ++ f 0 ++ f 1) (f 2) c h)
among_four xs f c (suc (suc (suc zero))) small h = among_right (xs ++ f 0 ++ f 1 ++ f 2) (f 3) c h
among_four xs f c (suc (suc (suc (suc q)))) small h = absurd (omega (arith, small))

module _ {X : Type 0} (g : Ground X) (items : List X) where
  pub listed : (n : ℕ) (a c : Address) → IsCell a → IsCell c → a.level + n ≤ 28 → a.level ≤ c.level → IsIn (hull_of a) (hull_of c).lo → c.level % 4 ≡ 0
      → c.level < (leaf_within g n items a (hull_of c).lo).level → Among (nodes_within g n items a) c
  unfolding leaf_within nodes_within
  listed zero a c cell small deep above inside step more = absurd (omega (arith, above, more))
  listed (suc n) a c cell small deep above inside step more =
      by (some_asks g a items) more (listed n)
    where
      Listed : Type 0
      Listed = (a c : Address) → IsCell a → IsCell c → a.level + n ≤ 28 → a.level ≤ c.level → IsIn (hull_of a) (hull_of c).lo → c.level % 4 ≡ 0
          → c.level < (leaf_within g n items a (hull_of c).lo).level → Among (nodes_within g n items a) c

      here : a.level ≡ c.level → Among (cond (a.level % 4 == 0) (a ∷ []) [] ++ nodes_within g n items (child_of a 0) ++ nodes_within g n items (child_of a 1) ++ nodes_within g n items (child_of a 2) ++ nodes_within g n items (child_of a 3)) c
      here same =
          let is : a ≡ c = one_cell a c (hull_of c).lo cell small same inside (first_in c small) in
          let step_a : (a.level % 4 == 0) ≡ true = rw (same, step) refl in
          rw step_a (among_first (a ∷ []) (λ q. nodes_within g n items (child_of a q)) c (inl is))

      there : a.level < c.level → c.level < (leaf_within g n items (child_of a (quarter_of a (hull_of c).lo)) (hull_of c).lo).level → Listed
          → Among (cond (a.level % 4 == 0) (a ∷ []) [] ++ nodes_within g n items (child_of a 0) ++ nodes_within g n items (child_of a 1) ++ nodes_within g n items (child_of a 2) ++ nodes_within g n items (child_of a 3)) c
      there higher more rec =
          let b = below a (hull_of c).lo cell (omega (arith, deep)) inside in
          among_four (cond (a.level % 4 == 0) (a ∷ []) []) (λ q. nodes_within g n items (child_of a q)) c (quarter_of a (hull_of c).lo) b.small
          (rec (child_of a (quarter_of a (hull_of c).lo)) c b.cell small (omega (arith, deep)) (omega (arith, higher)) b.inside step more)

      sides : (l m : ℕ) → l ≤ m → (l ≡ m) ⊎ (l < m)
      sides l m h = grind arith

      by : (b : Bool) → c.level < (cond b (leaf_within g n items (child_of a (quarter_of a (hull_of c).lo)) (hull_of c).lo) a).level → Listed
          → Among (cond b (cond (a.level % 4 == 0) (a ∷ []) [] ++ nodes_within g n items (child_of a 0) ++ nodes_within g n items (child_of a 1) ++ nodes_within g n items (child_of a 2) ++ nodes_within g n items (child_of a 3)) []) c
      by false more rec = absurd (omega (arith, above, more))
      by true more rec = elim (sides a.level c.level above) [
        | inl same ↦ here same
        | inr higher ↦ there higher more rec
      ]

  pub root_listed : (m : ℕ) (c : Address) → IsCell c → c.level % 4 ≡ 0 → suc m ≤ 28
      → (c ≡ root_cell) ⊎ (c.level < (leaf_within g (suc m) items root_cell (hull_of c).lo).level)
      → Among (cond (some_asks g root_cell items) (nodes_within g (suc m) items root_cell) (root_cell ∷ [])) c
  unfolding leaf_within nodes_within
  root_listed m c cell step few split =
      by (some_asks g root_cell items) split
      (λ more. listed (suc m) root_cell c root_is cell (omega (arith, few)) (omega arith) (in_root c (hull_of c).lo cell (first_in c cell)) step more)
    where
      by : (b : Bool) → (c ≡ root_cell) ⊎ (c.level < (cond b (leaf_within g m items (child_of root_cell (quarter_of root_cell (hull_of c).lo)) (hull_of c).lo) root_cell).level)
          → (c.level < (cond b (leaf_within g m items (child_of root_cell (quarter_of root_cell (hull_of c).lo)) (hull_of c).lo) root_cell).level
          → Among (cond b ((root_cell ∷ []) ++ nodes_within g m items (child_of root_cell 0) ++ nodes_within g m items (child_of root_cell 1)
          ++ nodes_within g m items (child_of root_cell 2) ++ nodes_within g m items (child_of root_cell 3)) []) c)
          → Among (cond b (cond b ((root_cell ∷ []) ++ nodes_within g m items (child_of root_cell 0) ++ nodes_within g m items (child_of root_cell 1)
          ++ nodes_within g m items (child_of root_cell 2) ++ nodes_within g m items (child_of root_cell 3)) []) (root_cell ∷ [])) c
      by true (inl same) rec = inl (sym same)
      by true (inr more) rec = rec more
      by false (inl same) rec = inl (sym same)
      by false (inr more) rec = absurd (omega (arith, more))

module _ (settings : Settings) (state : State) where
  -- each node is listed
  pub node_listed : (c : Address) → IsNode settings state c → Among (nodes_of settings state) c
  unfolding nodes_of leaf_at
  node_listed c node = root_listed (ground_of settings state) state.zones 27 c node.cell node.step (omega arith) (by node.split)
    where
      by : (c ≡ root_cell) ⊎ (is_parted settings state c ≡ true) → (c ≡ root_cell) ⊎ (c.level < (leaf_within (ground_of settings state) 28 state.zones root_cell (hull_of c).lo).level)
      by (inl same) = inl same
      by (inr parted) = inr (ltb-true c.level _ parted)

-- a row of a node is a row of all nodes
pub times_flat : (f : Address → List ℕ) (cells : List Address) (c : Address) (r : ℕ) → Among cells c → 0 < times (f c) r → 0 < times (flat_map f cells) r
times_flat f [] c r h some = absurd h
times_flat f (x ∷ cells) c r (inl same) some = let here : 0 < times (f x) r = rw same some in omega (arith, times-append (f x) (flat_map f cells) r, here)
times_flat f (x ∷ cells) c r (inr more) some = omega (arith, times-append (f x) (flat_map f cells) r, times_flat f cells c r more some)
