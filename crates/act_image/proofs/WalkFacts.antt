-- The nodes of a state, from each node to its child nodes.
use Rattle.std.proofs.Common.{◌≡◌, ◌≢◌, ℕ, zero, suc, ◌+◌, ◌-◌, ◌%◌, ◌<◌, ◌≤◌, ◌⊎◌, inl, inr, Bool, true, false, cond, refl, sym, ap, ◌∙◌, subst, arith, List, [], ◌∷◌, ◌++◌, nat_lt, ◌==◌, length}
use Rattle.std.specs.List.{AllByRecursion as Each, flat_map, sum_by}
use Rattle.std.proofs.lemmas.Bool.Decides.{nat_tests}
use Rattle.std.proofs.lemmas.List.{append_assoc, append-nil, length-map}
use Rattle.std.proofs.lemmas.List.Concat.{flat_map-append}
use Rattle.std.proofs.lemmas.List.Sums.{sum_by-append, sum_by-cons}
use Rattle.act_grid.specs.declared.Settings.{Settings}
use Rattle.act_grid.specs.Hull.{IsIn}
use Rattle.act_grid.specs.Cell.{Address, IsCell, child_of, hull_of, root_cell}
use Rattle.act_grid.proofs.CellOrder.{child_within, in_within, one_cell}
use Rattle.act_cover.specs.Covering.{class_at, is_within}
use Rattle.act_super.specs.declared.entry.State.{State}
use Rattle.act_super.specs.declared.entry.Zone.{Zone}
use Rattle.act_super.specs.Grounds.{Ground, is_split, on, some_asks}
use Rattle.act_super.specs.NodeParts.{leaves_near, splits_near}
use Rattle.act_super.specs.Nodes.{IsNode, count_at, ground_of, list_rows, node_leaves, nodes_of, nodes_within, pack_of}
use Rattle.act_super.specs.Packs.{empty_pack, inner, node_rows, put_leaf, put_tree}
use Rattle.act_super.specs.Sizes.{chains_of, rows_with, size_of, tree_rows}
use Rattle.act_super.specs.Trees.{Tree, tree_of, under}
use Rattle.act_super.specs.Trees.Tree.{Leaf, Split}
use Rattle.act_probe.proofs.NodeFacts.{Among}
use Rattle.act_probe.proofs.WayFacts.{first_in}
use Rattle.act_image.proofs.Leaves.{LeafIn, Reached, child_cell, each_among, leaves_are, node_reached}
use Rattle.act_image.proofs.PackFacts.{NoTwice}

-- ---- lists with no cell twice
pub among_append : (xs ys : List Address) (c : Address) → Among (xs ++ ys) c → Among xs c ⊎ Among ys c
among_append [] ys c h = inr h
among_append (x ∷ xs) ys c (inl same) = inl (inl same)
among_append (x ∷ xs) ys c (inr more) = elim (among_append xs ys c more) [ inl a ↦ inl (inr a) | inr b ↦ inr b ]

pub twice_append : (xs ys : List Address) → NoTwice xs → NoTwice ys → ((c : Address) → Among xs c → Among ys c → ⊥) → NoTwice (xs ++ ys)
twice_append [] ys h k apart = k
twice_append (x ∷ xs) ys h k apart = (
  λ among. elim (among_append xs ys x among) [ inl a ↦ h.0 a | inr b ↦ apart x (inl refl) b ],
  twice_append xs ys h.1 k (λ c a b. apart c (inr a) b),
)

-- what lies in different children is different
apart : (c : Address) (q r : ℕ) (l : Address) → IsCell c → c.level < 30 → q < 4 → r < 4 → q ≢ r → IsIn (hull_of (child_of c q)) (hull_of l).lo → IsIn (hull_of (child_of c r)) (hull_of l).lo → ⊥
apart c q r l cell low four_q four_r ne in_q in_r =
    let same = one_cell (child_of c q) (child_of c r) (hull_of l).lo (child_cell c q cell low four_q) (child_cell c r cell low four_r) refl in_q in_r in
    ne (omega (arith, ap (λ (a : Address). a.path) same))

twice_four : (c : Address) → IsCell c → c.level < 30 → (f : ℕ → List Address) → ((q : ℕ) → q < 4 → NoTwice (f q)) → ((q : ℕ) → q < 4 → (l : Address) → Among (f q) l → IsIn (hull_of (child_of c q)) (hull_of l).lo)
    → NoTwice (f 0 ++ f 1 ++ f 2 ++ f 3)
twice_four c cell low f once inside =
    let no : (q r : ℕ) → q < 4 → r < 4 → q ≢ r → (l : Address) → Among (f q) l → Among (f r) l → ⊥ =
    λ q r a b ne l h k. apart c q r l cell low a b ne (inside q a l h) (inside r b l k) in
    let two : NoTwice (f 0 ++ f 1) = twice_append (f 0) (f 1) (once 0 (omega arith)) (once 1 (omega arith)) (no 0 1 (omega arith) (omega arith) (omega arith)) in
    let three : NoTwice (f 0 ++ f 1 ++ f 2) = twice_append (f 0 ++ f 1) (f 2) two (once 2 (omega arith)) (λ l h k. elim (among_append (f 0) (f 1) l h) [
      | inl a ↦ no 0 2 (omega arith) (omega arith) (omega arith) l a k
      | inr b ↦ no 1 2 (omega arith) (omega arith) (omega arith) l b k
    ]) in
    twice_append (f 0 ++ f 1 ++ f 2) (f 3) three (once 3 (omega arith)) (λ l h k. elim (among_append (f 0 ++ f 1) (f 2) l h) [
      | inl ab ↦ elim (among_append (f 0) (f 1) l ab) [
        | inl a ↦ no 0 3 (omega arith) (omega arith) (omega arith) l a k
        | inr b ↦ no 1 3 (omega arith) (omega arith) (omega arith) l b k
      ]
      | inr d ↦ no 2 3 (omega arith) (omega arith) (omega arith) l d k
    ])

module _ (settings : Settings) (state : State) where
  leaves_once : (k : ℕ) (c : Address) → IsCell c → c.level + k ≤ 28 → Reached settings state c → NoTwice (leaves_near (ground_of settings state) k state.zones c)
  unfolding leaves_near
  leaves_once zero c cell low above = by (is_split (ground_of settings state) state.zones c)
    where
      by : (b : Bool) → NoTwice (cond b [] (c ∷ []))
      by true = tt
      by false = (λ h. h, tt)
  leaves_once (suc k) c cell low above =
      by (is_split (ground_of settings state) state.zones c) refl
      (λ split. twice_four c cell (omega (arith, low)) (λ q. leaves_near (ground_of settings state) k state.zones (child_of c q))
      (λ q small. leaves_once k (child_of c q) (child_cell c q cell (omega (arith, low)) small) (omega (arith, low)) (Rattle.act_image.proofs.Leaves.reached_child settings state c q small above split))
      (λ q small l among.
      (each_among (LeafIn settings state (child_of c q) k) (leaves_near (ground_of settings state) k state.zones (child_of c q)) l
      (leaves_are settings state k (child_of c q) (child_cell c q cell (omega (arith, low)) small) (omega (arith, low)) (Rattle.act_image.proofs.Leaves.reached_child settings state c q small above split)) among).inside))
    where
      by : (b : Bool) → is_split (ground_of settings state) state.zones c ≡ b
          → (is_split (ground_of settings state) state.zones c ≡ true → NoTwice (leaves_near (ground_of settings state) k state.zones (child_of c 0) ++ leaves_near (ground_of settings state) k state.zones (child_of c 1)
          ++ leaves_near (ground_of settings state) k state.zones (child_of c 2) ++ leaves_near (ground_of settings state) k state.zones (child_of c 3)))
          → NoTwice (cond b (leaves_near (ground_of settings state) k state.zones (child_of c 0) ++ leaves_near (ground_of settings state) k state.zones (child_of c 1)
          ++ leaves_near (ground_of settings state) k state.zones (child_of c 2) ++ leaves_near (ground_of settings state) k state.zones (child_of c 3)) (c ∷ []))
      by true e more = more e
      by false e more = (λ h. h, tt)

  pub node_leaves_once : (c : Address) → IsNode settings state c → c.level ≤ 24 → NoTwice (node_leaves settings state c)
  node_leaves_once c node low = leaves_once 4 c node.cell (omega (arith, low)) (node_reached settings state c node)

-- ---- nodes
module _ {X : Type 0} (g : Ground X) (items : List X) where
  -- the nodes from a reached cell down, and the cell itself where it isn't split
  abbrev pub nodes_under : Address → List Address
  nodes_under c = cond (some_asks g c items) (nodes_within g (28 - c.level) items c) (c ∷ [])

  -- a node lies in the cell, and no higher
  record NodeIn (a d : Address) : Type 0 where
    pub inside : IsIn (hull_of a) (hull_of d).lo
    pub above : a.level ≤ d.level
    pub cell : IsCell d
    pub step : d.level % 4 ≡ 0

  nodes_in : (n : ℕ) (a : Address) → IsCell a → a.level + n ≤ 28 → Each (NodeIn a) (nodes_within g n items a)
  unfolding nodes_within
  nodes_in zero a cell low = tt
  nodes_in (suc n) a cell low =
      by (some_asks g a items) (Rattle.act_image.proofs.Leaves.each_four (NodeIn a) (λ q. nodes_within g n items (child_of a q))
      (λ q small. Rattle.act_image.proofs.Leaves.each_mono (NodeIn (child_of a q)) (NodeIn a) (nodes_within g n items (child_of a q))
      (λ d h. record { inside = in_within (hull_of a) (hull_of (child_of a q)) (hull_of d).lo (child_within a q cell (omega (arith, low)) small) h.inside; above = omega (arith, h.above); cell = h.cell; step = h.step })
      (nodes_in n (child_of a q) (child_cell a q cell (omega (arith, low)) small) (omega (arith, low)))))
    where
      own : Each (NodeIn a) (cond (a.level % 4 == 0) (a ∷ []) [])
      own = here (a.level % 4 == 0) refl
        where
          zero_is : (m : ℕ) → (m == 0) ≡ true → m ≡ 0
          zero_is m e = grind (arith, nat_tests)

          here : (b : Bool) → (a.level % 4 == 0) ≡ b → Each (NodeIn a) (cond b (a ∷ []) [])
          here true e = (record { inside = first_in a cell; above = omega arith; cell = cell; step = zero_is (a.level % 4) e }, tt)
          here false e = tt

      by : (b : Bool) → Each (NodeIn a) (nodes_within g n items (child_of a 0) ++ nodes_within g n items (child_of a 1) ++ nodes_within g n items (child_of a 2) ++ nodes_within g n items (child_of a 3))
          → Each (NodeIn a) (cond b (cond (a.level % 4 == 0) (a ∷ []) [] ++ nodes_within g n items (child_of a 0) ++ nodes_within g n items (child_of a 1) ++ nodes_within g n items (child_of a 2) ++ nodes_within g n items (child_of a 3)) [])
      by false h = tt
      by true h = subst (Each (NodeIn a)) (five (cond (a.level % 4 == 0) (a ∷ []) []) _ _ _ _)
          (Rattle.act_image.proofs.Leaves.each_append (NodeIn a) (cond (a.level % 4 == 0) (a ∷ []) []) _ own h)
        where
          five : (o a b d e : List Address) → o ++ (a ++ b ++ d ++ e) ≡ o ++ a ++ b ++ d ++ e
          five o a b d e = simp append_assoc

  nodes_once : (n : ℕ) (a : Address) → IsCell a → a.level + n ≤ 28 → NoTwice (nodes_within g n items a)
  unfolding nodes_within
  nodes_once zero a cell low = tt
  nodes_once (suc n) a cell low =
      by (some_asks g a items) (twice_four a cell (omega (arith, low)) (λ q. nodes_within g n items (child_of a q))
      (λ q small. nodes_once n (child_of a q) (child_cell a q cell (omega (arith, low)) small) (omega (arith, low)))
      (λ q small l among. (in_child q small l among).inside))
    where
      in_child : (q : ℕ) → q < 4 → (l : Address) → Among (nodes_within g n items (child_of a q)) l → NodeIn (child_of a q) l
      in_child q small l among =
          each_among (NodeIn (child_of a q)) (nodes_within g n items (child_of a q)) l (nodes_in n (child_of a q) (child_cell a q cell (omega (arith, low)) small) (omega (arith, low))) among

      not_own : (q : ℕ) → q < 4 → Among (nodes_within g n items (child_of a q)) a → ⊥
      not_own q small among = omega (arith, (in_child q small a among).above)

      own_apart : (l : Address) → Among (a ∷ []) l
          → Among (nodes_within g n items (child_of a 0) ++ nodes_within g n items (child_of a 1) ++ nodes_within g n items (child_of a 2) ++ nodes_within g n items (child_of a 3)) l → ⊥
      own_apart l (inr none) k = none
      own_apart l (inl same) k =
          let there = subst (Among (nodes_within g n items (child_of a 0) ++ nodes_within g n items (child_of a 1) ++ nodes_within g n items (child_of a 2) ++ nodes_within g n items (child_of a 3))) (sym same) k in
          elim (among_append (nodes_within g n items (child_of a 0) ++ nodes_within g n items (child_of a 1) ++ nodes_within g n items (child_of a 2)) (nodes_within g n items (child_of a 3)) a there) [
            | inr d ↦ not_own 3 (omega arith) d
            | inl abd ↦ elim (among_append (nodes_within g n items (child_of a 0) ++ nodes_within g n items (child_of a 1)) (nodes_within g n items (child_of a 2)) a abd) [
              | inr d ↦ not_own 2 (omega arith) d
              | inl ab ↦ elim (among_append (nodes_within g n items (child_of a 0)) (nodes_within g n items (child_of a 1)) a ab) [
                | inr d ↦ not_own 1 (omega arith) d
                | inl d ↦ not_own 0 (omega arith) d
              ]
            ]
          ]

      five : (o a b d e : List Address) → o ++ (a ++ b ++ d ++ e) ≡ o ++ a ++ b ++ d ++ e
      five o a b d e = simp append_assoc

      own : (b : Bool) → NoTwice (nodes_within g n items (child_of a 0) ++ nodes_within g n items (child_of a 1) ++ nodes_within g n items (child_of a 2) ++ nodes_within g n items (child_of a 3))
          → NoTwice (cond b (a ∷ []) [] ++ nodes_within g n items (child_of a 0) ++ nodes_within g n items (child_of a 1) ++ nodes_within g n items (child_of a 2) ++ nodes_within g n items (child_of a 3))
      own true h =
          subst NoTwice (five (a ∷ []) (nodes_within g n items (child_of a 0)) (nodes_within g n items (child_of a 1)) (nodes_within g n items (child_of a 2)) (nodes_within g n items (child_of a 3)))
          (twice_append (a ∷ []) (nodes_within g n items (child_of a 0) ++ nodes_within g n items (child_of a 1) ++ nodes_within g n items (child_of a 2) ++ nodes_within g n items (child_of a 3)) (λ h. h, tt) h own_apart)
      own false h = h

      by : (b : Bool) → NoTwice (nodes_within g n items (child_of a 0) ++ nodes_within g n items (child_of a 1) ++ nodes_within g n items (child_of a 2) ++ nodes_within g n items (child_of a 3))
          → NoTwice (cond b (cond (a.level % 4 == 0) (a ∷ []) [] ++ nodes_within g n items (child_of a 0) ++ nodes_within g n items (child_of a 1) ++ nodes_within g n items (child_of a 2) ++ nodes_within g n items (child_of a 3)) [])
      by false h = tt
      by true h = own (a.level % 4 == 0) h

  pub under_once : (n : ℕ) (a : Address) → IsCell a → a.level + n ≡ 28 → NoTwice (cond (some_asks g a items) (nodes_within g n items a) (a ∷ []))
  under_once n a cell low = by (some_asks g a items) (nodes_once n a cell (omega (arith, low)))
    where
      by : (b : Bool) → NoTwice (nodes_within g n items a) → NoTwice (cond b (nodes_within g n items a) (a ∷ []))
      by true h = h
      by false h = (λ h. h, tt)

  -- ---- from each node to its child nodes
  split_is : (d : Address) → d.level < 28 → is_split g items d ≡ some_asks g d items
  split_is d low = let high : nat_lt d.level 28 ≡ true = lt d.level low in rw high refl
    where
      lt : (m : ℕ) → m < 28 → nat_lt m 28 ≡ true
      lt m h = grind (arith, nat_tests)

  split_deep : (d : Address) → d.level ≡ 28 → is_split g items d ≡ false
  split_deep d deep = let high : nat_lt d.level 28 ≡ false = lt d.level deep in rw high refl
    where
      lt : (m : ℕ) → m ≡ 28 → nat_lt m 28 ≡ false
      lt m h = grind (arith, nat_tests)

  flat_four : (f : Address → List Address) (a b d e : List Address) → flat_map f (a ++ b ++ d ++ e) ≡ flat_map f a ++ flat_map f b ++ flat_map f d ++ flat_map f e
  flat_four f a b d e = simp flat_map-append

  left : (level n : ℕ) → level + n ≡ 28 → 28 - level ≡ n
  left level n e = omega (arith, e)

  pub nodes_near : (n k : ℕ) (d : Address) → d.level + n ≡ 28 → (d.level + k) % 4 ≡ 0 → k < 4 → d.level + k ≤ 28
      → nodes_within g n items d ≡ flat_map nodes_under (splits_near g k items d)
  unfolding nodes_within splits_near
  nodes_near zero zero d deep step small low = let no = split_deep d (omega (arith, deep)) in rw no refl
  nodes_near zero (suc k) d deep step small low = absurd (omega (arith, deep, low))
  nodes_near (suc n) zero d deep step small low =
      rw (split_is d (omega (arith, deep))) (by (some_asks g d items) refl)
    where
      here : some_asks g d items ≡ true → flat_map nodes_under (d ∷ []) ≡ nodes_within g (suc n) items d
      here asks =
          append-nil (nodes_under d) ∙ ap (λ b. cond b (nodes_within g (28 - d.level) items d) (d ∷ [])) asks ∙ ap (λ m. nodes_within g m items d) (left d.level (suc n) deep)

      by : (b : Bool) → some_asks g d items ≡ b → nodes_within g (suc n) items d ≡ flat_map nodes_under (cond b (d ∷ []) [])
      by true e = sym (here e)
      by false e = rw e refl
  nodes_near (suc n) (suc k) d deep step small low =
      let child : (q : ℕ) → nodes_within g n items (child_of d q) ≡ flat_map nodes_under (splits_near g k items (child_of d q)) =
      λ q. nodes_near n k (child_of d q) (omega (arith, deep)) (let e : d.level + 1 + k ≡ d.level + suc k = omega arith in ap (λ m. m % 4) e ∙ step) (omega (arith, small)) (omega (arith, low)) in
      rw (split_is d (omega (arith, deep)), not_here) (by (some_asks g d items) (child 0) (child 1) (child 2) (child 3))
    where
      ne : (m k : ℕ) → (m + suc k) % 4 ≡ 0 → suc k < 4 → m % 4 ≢ 0
      ne m k h s e = omega (arith, h, s, e)

      not_here : (d.level % 4 == 0) ≡ false
      not_here = Rattle.std.proofs.lemmas.Bool.ne_eqb (d.level % 4) 0 (ne d.level k step small)

      by : (b : Bool) {x0 x1 x2 x3 : List Address} → x0 ≡ flat_map nodes_under (splits_near g k items (child_of d 0)) → x1 ≡ flat_map nodes_under (splits_near g k items (child_of d 1))
          → x2 ≡ flat_map nodes_under (splits_near g k items (child_of d 2)) → x3 ≡ flat_map nodes_under (splits_near g k items (child_of d 3))
          → cond b (x0 ++ x1 ++ x2 ++ x3) []
          ≡ flat_map nodes_under (cond b (splits_near g k items (child_of d 0) ++ splits_near g k items (child_of d 1) ++ splits_near g k items (child_of d 2) ++ splits_near g k items (child_of d 3)) [])
      by true e0 e1 e2 e3 =
          (λ i. e0 i ++ e1 i ++ e2 i ++ e3 i)
          ∙ sym (flat_four nodes_under (splits_near g k items (child_of d 0)) (splits_near g k items (child_of d 1)) (splits_near g k items (child_of d 2)) (splits_near g k items (child_of d 3)))
      by false e0 e1 e2 e3 = refl

  five_apart : (o a b d e : List Address) → o ++ a ++ b ++ d ++ e ≡ o ++ (a ++ b ++ d ++ e)
  five_apart o a b d e = simp append_assoc

  first_at : (n : ℕ) (c : Address) → c.level % 4 ≡ 0 → c.level ≤ 24 → c.level + suc n ≡ 28
      → cond (some_asks g c items) (nodes_within g (28 - c.level) items c) (c ∷ []) ≡ c ∷ flat_map nodes_under (splits_near g 4 items c)
  unfolding nodes_within splits_near
  first_at n c step low deep =
      let child : (q : ℕ) → nodes_within g n items (child_of c q) ≡ flat_map nodes_under (splits_near g 3 items (child_of c q)) =
      λ q. nodes_near n 3 (child_of c q) (omega (arith, deep)) (let e : c.level + 1 + 3 ≡ c.level + 4 = omega arith in ap (λ m. m % 4) e ∙ omega (arith, step)) (omega arith) (omega (arith, low)) in
      let fuel = left c.level (suc n) deep in
      let here : (c.level % 4 == 0) ≡ true = rw step refl in
      rw (split_is c (omega (arith, deep)), fuel) (by (some_asks g c items) here (child 0) (child 1) (child 2) (child 3))
    where
      by : (b : Bool) {x0 x1 x2 x3 : List Address} → (c.level % 4 == 0) ≡ true → x0 ≡ flat_map nodes_under (splits_near g 3 items (child_of c 0)) → x1 ≡ flat_map nodes_under (splits_near g 3 items (child_of c 1))
          → x2 ≡ flat_map nodes_under (splits_near g 3 items (child_of c 2)) → x3 ≡ flat_map nodes_under (splits_near g 3 items (child_of c 3))
          → cond b (cond b (cond (c.level % 4 == 0) (c ∷ []) [] ++ x0 ++ x1 ++ x2 ++ x3) []) (c ∷ [])
          ≡ c ∷ flat_map nodes_under (cond b (splits_near g 3 items (child_of c 0) ++ splits_near g 3 items (child_of c 1) ++ splits_near g 3 items (child_of c 2) ++ splits_near g 3 items (child_of c 3)) [])
      by true {x0} {x1} {x2} {x3} here e0 e1 e2 e3 =
          ap (λ b. cond b (c ∷ []) [] ++ x0 ++ x1 ++ x2 ++ x3) here ∙ five_apart (c ∷ []) x0 x1 x2 x3
          ∙ ap (λ v. c ∷ v) ((λ i. e0 i ++ e1 i ++ e2 i ++ e3 i)
          ∙ sym (flat_four nodes_under (splits_near g 3 items (child_of c 0)) (splits_near g 3 items (child_of c 1)) (splits_near g 3 items (child_of c 2)) (splits_near g 3 items (child_of c 3))))
      by false here e0 e1 e2 e3 = refl

  -- a node, and then all nodes under its child nodes
  pub node_first : (c : Address) → c.level % 4 ≡ 0 → c.level ≤ 24 → nodes_under c ≡ c ∷ flat_map nodes_under (splits_near g 4 items c)
  node_first c step low = first_at (27 - c.level) c step low (omega (arith, low))

-- ---- rows
pub sum_flat : {X Y : Type 0} (f : Y → ℕ) (h : X → List Y) (xs : List X) → sum_by f (flat_map h xs) ≡ sum_by (λ x. sum_by f (h x)) xs
sum_flat f h [] = refl
sum_flat f h (x ∷ xs) =
    sum_by-append f (h x) (flat_map h xs) ∙ (ap (λ n. sum_by f (h x) + n) (sum_flat f h xs) ∙ sym (sum_by-cons (λ x. sum_by f (h x)) x xs))

module _ (settings : Settings) (state : State) where
  pack_append : (xs ys : List Address) (rows at : ℕ) → pack_of state (record { rows = rows; at = at }) (xs ++ ys) ≡ pack_of state (pack_of state (record { rows = rows; at = at }) xs) ys
  pack_append [] ys rows at = refl
  pack_append (x ∷ xs) ys rows at = pack_append xs ys (put_leaf (record { rows = rows; at = at }) (count_at state x)).rows (put_leaf (record { rows = rows; at = at }) (count_at state x)).at

  pub count_is : (c : Address) → length (on (ground_of settings state) state.zones c) ≡ count_at state c
  count_is c = sym (length-map (on (ground_of settings state) state.zones c) (λ (zone : Zone). record { key = zone.key; hit = is_within (class_at zone.shape c) }))

  -- the lists of the leaves near a cell
  pack_is : (n k : ℕ) (d : Address) (rows at : ℕ) → d.level + n ≡ 28
      → put_tree k (record { rows = rows; at = at }) (tree_of (ground_of settings state) n state.zones d) ≡ pack_of state (record { rows = rows; at = at }) (leaves_near (ground_of settings state) k state.zones d)
  unfolding tree_of leaves_near
  pack_is zero zero d rows at deep = rw (split_deep (ground_of settings state) state.zones d (omega (arith, deep)), count_is d) refl
  pack_is zero (suc k) d rows at deep = rw (split_deep (ground_of settings state) state.zones d (omega (arith, deep)), count_is d) refl
  pack_is (suc n) zero d rows at deep =
      rw (split_is (ground_of settings state) state.zones d (omega (arith, deep)), count_is d) (by (some_asks (ground_of settings state) d state.zones))
    where
      by : (b : Bool)
          → put_tree 0 (record { rows = rows; at = at }) (cond b (Split (tree_of (ground_of settings state) n state.zones (child_of d 0)) (tree_of (ground_of settings state) n state.zones (child_of d 1))
          (tree_of (ground_of settings state) n state.zones (child_of d 2)) (tree_of (ground_of settings state) n state.zones (child_of d 3))) (Leaf (count_at state d)))
          ≡ pack_of state (record { rows = rows; at = at }) (cond b [] (d ∷ []))
      by true = refl
      by false = refl
  pack_is (suc n) (suc k) d rows at deep =
      rw (split_is (ground_of settings state) state.zones d (omega (arith, deep)), count_is d) (by (some_asks (ground_of settings state) d state.zones) (λ q rows at. pack_is n k (child_of d q) rows at (omega (arith, deep))))
    where
      four_trees : (t0 t1 t2 t3 : Tree) (l0 l1 l2 l3 : List Address) (rows at : ℕ)
          → ((rows at : ℕ) → put_tree k (record { rows = rows; at = at }) t0 ≡ pack_of state (record { rows = rows; at = at }) l0)
          → ((rows at : ℕ) → put_tree k (record { rows = rows; at = at }) t1 ≡ pack_of state (record { rows = rows; at = at }) l1)
          → ((rows at : ℕ) → put_tree k (record { rows = rows; at = at }) t2 ≡ pack_of state (record { rows = rows; at = at }) l2)
          → ((rows at : ℕ) → put_tree k (record { rows = rows; at = at }) t3 ≡ pack_of state (record { rows = rows; at = at }) l3)
          → put_tree k (put_tree k (put_tree k (put_tree k (record { rows = rows; at = at }) t0) t1) t2) t3 ≡ pack_of state (record { rows = rows; at = at }) (l0 ++ l1 ++ l2 ++ l3)
      four_trees t0 t1 t2 t3 l0 l1 l2 l3 rows at e0 e1 e2 e3 =
          let p1 = pack_of state (record { rows = rows; at = at }) l0 in
          let p2 = pack_of state p1 l1 in
          let p3 = pack_of state p2 l2 in
          ap (λ v. put_tree k (put_tree k (put_tree k v t1) t2) t3) (e0 rows at)
          ∙ (ap (λ v. put_tree k (put_tree k v t2) t3) (e1 p1.rows p1.at)
          ∙ (ap (λ v. put_tree k v t3) (e2 p2.rows p2.at)
          ∙ (e3 p3.rows p3.at
          ∙ sym (pack_append (l0 ++ l1 ++ l2) l3 rows at ∙ (ap (λ v. pack_of state v l3) (pack_append (l0 ++ l1) l2 rows at ∙ ap (λ v. pack_of state v l2) (pack_append l0 l1 rows at)))))))

      by : (b : Bool) → ((q rows at : ℕ) → put_tree k (record { rows = rows; at = at }) (tree_of (ground_of settings state) n state.zones (child_of d q))
          ≡ pack_of state (record { rows = rows; at = at }) (leaves_near (ground_of settings state) k state.zones (child_of d q)))
          → put_tree (suc k) (record { rows = rows; at = at }) (cond b (Split (tree_of (ground_of settings state) n state.zones (child_of d 0)) (tree_of (ground_of settings state) n state.zones (child_of d 1))
          (tree_of (ground_of settings state) n state.zones (child_of d 2)) (tree_of (ground_of settings state) n state.zones (child_of d 3))) (Leaf (count_at state d)))
          ≡ pack_of state (record { rows = rows; at = at }) (cond b (leaves_near (ground_of settings state) k state.zones (child_of d 0) ++ leaves_near (ground_of settings state) k state.zones (child_of d 1)
          ++ leaves_near (ground_of settings state) k state.zones (child_of d 2) ++ leaves_near (ground_of settings state) k state.zones (child_of d 3)) (d ∷ []))
      by true one = four_trees (tree_of (ground_of settings state) n state.zones (child_of d 0)) (tree_of (ground_of settings state) n state.zones (child_of d 1)) (tree_of (ground_of settings state) n state.zones (child_of d 2)) (tree_of (ground_of settings state) n state.zones (child_of d 3))
          (leaves_near (ground_of settings state) k state.zones (child_of d 0)) (leaves_near (ground_of settings state) k state.zones (child_of d 1)) (leaves_near (ground_of settings state) k state.zones (child_of d 2)) (leaves_near (ground_of settings state) k state.zones (child_of d 3)) rows at (one 0) (one 1) (one 2) (one 3)
      by false one = refl

  -- the rows of a node, and of all nodes under split cells below one
  abbrev rows_at : Address → ℕ
  rows_at c = 1 + list_rows settings state c

  sum_four : (a b d e : List Address) → sum_by rows_at (flat_map (nodes_under (ground_of settings state) state.zones) (a ++ b ++ d ++ e))
      ≡ sum_by rows_at (flat_map (nodes_under (ground_of settings state) state.zones) a) + sum_by rows_at (flat_map (nodes_under (ground_of settings state) state.zones) b)
      + sum_by rows_at (flat_map (nodes_under (ground_of settings state) state.zones) d) + sum_by rows_at (flat_map (nodes_under (ground_of settings state) state.zones) e)
  sum_four a b d e = simp (flat_map-append, sum_by-append)

  split_four : (d : Address) → d.level < 28 → some_asks (ground_of settings state) d state.zones ≡ true
      → splits_near (ground_of settings state) 4 state.zones d
      ≡ splits_near (ground_of settings state) 3 state.zones (child_of d 0) ++ splits_near (ground_of settings state) 3 state.zones (child_of d 1)
      ++ splits_near (ground_of settings state) 3 state.zones (child_of d 2) ++ splits_near (ground_of settings state) 3 state.zones (child_of d 3)
  unfolding splits_near
  split_four d low asks = rw (split_is (ground_of settings state) state.zones d low, asks) refl

  tree_four : (n : ℕ) (d : Address) → some_asks (ground_of settings state) d state.zones ≡ true
      → tree_of (ground_of settings state) (suc n) state.zones d
      ≡ Split (tree_of (ground_of settings state) n state.zones (child_of d 0)) (tree_of (ground_of settings state) n state.zones (child_of d 1))
      (tree_of (ground_of settings state) n state.zones (child_of d 2)) (tree_of (ground_of settings state) n state.zones (child_of d 3))
  unfolding tree_of
  tree_four n d asks = rw asks refl

  -- the list rows of a node, by its tree
  lists_are : (n : ℕ) (d : Address) → d.level + n ≡ 28 → (put_tree 4 empty_pack (tree_of (ground_of settings state) n state.zones d)).rows ≡ list_rows settings state d
  lists_are n d deep = ap (λ v. (pack_of state v []).rows) (pack_is n 4 d 0 256 deep)

  inner_node : (n : ℕ) (d : Address) → d.level + suc n ≡ 28 → d.level % 4 ≡ 0 → some_asks (ground_of settings state) d state.zones ≡ true
      → ((q : ℕ) → inner 3 (tree_of (ground_of settings state) n state.zones (child_of d q))
      ≡ sum_by rows_at (flat_map (nodes_under (ground_of settings state) state.zones) (splits_near (ground_of settings state) 3 state.zones (child_of d q))))
      → inner 0 (tree_of (ground_of settings state) (suc n) state.zones d) ≡ sum_by rows_at (flat_map (nodes_under (ground_of settings state) state.zones) (d ∷ []))
  inner_node n d deep step asks child =
      let t = tree_four n d asks in
      let rows = lists_are (suc n) d deep in
      let s = split_four d (omega (arith, deep)) asks in
      let first = node_first (ground_of settings state) state.zones d step (omega (arith, deep, step)) in
      let parts = sum_four (splits_near (ground_of settings state) 3 state.zones (child_of d 0)) (splits_near (ground_of settings state) 3 state.zones (child_of d 1))
      (splits_near (ground_of settings state) 3 state.zones (child_of d 2)) (splits_near (ground_of settings state) 3 state.zones (child_of d 3)) in
      let all : sum_by rows_at (flat_map (nodes_under (ground_of settings state) state.zones) (d ∷ []))
      ≡ rows_at d + sum_by rows_at (flat_map (nodes_under (ground_of settings state) state.zones) (splits_near (ground_of settings state) 4 state.zones d)) =
      ap (sum_by rows_at) (append-nil (nodes_under (ground_of settings state) state.zones d) ∙ first)
      ∙ sum_by-cons rows_at d (flat_map (nodes_under (ground_of settings state) state.zones) (splits_near (ground_of settings state) 4 state.zones d)) in
      let below = ap (λ v. sum_by rows_at (flat_map (nodes_under (ground_of settings state) state.zones) v)) s in
      let own = ap (λ v. (put_tree 4 empty_pack v).rows) t in
      ap (inner 0) t ∙ omega (arith, all, below, parts, own, rows, child 0, child 1, child 2, child 3)

  inner_is : (n k : ℕ) (d : Address) → d.level + n ≡ 28 → (d.level + k) % 4 ≡ 0 → k ≤ 4 → d.level + k ≤ 28
      → inner k (tree_of (ground_of settings state) n state.zones d) ≡ sum_by rows_at (flat_map (nodes_under (ground_of settings state) state.zones) (splits_near (ground_of settings state) k state.zones d))
  unfolding tree_of splits_near
  inner_is zero zero d deep step small low = rw (split_deep (ground_of settings state) state.zones d (omega (arith, deep))) refl
  inner_is zero (suc k) d deep step small low = rw (split_deep (ground_of settings state) state.zones d (omega (arith, deep))) refl
  inner_is (suc n) zero d deep step small low =
      rw (split_is (ground_of settings state) state.zones d (omega (arith, deep)))
      (by (some_asks (ground_of settings state) d state.zones) refl
      (λ q. inner_is n 3 (child_of d q) (omega (arith, deep)) (let e : d.level + 1 + 3 ≡ d.level + 4 = omega arith in ap (λ m. m % 4) e ∙ omega (arith, step)) (omega arith) (omega (arith, deep, step))))
    where
      none : d.level + 0 ≡ d.level
      none = omega arith

      by : (b : Bool) → some_asks (ground_of settings state) d state.zones ≡ b
          → ((q : ℕ) → inner 3 (tree_of (ground_of settings state) n state.zones (child_of d q))
          ≡ sum_by rows_at (flat_map (nodes_under (ground_of settings state) state.zones) (splits_near (ground_of settings state) 3 state.zones (child_of d q))))
          → inner 0 (tree_of (ground_of settings state) (suc n) state.zones d) ≡ sum_by rows_at (flat_map (nodes_under (ground_of settings state) state.zones) (cond b (d ∷ []) []))
      by true asks child = inner_node n d deep (ap (λ m. m % 4) (sym none) ∙ step) asks child
      by false asks child = rw asks refl
  inner_is (suc n) (suc k) d deep step small low =
      rw (split_is (ground_of settings state) state.zones d (omega (arith, deep)))
      (by (some_asks (ground_of settings state) d state.zones)
      (λ q. inner_is n k (child_of d q) (omega (arith, deep)) (let e : d.level + 1 + k ≡ d.level + suc k = omega arith in ap (λ m. m % 4) e ∙ step) (omega (arith, small)) (omega (arith, low))))
    where
      four_parts : (x0 x1 x2 x3 : Tree) (s0 s1 s2 s3 : List Address) → inner k x0 ≡ sum_by rows_at (flat_map (nodes_under (ground_of settings state) state.zones) s0)
          → inner k x1 ≡ sum_by rows_at (flat_map (nodes_under (ground_of settings state) state.zones) s1) → inner k x2 ≡ sum_by rows_at (flat_map (nodes_under (ground_of settings state) state.zones) s2)
          → inner k x3 ≡ sum_by rows_at (flat_map (nodes_under (ground_of settings state) state.zones) s3)
          → inner (suc k) (Split x0 x1 x2 x3) ≡ sum_by rows_at (flat_map (nodes_under (ground_of settings state) state.zones) (s0 ++ s1 ++ s2 ++ s3))
      four_parts x0 x1 x2 x3 s0 s1 s2 s3 e0 e1 e2 e3 = (λ i. e0 i + e1 i + e2 i + e3 i) ∙ sym (sum_four s0 s1 s2 s3)

      by : (b : Bool) → ((q : ℕ) → inner k (tree_of (ground_of settings state) n state.zones (child_of d q))
          ≡ sum_by rows_at (flat_map (nodes_under (ground_of settings state) state.zones) (splits_near (ground_of settings state) k state.zones (child_of d q))))
          → inner (suc k) (cond b (Split (tree_of (ground_of settings state) n state.zones (child_of d 0)) (tree_of (ground_of settings state) n state.zones (child_of d 1))
          (tree_of (ground_of settings state) n state.zones (child_of d 2)) (tree_of (ground_of settings state) n state.zones (child_of d 3))) (Leaf (length (on (ground_of settings state) state.zones d))))
          ≡ sum_by rows_at (flat_map (nodes_under (ground_of settings state) state.zones) (cond b (splits_near (ground_of settings state) k state.zones (child_of d 0) ++ splits_near (ground_of settings state) k state.zones (child_of d 1)
          ++ splits_near (ground_of settings state) k state.zones (child_of d 2) ++ splits_near (ground_of settings state) k state.zones (child_of d 3)) []))
      by true child = four_parts (tree_of (ground_of settings state) n state.zones (child_of d 0)) (tree_of (ground_of settings state) n state.zones (child_of d 1)) (tree_of (ground_of settings state) n state.zones (child_of d 2)) (tree_of (ground_of settings state) n state.zones (child_of d 3))
          (splits_near (ground_of settings state) k state.zones (child_of d 0)) (splits_near (ground_of settings state) k state.zones (child_of d 1)) (splits_near (ground_of settings state) k state.zones (child_of d 2)) (splits_near (ground_of settings state) k state.zones (child_of d 3)) (child 0) (child 1) (child 2) (child 3)
      by false child = refl

  -- all nodes, with their lists
  nodes_are : (n : ℕ) → root_cell.level + n ≡ 28
      → nodes_of settings state ≡ nodes_under (ground_of settings state) state.zones root_cell
  unfolding nodes_of
  nodes_are n deep = refl

  pub nodes_are_under : nodes_of settings state ≡ nodes_under (ground_of settings state) state.zones root_cell
  nodes_are_under = nodes_are 28 refl

  root_rows : (n : ℕ) → 0 + n ≡ 28 → node_rows (tree_of (ground_of settings state) n state.zones root_cell) ≡ sum_by rows_at (nodes_under (ground_of settings state) state.zones root_cell)
  root_rows n deep =
      let first = ap (sum_by rows_at) (node_first (ground_of settings state) state.zones root_cell refl (omega arith))
      ∙ sum_by-cons rows_at root_cell (flat_map (nodes_under (ground_of settings state) state.zones) (splits_near (ground_of settings state) 4 state.zones root_cell)) in
      let below = inner_is n 4 root_cell deep refl (omega arith) (omega arith) in
      let own = lists_are n root_cell deep in
      omega (arith, first, below, own)

  -- the rows of a state are those of its nodes, with their lists, and of its chains
  pub size_is : size_of settings state ≡ sum_by (λ c. 1 + list_rows settings state c) (nodes_of settings state) + chains_of state.zones
  unfolding rows_with tree_rows under
  size_is = ap (λ m. m + chains_of state.zones) (root_rows 28 refl ∙ ap (sum_by rows_at) (sym nodes_are_under))
