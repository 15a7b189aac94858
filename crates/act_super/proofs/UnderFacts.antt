-- One step down the super covering.
use Rattle.std.proofs.Common.{◌≡◌, ℕ, zero, suc, ◌+◌, ◌-◌, ◌*◌, ◌^◌, ◌<◌, ◌≤◌, refl, sym, ap, ◌∙◌, arith, pow-suc, Bool, true, false, ◌&&◌, cond, List, [], ◌∷◌, length}
use Rattle.std.specs.Prelude.{nat_lt}
use Rattle.std.proofs.lemmas.Bool.Decides.{nat_tests}
use Rattle.act_grid.specs.Cell.{Address, IsCell, child_of}
use Rattle.act_cover.proofs.Placed.{child_cell}
use Rattle.act_cover.specs.Covering.{is_on}
use Rattle.act_super.specs.declared.pack.Pack.{Pack}
use Rattle.act_super.specs.Grounds.{Ground, on, some_asks, is_split}
use Rattle.act_super.specs.Trees.{tree_of, under, most}
use Rattle.act_super.specs.Trees.Tree.{Leaf, Split}
use Rattle.act_super.specs.Packs.{put_tree, inner, empty_pack}
use Rattle.act_super.specs.Parts.{part, four_parts, put_four, inner_four, most_four}
use Rattle.act_super.proofs.TreeFacts.{GoesDown, narrow}

pub split_low : {X : Type 0} (g : Ground X) (items : List X) (c : Address) → is_split g items c ≡ true → c.level < 28
split_low g items c e = low c.level (some_asks g c items) e
  where
    low : (n : ℕ) (b : Bool) → (nat_lt n 28 && b) ≡ true → n < 28
    low n b e = grind (arith, nat_tests)

split_asks : {X : Type 0} (g : Ground X) (items : List X) (c : Address) → is_split g items c ≡ true → some_asks g c items ≡ true
split_asks g items c e = second (nat_lt c.level 28) (some_asks g c items) e
  where
    second : (a b : Bool) → (a && b) ≡ true → b ≡ true
    second true b e = e
    second false b e = absurd (cc)

pub under_split : {X : Type 0} (g : Ground X) → GoesDown g → (items : List X) (c : Address) → IsCell c → is_split g items c ≡ true
    → under g items c ≡ Split (part g items c 0) (part g items c 1) (part g items c 2) (part g items c 3)
unfolding tree_of under
under_split g down items c cell e =
    let low : c.level < 28 = split_low g items c e in
    let n = 27 - c.level in
    let fuel : 28 - c.level ≡ suc n = omega arith in
    let less : 28 - (c.level + 1) ≡ n = omega arith in
    let sub : (q : ℕ) → q < 4 → tree_of g n items (child_of c q) ≡ tree_of g (28 - (c.level + 1)) (on g items (child_of c q)) (child_of c q) =
    λ q four. sym (narrow g down n items (child_of c q) (child_cell c q cell (omega arith) four) (omega arith))
    ∙ ap (λ m. tree_of g m (on g items (child_of c q)) (child_of c q)) (sym less) in
    rw (fuel, split_asks g items c e, sub 0 (omega arith), sub 1 (omega arith), sub 2 (omega arith), sub 3 (omega arith)) refl

-- a cell that isn't split is a leaf
pub under_leaf : {X : Type 0} (g : Ground X) (items : List X) (c : Address) → is_split g items c ≡ false → under g items c ≡ Leaf (length (on g items c))
unfolding tree_of under
under_leaf g items c e = by_level (nat_lt c.level 28) refl
  where
    at : (n : ℕ) → some_asks g c items ≡ false → tree_of g n items c ≡ Leaf (length (on g items c))
    at zero h = refl
    at (suc n) h = rw h refl

    none : (n : ℕ) → nat_lt n 28 ≡ false → 28 - n ≡ 0
    none n h = grind (arith, nat_tests)

    second : (a b : Bool) → a ≡ true → (a && b) ≡ false → b ≡ false
    second a b h e = grind arith

    by_level : (b : Bool) → nat_lt c.level 28 ≡ b → tree_of g (28 - c.level) items c ≡ Leaf (length (on g items c))
    by_level true h = at (28 - c.level) (second (nat_lt c.level 28) (some_asks g c items) h e)
    by_level false h = let zero : 28 - c.level ≡ 0 = none c.level h in rw zero refl

-- the same, where the items are those on the cell
pub leaf_here : {X : Type 0} (g : Ground X) (items : List X) (c : Address) → is_split g items c ≡ false → on g items c ≡ items → under g items c ≡ Leaf (length items)
leaf_here g items c e h = under_leaf g items c e ∙ ap (λ r. Leaf (length r)) h

pub pow_one : (k : ℕ) → 1 ≤ 4 ^ k
pow_one zero = omega arith
pow_one (suc k) = omega (arith, pow-suc 4 k, pow_one k)

pub pow_step : (k : ℕ) → 0 < k → 4 ^ k ≡ 4 * 4 ^ (k - 1)
pow_step zero h = absurd (omega arith)
pow_step (suc k) h = let e : suc k - 1 ≡ k = omega arith in rw e (omega (arith, pow-suc 4 k))

module _ {X : Type 0} (g : Ground X) (down : GoesDown g) (items : List X) (c : Address) (cell : IsCell c) (e : is_split g items c ≡ true) where
  -- the lists of the leaves within some levels are those of the four parts
  pub put_as_four : (k : ℕ) (s : Pack) → 0 < k → put_tree k s (under g items c) ≡ put_four (k - 1) s (four_parts g items c)
  put_as_four zero s h = absurd (omega arith)
  put_as_four (suc k) s h =
      let f : suc k - 1 ≡ k = omega arith in
      ap (put_tree (suc k) s) (under_split g down items c cell e) ∙ rw f refl

  pub put_none : (k : ℕ) (s : Pack) → k ≡ 0 → put_tree k s (under g items c) ≡ s
  put_none k s h = rw h (ap (put_tree 0 s) (under_split g down items c cell e))

  pub inner_as_four : (k : ℕ) → 0 < k → inner k (under g items c) ≡ inner_four (k - 1) (four_parts g items c)
  inner_as_four zero h = absurd (omega arith)
  inner_as_four (suc k) h =
      let f : suc k - 1 ≡ k = omega arith in
      ap (inner (suc k)) (under_split g down items c cell e) ∙ rw f refl

  pub inner_as_node : (k : ℕ) → k ≡ 0 → inner k (under g items c) ≡ 1 + (put_four 3 empty_pack (four_parts g items c)).rows + inner_four 3 (four_parts g items c)
  inner_as_node k h = rw h (ap (inner 0) (under_split g down items c cell e))

  pub most_as_four : most (under g items c) ≡ most_four (four_parts g items c)
  most_as_four = ap most (under_split g down items c cell e)

pub length_on : {X : Type 0} (g : Ground X) (items : List X) (c : Address) → length (on g items c) ≤ length items
length_on g [] c = omega arith
length_on g (x ∷ items) c = step (is_on (g.class x c)) (length_on g items c)
  where
    step : (b : Bool) → length (on g items c) ≤ length items → length (cond b (x ∷ on g items c) (on g items c)) ≤ length (x ∷ items)
    step true h = omega arith
    step false h = omega arith
