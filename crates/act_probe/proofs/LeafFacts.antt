-- The way down to a leaf.
use Rattle.std.proofs.Common.{◌≡◌, ℕ, zero, suc, ◌+◌, ◌-◌, ◌*◌, ◌/◌, ◌%◌, ◌^◌, ◌<◌, ◌≤◌, Bool, true, false, cond, int_lt, ℤ, pos, ◌≤ℤ◌, ◌<ℤ◌, ◌+ℤ◌, ◌-ℤ◌, ◌==◌, refl, sym, ap, ◌∙◌, subst, arith, List, pow-suc}
use Rattle.std.proofs.lemmas.Int.{ints}
use Rattle.std.proofs.lemmas.Nat.{pow_pos}
use Rattle.act_grid.specs.declared.Point.{Point}
use Rattle.act_grid.specs.Hull.{IsIn}
use Rattle.act_grid.specs.Cell.{Address, IsCell, child_of, column, hull_of, row, side_of}
use Rattle.act_grid.proofs.CellOrder.{some_child, part_from_point}
use Rattle.act_grid.proofs.SpacedFacts.{row_more}
use Rattle.act_super.specs.Grounds.{Ground, leaf_within, quarter_of, some_asks}

-- ---- the quarter that holds a point
column_child : (l path q : ℕ) → q < 4 → column (l + 1) (path * 4 + q) ≡ column l path * 2 + q % 2
unfolding column
column_child l path q h =
    let e : l + 1 ≡ suc l = omega arith in
    let rest : (path * 4 + q) / 4 ≡ path = omega arith in
    let low : (path * 4 + q) % 2 ≡ q % 2 = omega arith in
    ap (λ v. column v (path * 4 + q)) e ∙ ap (λ v. column l v * 2 + (path * 4 + q) % 2) rest ∙ ap (λ v. column l path * 2 + v) low

row_child : (l path q : ℕ) → q < 4 → row (l + 1) (path * 4 + q) ≡ row l path * 2 + q / 2
row_child l path q h =
    let e : l + 1 ≡ suc l = omega arith in
    let rest : (path * 4 + q) / 4 ≡ path = omega arith in
    let low : (path * 4 + q) / 2 % 2 ≡ q / 2 = omega arith in
    ap (λ v. row v (path * 4 + q)) e ∙ row_more l (path * 4 + q) ∙ ap (λ v. row l v * 2 + (path * 4 + q) / 2 % 2) rest ∙ ap (λ v. row l path * 2 + v) low

-- a number of the first half of a side, and one of the second
first_half : (m half : ℕ) (z : ℤ) → z ≤ℤ (pos m -ℤ pos (2 ^ 31) +ℤ pos (half - 1)) → int_lt (pos m -ℤ pos (2 ^ 31) +ℤ pos (half - 1)) z ≡ false
first_half m half z h = grind (arith, ints)

second_half : (m half : ℕ) (z : ℤ) → 1 ≤ half → (pos (m + half) -ℤ pos (2 ^ 31)) ≤ℤ z → int_lt (pos m -ℤ pos (2 ^ 31) +ℤ pos (half - 1)) z ≡ true
second_half m half z some h = let more : (pos m -ℤ pos (2 ^ 31) +ℤ pos (half - 1)) <ℤ z = omega (arith, ints) in grind (arith, ints)

-- which half of the side of the cell at hand holds a number
half_is : (a n half b : ℕ) (z : ℤ) → 1 ≤ half → b ≤ 1 → n ≡ a * 2 + b → (pos (n * half) -ℤ pos (2 ^ 31)) ≤ℤ z → z ≤ℤ (pos (n * half) -ℤ pos (2 ^ 31) +ℤ pos (half - 1))
    → int_lt (pos ((a * 2 + 0) * half) -ℤ pos (2 ^ 31) +ℤ pos (half - 1)) z ≡ (b == 1)
half_is a n half zero z some few is low high =
    first_half ((a * 2 + 0) * half) half z (subst (λ v. z ≤ℤ (pos (v * half) -ℤ pos (2 ^ 31) +ℤ pos (half - 1))) is high)
half_is a n half (suc zero) z some few is low high =
    let there : n * half ≡ (a * 2 + 0) * half + half = ap (λ v. v * half) is ∙ omega arith in
    second_half ((a * 2 + 0) * half) half z some (subst (λ v. (pos v -ℤ pos (2 ^ 31)) ≤ℤ z) there low)
half_is a n half (suc (suc b)) z some few is low high = absurd (omega (arith, few))

pub quarter_is : (c : Address) (p : Point) (q : ℕ) → q < 4 → IsIn (hull_of (child_of c q)) p → quarter_of c p ≡ q
quarter_is c p q small inside =
    let side : 1 ≤ side_of (child_of c q) = pow_pos (32 - (c.level + 1)) in
    let first_x : column (c.level + 1) (c.path * 4 + 0) ≡ column c.level c.path * 2 + 0 = column_child c.level c.path 0 (omega arith) in
    let first_y : row (c.level + 1) (c.path * 4 + 0) ≡ row c.level c.path * 2 + 0 = row_child c.level c.path 0 (omega arith) in
    let x = half_is (column c.level c.path) (column (c.level + 1) (c.path * 4 + q)) (side_of (child_of c q)) (q % 2) p.x side (omega arith) (column_child c.level c.path q small) inside.west inside.east in
    let y = half_is (row c.level c.path) (row (c.level + 1) (c.path * 4 + q)) (side_of (child_of c q)) (q / 2) p.y side (omega (arith, small)) (row_child c.level c.path q small) inside.south inside.north in
    rw (first_x, first_y) (rw (x, y) (chosen q small))
  where
    chosen : (q : ℕ) → q < 4 → cond (q / 2 == 1) (cond (q % 2 == 1) 3 2) (cond (q % 2 == 1) 1 0) ≡ q
    chosen zero h = refl
    chosen (suc zero) h = refl
    chosen (suc (suc zero)) h = refl
    chosen (suc (suc (suc zero))) h = refl
    chosen (suc (suc (suc (suc q)))) h = absurd (omega (arith, h))

-- ---- the child that holds a point
pub record Below (c : Address) (p : Point) : Type 0 where
  pub small : quarter_of c p < 4
  pub inside : IsIn (hull_of (child_of c (quarter_of c p))) p
  pub cell : IsCell (child_of c (quarter_of c p))

child_cell : (c : Address) (q : ℕ) → IsCell c → c.level < 30 → q < 4 → IsCell (child_of c q)
child_cell c q cell deep small =
    let four : 4 ^ (c.level + 1) ≡ 4 ^ c.level * 4 = (let one : c.level + 1 ≡ suc c.level = omega arith in ap (λ n. 4 ^ n) one ∙ pow-suc 4 c.level) in
    record { deep = omega (arith, deep); short = omega (arith, four, cell.short, small) }

pub below : (c : Address) (p : Point) → IsCell c → c.level < 30 → IsIn (hull_of c) p → Below c p
below c p cell deep inside =
    let q = some_child c p cell deep inside in
    let is = quarter_is c p q.0 q.1 q.2 in
    record { small = rw is q.1; inside = rw is q.2; cell = rw is (child_cell c q.0 cell deep q.1) }

-- ---- leaves
module _ {X : Type 0} (g : Ground X) (items : List X) where
  -- a leaf lies no higher than where the way down begins
  pub deeper : (n : ℕ) (c : Address) (p : Point) → c.level ≤ (leaf_within g n items c p).level
  unfolding leaf_within
  deeper zero c p = omega arith
  deeper (suc n) c p = by (some_asks g c items) (deeper n (child_of c (quarter_of c p)) p)
    where
      by : (b : Bool) → c.level + 1 ≤ (leaf_within g n items (child_of c (quarter_of c p)) p).level
          → c.level ≤ (cond b (leaf_within g n items (child_of c (quarter_of c p)) p) c).level
      by true more = omega (arith, more)
      by false more = omega arith

  pub no_deeper : (n : ℕ) (c : Address) (p : Point) → (leaf_within g n items c p).level ≤ c.level + n
  unfolding leaf_within
  no_deeper zero c p = omega arith
  no_deeper (suc n) c p = by (some_asks g c items) (no_deeper n (child_of c (quarter_of c p)) p)
    where
      by : (b : Bool) → (leaf_within g n items (child_of c (quarter_of c p)) p).level ≤ c.level + 1 + n
          → (cond b (leaf_within g n items (child_of c (quarter_of c p)) p) c).level ≤ c.level + suc n
      by true less = omega (arith, less)
      by false less = omega arith

  -- it is a cell that holds the point
  pub record Leaf (leaf : Address) (p : Point) : Type 0 where
    pub cell : IsCell leaf
    pub inside : IsIn (hull_of leaf) p

  pub holds : (n : ℕ) (c : Address) (p : Point) → IsCell c → c.level + n ≤ 28 → IsIn (hull_of c) p → Leaf (leaf_within g n items c p) p
  unfolding leaf_within
  holds zero c p cell deep inside = record { cell = cell; inside = inside }
  holds (suc n) c p cell deep inside =
      let b = below c p cell (omega (arith, deep)) inside in
      by (some_asks g c items) (holds n (child_of c (quarter_of c p)) p b.cell (omega (arith, deep)) b.inside)
    where
      by : (b : Bool) → Leaf (leaf_within g n items (child_of c (quarter_of c p)) p) p → Leaf (cond b (leaf_within g n items (child_of c (quarter_of c p)) p) c) p
      by true more = more
      by false more = record { cell = cell; inside = inside }

  -- two points of a cell have the same leaf, where one of them has a leaf that isn't smaller than the cell
  pub agree : (n : ℕ) (c d : Address) (p q : Point) → IsCell c → IsCell d → c.level + n ≤ 28 → IsIn (hull_of c) p → IsIn (hull_of c) q → IsIn (hull_of d) p → IsIn (hull_of d) q
      → c.level ≤ d.level → (leaf_within g n items c q).level ≤ d.level → leaf_within g n items c p ≡ leaf_within g n items c q
  unfolding leaf_within
  agree zero c d p q cell small deep cp cq dp dq above high = refl
  agree (suc n) c d p q cell small deep cp cq dp dq above high = by (some_asks g c items) high (agree n)
    where
      Agree : Type 0
      Agree = (c d : Address) (p q : Point) → IsCell c → IsCell d → c.level + n ≤ 28 → IsIn (hull_of c) p → IsIn (hull_of c) q → IsIn (hull_of d) p → IsIn (hull_of d) q
          → c.level ≤ d.level → (leaf_within g n items c q).level ≤ d.level → leaf_within g n items c p ≡ leaf_within g n items c q

      by : (b : Bool) → (cond b (leaf_within g n items (child_of c (quarter_of c q)) q) c).level ≤ d.level → Agree
          → cond b (leaf_within g n items (child_of c (quarter_of c p)) p) c ≡ cond b (leaf_within g n items (child_of c (quarter_of c q)) q) c
      by false high more = refl
      by true high more =
          let bp = below c p cell (omega (arith, deep)) cp in
          let bq = below c q cell (omega (arith, deep)) cq in
          let one : c.level + 1 ≤ d.level = omega (arith, deeper n (child_of c (quarter_of c q)) q, high) in
          let part_p = part_from_point (child_of c (quarter_of c p)) d p bp.cell small one bp.inside dp in
          let part_q = part_from_point (child_of c (quarter_of c q)) d q bq.cell small one bq.inside dq in
          let same : quarter_of c p ≡ quarter_of c q = omega (arith, sym part_p.begins ∙ part_q.begins) in
          let inside : IsIn (hull_of (child_of c (quarter_of c q))) p = rw same at bp.inside in
          rw same (more (child_of c (quarter_of c q)) d p q bq.cell small (omega (arith, deep)) inside bq.inside dp dq one high)
