-- Leaves hold their points, and their references answer for them.
use Rattle.std.proofs.Common.{◌≡◌, ◌⊎◌, inl, inr, ℕ, zero, suc, ◌+◌, ◌-◌, ◌*◌, ◌/◌, ◌%◌, ◌^◌, ◌<◌, ◌≤◌, ℤ, pos, ◌+ℤ◌, ◌-ℤ◌, ◌≤ℤ◌, refl, sym, ap, ◌∙◌, subst, arith, pow_pos, Bool, true, false, cond, ◌&&◌, ◌||◌, int_lt, List, [], ◌∷◌}
use Rattle.std.specs.Prelude.{nat_lt}
use Rattle.std.specs.List.{filter}
use Rattle.std.proofs.lemmas.Int.{ints}
use Rattle.std.proofs.lemmas.Bool.Decides.{nat_tests}
use Rattle.act_grid.specs.declared.Point.{Point}
use Rattle.act_grid.specs.Hull.{IsIn}
use Rattle.act_grid.specs.Cell.{Address, IsCell, IsPart, child_of, column, hull_of, root_cell, row, side_of}
use Rattle.act_grid.proofs.CellOrder.{one_cell, part_from_point, some_child}
use Rattle.act_geom.specs.Inside.{is_inside}
use Rattle.act_geom.specs.declared.class.Class.{Class}
use Rattle.act_geom.specs.declared.class.Class.TheVariants.{Inside, Outside, Mixed}
use Rattle.act_geom.proofs.ClassFacts.{answer_inside, answer_outside}
use Rattle.act_cover.proofs.Placed.{child_cell}
use Rattle.act_cover.specs.Covering.{class_at, is_on, is_within}
use Rattle.act_super.specs.declared.entry.Zone.{Zone}
use Rattle.act_super.specs.Grounds.{Ground, is_split, leaf_at, leaf_within, quarter_of, some_asks, zone_ground}
use Rattle.act_super.specs.Laws.{LeafHoldsPoint, OneLeafHoldsPoint, ReferencesAnswer}
use Rattle.act_super.proofs.TopFacts.{root_is_cell}

-- the class of a cell decides for a point of it, unless it is Mixed
class_decides : (rings : List (List Point)) (c : Address) (p : Point) → IsIn (hull_of c) p
    → (is_on (class_at rings c) && (is_within (class_at rings c) || is_inside rings p)) ≡ is_inside rings p
unfolding class_at
class_decides rings c p i = by (class_at rings c) refl
  where
    by : (k : Class) → class_at rings c ≡ k → (is_on (class_at rings c) && (is_within (class_at rings c) || is_inside rings p)) ≡ is_inside rings p
    by Inside e = rw e (sym (answer_inside rings (hull_of c) p i e))
    by Outside e = rw e (sym (answer_outside rings (hull_of c) p i e))
    by Mixed e = rw e refl

filter_both : (p q r : Zone → Bool) (zones : List Zone) → ((z : Zone) → (p z && q z) ≡ r z) → filter q (filter p zones) ≡ filter r zones
filter_both p q r [] h = refl
filter_both p q r (z ∷ zones) h = step (p z) refl (filter_both p q r zones h)
  where
    step : (a : Bool) → p z ≡ a → filter q (filter p zones) ≡ filter r zones → filter q (cond a (z ∷ filter p zones) (filter p zones)) ≡ cond (r z) (z ∷ filter r zones) (filter r zones)
    step true e rest =
        let same : q z ≡ r z = ap (λ b. b && q z) (sym e) ∙ h z in
        ap (λ b. cond b (z ∷ filter q (filter p zones)) (filter q (filter p zones))) same ∙ ap (λ xs. cond (r z) (z ∷ xs) xs) rest
    step false e rest =
        let none : r z ≡ false = sym (h z) ∙ ap (λ b. b && q z) e in
        rest ∙ ap (λ b. cond b (z ∷ filter r zones) (filter r zones)) (sym none)

pub references_answer : ReferencesAnswer
references_answer zones c p i =
    filter_both (λ zone. is_on (class_at zone.shape c)) (λ zone. is_within (class_at zone.shape c) || is_inside zone.shape p) (λ zone. is_inside zone.shape p) zones (λ zone. class_decides zone.shape c p i)

-- a coordinate in the first half of a side, and one in the second
in_first : (z : ℤ) (m n s : ℕ) → n ≡ m → z ≤ℤ (pos (n * s) -ℤ pos (2 ^ 31) +ℤ pos (s - 1)) → int_lt (pos (m * s) -ℤ pos (2 ^ 31) +ℤ pos (s - 1)) z ≡ false
in_first z m n s e h = let k : z ≤ℤ (pos (m * s) -ℤ pos (2 ^ 31) +ℤ pos (s - 1)) = subst (λ v. z ≤ℤ (pos (v * s) -ℤ pos (2 ^ 31) +ℤ pos (s - 1))) e h in grind (arith, ints)

in_second : (z : ℤ) (m n s : ℕ) → n ≡ m + 1 → 1 ≤ s → (pos (n * s) -ℤ pos (2 ^ 31)) ≤ℤ z → int_lt (pos (m * s) -ℤ pos (2 ^ 31) +ℤ pos (s - 1)) z ≡ true
in_second z m n s e o h = after z (m * s) s o (subst (λ v. (pos v -ℤ pos (2 ^ 31)) ≤ℤ z) (ap (λ v. v * s) e ∙ product) h)
  where
    product : (m + 1) * s ≡ m * s + s
    product = omega arith

    after : (z : ℤ) (a s : ℕ) → 1 ≤ s → (pos (a + s) -ℤ pos (2 ^ 31)) ≤ℤ z → int_lt (pos a -ℤ pos (2 ^ 31) +ℤ pos (s - 1)) z ≡ true
    after z a s o h = grind (arith, ints)

column_below : (l path q : ℕ) → q < 4 → column (l + 1) (path * 4 + q) ≡ column l path * 2 + q % 2
unfolding column
column_below l path q h =
    let e : l + 1 ≡ suc l = omega arith in
    let rest : (path * 4 + q) / 4 ≡ path = omega arith in
    let low : (path * 4 + q) % 2 ≡ q % 2 = omega arith in
    ap (λ v. column v (path * 4 + q)) e ∙ ap (λ v. column l v * 2 + (path * 4 + q) % 2) rest ∙ ap (λ v. column l path * 2 + v) low

row_below : (l path q : ℕ) → q < 4 → row (l + 1) (path * 4 + q) ≡ row l path * 2 + q / 2
unfolding column
row_below l path q h =
    let e : l + 1 ≡ suc l = omega arith in
    let rest : (path * 4 + q) / 2 / 4 ≡ path / 2 = omega arith in
    let low : (path * 4 + q) / 2 % 2 ≡ q / 2 = omega arith in
    ap (λ v. column v ((path * 4 + q) / 2)) e ∙ ap (λ v. column l v * 2 + (path * 4 + q) / 2 % 2) rest ∙ ap (λ v. column l (path / 2) * 2 + v) low

abbrev as_number : Bool → ℕ
as_number b = cond b 1 0

-- the number of the child that holds the point
quarter_by : (c : Address) (p : Point) (q : ℕ) (x y : Bool) → q < 4 → IsIn (hull_of (child_of c q)) p → q % 2 ≡ as_number x → q / 2 ≡ as_number y
    → quarter_of c p ≡ cond y (cond x 3 2) (cond x 1 0)
quarter_by c p q x y four i e f =
    let s = side_of (child_of c 0) in
    let fx = (hull_of (child_of c 0)).hi.x in
    let fy = (hull_of (child_of c 0)).hi.y in
    let s_pos : 1 ≤ s = pow_pos (32 - (c.level + 1)) in
    let a = column_below c.level c.path 0 (omega arith) in
    let b = column_below c.level c.path q four in
    let d = row_below c.level c.path 0 (omega arith) in
    let g = row_below c.level c.path q four in
    let xt : int_lt fx p.x ≡ x = side p.x (column (c.level + 1) (c.path * 4 + 0)) (column (c.level + 1) (c.path * 4 + q)) s x (omega (arith, a, b, e)) s_pos i.west i.east in
    let yt : int_lt fy p.y ≡ y = side p.y (row (c.level + 1) (c.path * 4 + 0)) (row (c.level + 1) (c.path * 4 + q)) s y (omega (arith, d, g, f)) s_pos i.south i.north in
    ap (λ t. cond t (cond (int_lt fx p.x) 3 2) (cond (int_lt fx p.x) 1 0)) yt ∙ ap (λ t. cond y (cond t 3 2) (cond t 1 0)) xt
  where
    side : (z : ℤ) (m n s : ℕ) (x : Bool) → n ≡ m + as_number x → 1 ≤ s → (pos (n * s) -ℤ pos (2 ^ 31)) ≤ℤ z → z ≤ℤ (pos (n * s) -ℤ pos (2 ^ 31) +ℤ pos (s - 1))
        → int_lt (pos (m * s) -ℤ pos (2 ^ 31) +ℤ pos (s - 1)) z ≡ x
    side z m n s true e o low high = in_second z m n s e o low
    side z m n s false e o low high = in_first z m n s (omega (arith, e)) high

quarter_is : (c : Address) (p : Point) (q : ℕ) → q < 4 → IsIn (hull_of (child_of c q)) p → quarter_of c p ≡ q
quarter_is c p q four i = by (which q four)
  where
    which : (q : ℕ) → q < 4 → ((q ≡ 0) ⊎ (q ≡ 1)) ⊎ ((q ≡ 2) ⊎ (q ≡ 3))
    which q h = grind arith

    by : ((q ≡ 0) ⊎ (q ≡ 1)) ⊎ ((q ≡ 2) ⊎ (q ≡ 3)) → quarter_of c p ≡ q
    by (inl (inl e)) = quarter_by c p q false false four i (omega (arith, e)) (omega (arith, e)) ∙ sym e
    by (inl (inr e)) = quarter_by c p q true false four i (omega (arith, e)) (omega (arith, e)) ∙ sym e
    by (inr (inl e)) = quarter_by c p q false true four i (omega (arith, e)) (omega (arith, e)) ∙ sym e
    by (inr (inr e)) = quarter_by c p q true true four i (omega (arith, e)) (omega (arith, e)) ∙ sym e

quarter_holds : (c : Address) (p : Point) → IsCell c → c.level < 30 → IsIn (hull_of c) p → (quarter_of c p < 4) × IsIn (hull_of (child_of c (quarter_of c p))) p
quarter_holds c p cell low i =
    let q = some_child c p cell low i in
    let e = quarter_is c p q.0 q.1 q.2 in
    (omega (arith, e, q.1), subst (λ n. IsIn (hull_of (child_of c n)) p) (sym e) q.2)

-- the leaf of a point, from a cell that holds it down
record IsBelow {X : Type 0} (g : Ground X) (items : List X) (c : Address) (p : Point) (l : Address) : Type 0 where
  pub holds : IsIn (hull_of l) p
  pub cell : IsCell l
  pub deeper : c.level ≤ l.level
  pub reached : (d : Address) → IsPart d l → c.level ≤ d.level → d.level < l.level → is_split g items d ≡ true
  pub whole : is_split g items l ≡ false

same_address : (c d : Address) → c.level ≡ d.level → c.path ≡ d.path → c ≡ d
same_address c d e f = λ i. record { level = e i; path = f i }

leaf_below : {X : Type 0} (g : Ground X) (items : List X) (n : ℕ) (c : Address) (p : Point) → IsCell c → c.level + n ≡ 28 → IsIn (hull_of c) p
    → IsBelow g items c p (leaf_within g n items c p)
unfolding leaf_within
leaf_below g items zero c p cell e i = record {
  holds = i;
  cell = cell;
  deeper = omega arith;
  reached = λ d part low high. absurd (omega arith);
  whole = let deep : nat_lt c.level 28 ≡ false = grind (arith, nat_tests) in rw deep refl;
}
leaf_below {X = X} g items (suc n) c p cell e i =
    by (some_asks g c items) refl (λ q four holds. leaf_below g items n (child_of c q) p (child_cell c q cell (omega arith) four) (omega arith) holds)
  where
    split_here : some_asks g c items ≡ true → is_split g items c ≡ true
    split_here a = let high : nat_lt c.level 28 ≡ true = grind (arith, nat_tests) in rw (high, a) refl

    whole_here : some_asks g c items ≡ false → is_split g items c ≡ false
    whole_here a = let high : nat_lt c.level 28 ≡ true = grind (arith, nat_tests) in rw (high, a) refl

    order : (a b : ℕ) → a ≤ b → (a ≡ b) ⊎ (a + 1 ≤ b)
    order a b h = grind arith

    by : (b : Bool) → some_asks g c items ≡ b
        → ((q : ℕ) → q < 4 → IsIn (hull_of (child_of c q)) p → IsBelow g items (child_of c q) p (leaf_within g n items (child_of c q) p))
        → IsBelow g items c p (cond b (leaf_within g n items (child_of c (quarter_of c p)) p) c)
    by false a below = record {
      holds = i;
      cell = cell;
      deeper = omega arith;
      reached = λ d part low high. absurd (omega arith);
      whole = whole_here a;
    }
    by true a below =
        let low : c.level < 30 = omega arith in
        let q = quarter_holds c p cell low i in
        let more = below (quarter_of c p) q.0 q.1 in
        let l = leaf_within g n items (child_of c (quarter_of c p)) p in
        record {
          holds = more.holds;
          cell = more.cell;
          deeper = omega (arith, more.deeper);
          reached = λ d part at_least less. elim (order c.level d.level at_least) [
            | inl same ↦
                let above = part_from_point c l p cell more.cell (omega (arith, more.deeper)) i more.holds in
                let is : d ≡ c = same_address d c (sym same) (sym part.begins ∙ ap (λ k. l.path / 4 ^ (l.level - k)) (sym same) ∙ above.begins) in
                subst (λ (x : Address). is_split g items x ≡ true) (sym is) (split_here a)
            | inr deeper ↦ more.reached d part deeper less
          ];
          whole = more.whole;
        }

pub leaf_holds_point : LeafHoldsPoint
unfolding leaf_at
leaf_holds_point settings state p i =
    let b = leaf_below (zone_ground settings state.trained) state.zones 28 root_cell p root_is_cell refl i in
    (b.holds, record { cell = b.cell; reached = λ d part less. b.reached d part (omega arith) less; whole = b.whole })

pub one_leaf : OneLeafHoldsPoint
one_leaf settings state c d p h k i j = by (order c.level d.level)
  where
    order : (a b : ℕ) → (a ≡ b) ⊎ ((a < b) ⊎ (b < a))
    order a b = grind arith

    never : (b : Bool) → b ≡ true → b ≡ false → ⊥
    never b e f = cc

    by : (c.level ≡ d.level) ⊎ ((c.level < d.level) ⊎ (d.level < c.level)) → c ≡ d
    by (inl same) = one_cell c d p h.cell k.cell same i j
    by (inr (inl less)) = absurd (never _ (k.reached c (part_from_point c d p h.cell k.cell (omega arith) i j) less) h.whole)
    by (inr (inr less)) = absurd (never _ (h.reached d (part_from_point d c p k.cell h.cell (omega arith) j i) less) k.whole)
