-- Each trained cell adds one split at most.
use Rattle.std.proofs.Common.{◌≡◌, ℕ, zero, suc, ◌+◌, ◌-◌, ◌*◌, ◌/◌, ◌%◌, ◌^◌, ◌<◌, ◌≤◌, ◌⊎◌, inl, inr, refl, sym, ap, ◌∙◌, arith, Bool, true, false, cond, ◌&&◌, ◌||◌, List, [], ◌∷◌, length}
use Rattle.std.specs.Prelude.{nat_le, nat_lt, ◌==◌}
use Rattle.std.proofs.lemmas.Bool.{cases_lt}
use Rattle.std.proofs.lemmas.Bool.Decides.{nat_tests}
use Rattle.act_grid.specs.declared.Point.{Point}
use Rattle.act_grid.specs.Cell.{Address, IsCell, child_of, hull_of, root_cell}
use Rattle.std.proofs.lemmas.Nat.{shr-shr}
use Rattle.act_grid.proofs.CellFacts.{four}
use Rattle.act_grid.proofs.CellOrder.{child_within}
use Rattle.act_geom.specs.declared.class.Class.{Class}
use Rattle.act_geom.specs.declared.class.Class.TheVariants.{Inside, Outside, Mixed}
use Rattle.act_geom.specs.Class.{class_on}
use Rattle.act_geom.proofs.ClassFacts.{class_goes_down}
use Rattle.act_cover.specs.Covering.{class_at}
use Rattle.act_cover.proofs.Placed.{child_cell}
use Rattle.act_super.specs.declared.standing.Standing.{Standing}
use Rattle.act_super.specs.Grounds.{Ground, asks, is_among, is_mixed, same_cell, some_asks}
use Rattle.act_super.specs.Packs.{node_rows}
use Rattle.act_super.specs.Standings.{standing_ground, standing_rows}
use Rattle.act_super.specs.Trees.{splits, tree_of, under}
use Rattle.act_super.proofs.RoomFacts.{parted_rows}
use Rattle.act_super.proofs.StandingFacts.{standings_go_down}
use Rattle.act_super.proofs.TopFacts.{root_is_cell}
use Rattle.act_super.proofs.TrainFacts.{asks_more, bound_at, cases, trained_by}

abbrev bit : Bool → ℕ
bit b = cond b 1 0

-- the second cell lies in the first
abbrev lies_in : Address → Address → Bool
lies_in c d = nat_le c.level d.level && (d.path / 4 ^ (d.level - c.level) == c.path)

-- how many of the cells lie in it
abbrev inside : Address → List Address → ℕ
inside c [] = 0
inside c (d ∷ cells) = bit (lies_in c d) + inside c cells

equal : (a b : ℕ) → (a == b) ≡ true → a ≡ b
equal a b e = grind arith

same_test : (a b : ℕ) → a ≡ b → (a == b) ≡ true
same_test a b e = grind arith

other_test : (a b : ℕ) → (a ≡ b → ⊥) → (a == b) ≡ false
other_test a b h = grind arith

-- at most one quarter has the number
quarters : (y p : ℕ) → bit (y == p * 4 + 0) + bit (y == p * 4 + 1) + bit (y == p * 4 + 2) + bit (y == p * 4 + 3) ≤ bit (y / 4 == p)
quarters y p = by (y / 4 == p) refl
  where
    none : (q : ℕ) → (y / 4 == p) ≡ false → q < 4 → (y == p * 4 + q) ≡ false
    none q e four = other_test y (p * 4 + q) (λ f. let g = same_test (y / 4) p (omega (arith, f)) in cc)

    test : (r q : ℕ) → r < 4 → q < 4 → y ≡ p * 4 + r → (y == p * 4 + q) ≡ (r == q)
    test r q rl ql e = by_same (r == q) refl
      where
        by_same : (b : Bool) → (r == q) ≡ b → (y == p * 4 + q) ≡ b
        by_same true f = let g = equal r q f in same_test y (p * 4 + q) (omega (arith, e, g))
        by_same false f = other_test y (p * 4 + q) (λ g. let k = same_test r q (omega (arith, e, g)) in cc)

    sum : (r : ℕ) → r < 4 → bit (r == 0) + bit (r == 1) + bit (r == 2) + bit (r == 3) ≤ 1
    sum zero h = omega arith
    sum (suc zero) h = omega arith
    sum (suc (suc zero)) h = omega arith
    sum (suc (suc (suc zero))) h = omega arith
    sum (suc (suc (suc (suc r)))) h = absurd (omega arith)

    by : (b : Bool) → (y / 4 == p) ≡ b → bit (y == p * 4 + 0) + bit (y == p * 4 + 1) + bit (y == p * 4 + 2) + bit (y == p * 4 + 3) ≤ bit b
    by false e = rw (none 0 e (omega arith), none 1 e (omega arith), none 2 e (omega arith), none 3 e (omega arith)) (omega arith)
    by true e =
        let r = y % 4 in
        let four : r < 4 = omega arith in
        let is : y ≡ p * 4 + r = omega (arith, equal (y / 4) p e) in
        rw (test r 0 four (omega arith) is, test r 1 four (omega arith) is, test r 2 four (omega arith) is, test r 3 four (omega arith) is) (sum r four)

-- a path with one level less
pub power : (k x : ℕ) → x / 4 ^ suc k ≡ x / 4 ^ k / 4
power k x =
    let e : 2 * suc k ≡ 2 * k + 2 = omega arith in
    ap (λ v. x / v) (four (suc k) ∙ ap (λ n. 2 ^ n) e) ∙ sym (shr-shr x (2 * k) 2) ∙ ap (λ v. x / v / 4) (sym (four k))

-- a cell in another one is that one, or lies in one of its quarters
one_part : (c d : Address)
    → bit (lies_in (child_of c 0) d) + bit (lies_in (child_of c 1) d) + bit (lies_in (child_of c 2) d) + bit (lies_in (child_of c 3) d) + bit (same_cell d c) ≤ bit (lies_in c d)
one_part c d = by (cases_lt c.level d.level)
  where
    le_no : (a b : ℕ) → b < a → nat_le a b ≡ false
    le_no a b h = grind (arith, nat_tests)

    le_yes : (a b : ℕ) → a ≤ b → nat_le a b ≡ true
    le_yes a b h = grind (arith, nat_tests)

    give : (a b c d e f : ℕ) → e ≡ 0 → a + b + c + d ≤ f → a + b + c + d + e ≤ f
    give a b c d e f h k = omega arith

    deep : (k : ℕ) → d.level ≡ suc (c.level + k)
        → bit (lies_in (child_of c 0) d) + bit (lies_in (child_of c 1) d) + bit (lies_in (child_of c 2) d) + bit (lies_in (child_of c 3) d) + bit (same_cell d c) ≤ bit (lies_in c d)
    deep k e =
        let yes : nat_le (c.level + 1) d.level ≡ true = le_yes (c.level + 1) d.level (omega arith) in
        let on : nat_le c.level d.level ≡ true = le_yes c.level d.level (omega arith) in
        let low : d.level - (c.level + 1) ≡ k = omega arith in
        let high : d.level - c.level ≡ suc k = omega arith in
        let differ : (d.level == c.level) ≡ false = other_test d.level c.level (λ f. absurd (omega arith)) in
        rw (yes, on, low, high, differ, power k d.path) (give _ _ _ _ _ _ refl (quarters (d.path / 4 ^ k) c.path))

    flat : d.level ≤ c.level
        → bit (lies_in (child_of c 0) d) + bit (lies_in (child_of c 1) d) + bit (lies_in (child_of c 2) d) + bit (lies_in (child_of c 3) d) + bit (same_cell d c) ≤ bit (lies_in c d)
    flat h =
        let no : nat_le (c.level + 1) d.level ≡ false = le_no (c.level + 1) d.level (omega arith) in
        let one : bit (same_cell d c) ≤ bit (lies_in c d) = last (d.level == c.level) refl in
        rw no (omega (arith, one))
      where
        last : (b : Bool) → (d.level == c.level) ≡ b → bit (b && (d.path == c.path)) ≤ bit (lies_in c d)
        last false e = omega arith
        last true e =
            let l = equal d.level c.level e in
            let on : nat_le c.level d.level ≡ true = le_yes c.level d.level (omega (arith, l)) in
            let none : d.level - c.level ≡ 0 = omega (arith, l) in
            let whole : d.path / 1 ≡ d.path = omega arith in
            rw (on, none, whole) (omega arith)

    by : (c.level < d.level) ⊎ (d.level ≤ c.level)
        → bit (lies_in (child_of c 0) d) + bit (lies_in (child_of c 1) d) + bit (lies_in (child_of c 2) d) + bit (lies_in (child_of c 3) d) + bit (same_cell d c) ≤ bit (lies_in c d)
    by (inl less) = deep (d.level - (c.level + 1)) (omega arith)
    by (inr h) = flat h

bit_or : (a b : Bool) → bit (a || b) ≤ bit a + bit b
bit_or true b = omega arith
bit_or false b = omega arith

parts : (c : Address) (cells : List Address)
    → inside (child_of c 0) cells + inside (child_of c 1) cells + inside (child_of c 2) cells + inside (child_of c 3) cells + bit (is_among cells c) ≤ inside c cells
parts c [] = omega arith
parts c (d ∷ cells) = omega (arith, one_part c d, parts c cells, bit_or (same_cell d c) (is_among cells c))

bit_most : (b : Bool) → bit b ≤ 1
bit_most true = omega arith
bit_most false = omega arith

inside_most : (c : Address) (cells : List Address) → inside c cells ≤ length cells
inside_most c [] = omega arith
inside_most c (d ∷ cells) = omega (arith, bit_most (lies_in c d), inside_most c cells)

-- what is Mixed on a child is so on its parent
abbrev MixedGoesUp : {X : Type 0} → Ground X → Type 0
MixedGoesUp {X = X} g = (x : X) (c : Address) (q : ℕ) → IsCell c → c.level < 30 → q < 4 → is_mixed (g.class x (child_of c q)) ≡ true → is_mixed (g.class x c) ≡ true

abbrev none : Address → Bool
none c = false

false_or : (b c : Bool) → (b ≡ true → c ≡ true) → c ≡ false → b ≡ false
false_or true c h e = absurd (let f = h refl in cc)
false_or false c h e = refl

-- where nothing asks for the split of a cell that isn't trained, nothing does so below
quiet : {X : Type 0} (g : Ground X) → MixedGoesUp g → (items : List X) (c : Address) (q : ℕ) → IsCell c → c.level < 30 → q < 4
    → some_asks (trained_by g none) c items ≡ false → some_asks (trained_by g none) (child_of c q) items ≡ false
quiet g up [] c q cell low four e = refl
quiet g up (x ∷ items) c q cell low four e =
    let first : asks (trained_by g none) c x ≡ false = left (asks (trained_by g none) c x) (some_asks (trained_by g none) c items) e in
    let rest = quiet g up items c q cell low four (right (asks (trained_by g none) c x) (some_asks (trained_by g none) c items) e) in
    let one : asks (trained_by g none) (child_of c q) x ≡ false =
    false_or (asks (trained_by g none) (child_of c q) x) (asks (trained_by g none) c x) (above (is_mixed (g.class x (child_of c q))) (is_mixed (g.class x c)) (g.level x) (up x c q cell low four)) first in
    rw (one, rest) refl
  where
    left : (a b : Bool) → (a || b) ≡ false → a ≡ false
    left true b e = absurd (cc)
    left false b e = refl

    right : (a b : Bool) → (a || b) ≡ false → b ≡ false
    right true b e = absurd (cc)
    right false b e = e

    above : (a b : Bool) (level : ℕ) → (a ≡ true → b ≡ true) → (a && (nat_lt (c.level + 1) level || false)) ≡ true → (b && (nat_lt c.level level || false)) ≡ true
    above a b level h e = grind (arith, nat_tests)

-- a leaf where nothing asks
still : {X : Type 0} (g : Ground X) (n : ℕ) (items : List X) (c : Address) → some_asks (trained_by g none) c items ≡ false → splits (tree_of (trained_by g none) n items c) ≡ 0
unfolding tree_of
still g zero items c e = refl
still g (suc n) items c e = rw e refl

-- a cell that is asked for only where some are trained is one of them
asked : {X : Type 0} (g : Ground X) (trained : Address → Bool) (c : Address) (items : List X) → some_asks (trained_by g trained) c items ≡ true → some_asks (trained_by g none) c items ≡ false → trained c ≡ true
asked g trained c [] e f = absurd (cc)
asked g trained c (x ∷ items) e f = one (is_mixed (g.class x c)) (nat_lt c.level (g.level x)) (trained c) (some_asks (trained_by g trained) c items) (some_asks (trained_by g none) c items) (asked g trained c items) e f
  where
    one : (a b t u v : Bool) → (u ≡ true → v ≡ false → t ≡ true) → ((a && (b || t)) || u) ≡ true → ((a && (b || false)) || v) ≡ false → t ≡ true
    one a b t u v h e f = grind arith

-- the splits under a cell exceed those where none is trained by the trained cells in it at most
counted : {X : Type 0} (g : Ground X) → MixedGoesUp g → (trained : List Address) (n : ℕ) (items : List X) (c : Address) → IsCell c → c.level + n ≤ 28
    → splits (tree_of (trained_by g (is_among trained)) n items c) ≤ splits (tree_of (trained_by g none) n items c) + inside c trained
unfolding tree_of
counted g up trained zero items c cell low = omega arith
counted g up trained (suc n) items c cell low =
    let here : c.level < 30 = omega arith in
    let ih : (q : ℕ) → q < 4 → splits (tree_of (trained_by g (is_among trained)) n items (child_of c q)) ≤ splits (tree_of (trained_by g none) n items (child_of c q)) + inside (child_of c q) trained =
    λ q four. counted g up trained n items (child_of c q) (child_cell c q cell here four) (omega arith) in
    let whole = parts c trained in
    elim (cases (some_asks (trained_by g none) c items)) [
      | inl a ↦
          let b = asks_more g none (is_among trained) (λ d e. absurd (cc)) c items a in
          rw (a, b) (omega (arith, ih 0 (omega arith), ih 1 (omega arith), ih 2 (omega arith), ih 3 (omega arith), whole))
      | inr a ↦ elim (cases (some_asks (trained_by g (is_among trained)) c items)) [
        | inl b ↦
            let one : bit (is_among trained c) ≡ 1 = ap bit (asked g (is_among trained) c items b a) in
            let flat : (q : ℕ) → q < 4 → splits (tree_of (trained_by g none) n items (child_of c q)) ≡ 0 = λ q four. still g n items (child_of c q) (quiet g up items c q cell here four a) in
            rw (a, b) (omega (
              arith,
              ih 0 (omega arith),
              ih 1 (omega arith),
              ih 2 (omega arith),
              ih 3 (omega arith),
              flat 0 (omega arith),
              flat 1 (omega arith),
              flat 2 (omega arith),
              flat 3 (omega arith),
              whole,
              one,
            ))
        | inr b ↦ rw (a, b) (omega arith)
      ]
    ]

mixed_above : (rings : List (List Point)) (c : Address) (q : ℕ) → IsCell c → c.level < 30 → q < 4 → is_mixed (class_at rings (child_of c q)) ≡ true → is_mixed (class_at rings c) ≡ true
unfolding class_at
mixed_above rings c q cell low four e = by (class_on rings (hull_of c)) refl
  where
    by : (k : Class) → class_on rings (hull_of c) ≡ k → is_mixed k ≡ true
    by Mixed f = refl
    by Inside f = absurd (let same = class_goes_down rings (hull_of c) (hull_of (child_of c q)) (child_within c q cell low four) (λ m. cc) in cc)
    by Outside f = absurd (let same = class_goes_down rings (hull_of c) (hull_of (child_of c q)) (child_within c q cell low four) (λ m. cc) in cc)

nodes_bound : (trained : List Address) (standings : List Standing)
    → node_rows (under (standing_ground trained) standings root_cell) ≤ node_rows (under (standing_ground []) standings root_cell) + 5 * length trained
unfolding under
nodes_bound trained standings =
    let g = standing_ground [] in
    sums _ _ _ _ _ _
    (bound_at g (is_among []) (is_among trained) (is_among trained) (standings_go_down []) (λ c e. absurd (cc)) (λ c e. e) 28 standings root_cell root_is_cell (omega arith))
    (counted g (λ s c q cell low four e. mixed_above s.shape c q cell low four e) trained 28 standings root_cell root_is_cell (omega arith))
    (inside_most root_cell trained)
  where
    sums : (a b x z n m : ℕ) → a + 5 * x ≤ b + 5 * z → z ≤ x + n → n ≤ m → a ≤ b + 5 * m
    sums a b x z n m e f h = omega arith

-- with so many trained cells the rows exceed those with none by at most five for each
pub rows_bound : (trained : List Address) (standings : List Standing) → standing_rows trained standings ≤ standing_rows [] standings + 5 * length trained
rows_bound trained standings = omega (arith, nodes_bound trained standings, parted_rows trained standings, parted_rows [] standings)
