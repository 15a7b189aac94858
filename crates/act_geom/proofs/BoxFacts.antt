-- Boxes that meet, and the two tests of touching put together.
use Rattle.std.proofs.Common.{◌≡◌, ℤ, ◌≤ℤ◌, refl, arith, Bool, true, false, not, ◌&&◌, ◌||◌, int_lt}
use Rattle.std.proofs.lemmas.Int.{ints}
use borrow.Author.Differences.{lt-true, lt-false, le_out}
use Rattle.act_grid.specs.declared.Point.{Point}
use Rattle.act_grid.specs.declared.Hull.{Hull}
use Rattle.act_geom.specs.Touch.{box_meets}

pub as_four : (w1 w2 e1 e2 s1 s2 n1 n2 : Bool)
    → not ((((w1 && w2) || (e1 && e2)) || (s1 && s2)) || (n1 && n2)) ≡ ((not (w1 && w2) && not (e1 && e2)) && (not (s1 && s2) && not (n1 && n2)))
as_four w1 w2 e1 e2 s1 s2 n1 n2 = grind arith

parts : (w1 w2 e1 e2 s1 s2 n1 n2 : Bool) → ((not (w1 && w2) && not (e1 && e2)) && (not (s1 && s2) && not (n1 && n2))) ≡ true
    → ((w1 && w2) ≡ false) × ((e1 && e2) ≡ false) × ((s1 && s2) ≡ false) × ((n1 && n2) ≡ false)
parts w1 w2 e1 e2 s1 s2 n1 n2 h = grind arith

-- the sides on which the box of the edge isn't
sides : (h : Hull) (a b : Point) → box_meets h (record { a = a; b = b }) ≡ true
    → ((int_lt a.x h.lo.x && int_lt b.x h.lo.x) ≡ false) × ((int_lt h.hi.x a.x && int_lt h.hi.x b.x) ≡ false)
    × ((int_lt a.y h.lo.y && int_lt b.y h.lo.y) ≡ false) × ((int_lt h.hi.y a.y && int_lt h.hi.y b.y) ≡ false)
sides h a b e =
    parts (int_lt a.x h.lo.x) (int_lt b.x h.lo.x) (int_lt h.hi.x a.x) (int_lt h.hi.x b.x) (int_lt a.y h.lo.y) (int_lt b.y h.lo.y) (int_lt h.hi.y a.y) (int_lt h.hi.y b.y) e

not_first : (p q : Bool) → (p && q) ≡ false → (p ≡ true → q ≡ true) → p ≡ false
not_first p q e f = grind arith

-- below the top, where the other end is no lower
upper : (top u v : ℤ) → (int_lt top u && int_lt top v) ≡ false → u ≤ℤ v → u ≤ℤ top
upper top u v e o =
    at_most top u (not_first (int_lt top u) (int_lt top v) e (λ t. follows t))
  where
    true_of : (b : Bool) → (b ≡ false → ⊥) → b ≡ true
    true_of true n = refl
    true_of false n = absurd (n refl)

    follows : int_lt top u ≡ true → int_lt top v ≡ true
    follows t = true_of (int_lt top v) (λ n. omega (arith, lt-true top u t, lt-false top v n, le_out u v o))

    at_most : (t z : ℤ) → int_lt t z ≡ false → z ≤ℤ t
    at_most t z f = grind (arith, ints)

-- above the bottom, where the other end is no higher
lower : (bottom u v : ℤ) → (int_lt u bottom && int_lt v bottom) ≡ false → v ≤ℤ u → bottom ≤ℤ u
lower bottom u v e o =
    at_least bottom u (not_first (int_lt u bottom) (int_lt v bottom) e (λ t. follows t))
  where
    true_of : (b : Bool) → (b ≡ false → ⊥) → b ≡ true
    true_of true n = refl
    true_of false n = absurd (n refl)

    follows : int_lt u bottom ≡ true → int_lt v bottom ≡ true
    follows t = true_of (int_lt v bottom) (λ n. omega (arith, lt-true u bottom t, lt-false v bottom n, le_out v u o))

    at_least : (t z : ℤ) → int_lt z t ≡ false → t ≤ℤ z
    at_least t z f = grind (arith, ints)

pub east_of_start : (h : Hull) (a b : Point) → box_meets h (record { a = a; b = b }) ≡ true → a.x ≤ℤ b.x → a.x ≤ℤ h.hi.x
east_of_start h a b e o = upper h.hi.x a.x b.x (sides h a b e).1 o

pub north_of_start : (h : Hull) (a b : Point) → box_meets h (record { a = a; b = b }) ≡ true → a.y ≤ℤ b.y → a.y ≤ℤ h.hi.y
north_of_start h a b e o = upper h.hi.y a.y b.y (sides h a b e).3 o

pub west_of_start : (h : Hull) (a b : Point) → box_meets h (record { a = a; b = b }) ≡ true → b.x ≤ℤ a.x → h.lo.x ≤ℤ a.x
west_of_start h a b e o = lower h.lo.x a.x b.x (sides h a b e).0 o

-- the order of the ends plays no part
pub box_turned : (h : Hull) (a b : Point) → box_meets h (record { a = b; b = a }) ≡ box_meets h (record { a = a; b = b })
box_turned h a b =
    turned (int_lt a.x h.lo.x) (int_lt b.x h.lo.x) (int_lt h.hi.x a.x) (int_lt h.hi.x b.x) (int_lt a.y h.lo.y) (int_lt b.y h.lo.y) (int_lt h.hi.y a.y) (int_lt h.hi.y b.y)
  where
    swap : (u v : Bool) → (v && u) ≡ (u && v)
    swap u v = grind arith

    turned : (w1 w2 e1 e2 s1 s2 n1 n2 : Bool) → ((not (w2 && w1) && not (e2 && e1)) && (not (s2 && s1) && not (n2 && n1))) ≡ ((not (w1 && w2) && not (e1 && e2)) && (not (s1 && s2) && not (n1 && n2)))
    turned w1 w2 e1 e2 s1 s2 n1 n2 = four (swap w1 w2) (swap e1 e2) (swap s1 s2) (swap n1 n2)
      where
        four : {w e s n w' e' s' n' : Bool} → w ≡ w' → e ≡ e' → s ≡ s' → n ≡ n' → ((not w && not e) && (not s && not n)) ≡ ((not w' && not e') && (not s' && not n'))
        four h1 h2 h3 h4 = cc

pub first_true : (r a b : Bool) → r ≡ a → r ≡ true → r ≡ (a || b)
first_true r a b e f = grind arith

pub second_left : (r s a b : Bool) → r ≡ a → r ≡ false → s ≡ b → s ≡ (a || b)
second_left r s a b e f g = grind arith

pub both_tests : (m l r t : Bool) → m ≡ true → t ≡ (r || l) → not t ≡ (m && not (l || r))
both_tests m l r t e f = grind arith
