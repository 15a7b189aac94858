-- The side of a line on which a point lies, by products of spans.
use Rattle.std.proofs.Common.{◌≡◌, ℕ, ℤ, pos, negsuc, ◌-ℤ◌, ◌*ℤ◌, ◌≤ℤ◌, ◌<ℤ◌, ◌+◌, ◌*◌, refl, sym, ap, ◌∙◌, arith, true, false, ltb, int_lt}
use Rattle.std.proofs.lemmas.Int.{ints}
use Rattle.std.proofs.lemmas.Bool.{lt-ltb, le-ltb, ltb-true, ltb-false}
use borrow.Author.Differences.{up, down, lt_out, le_out, lt-true, lt-false}
use Rattle.act_grid.specs.declared.Point.{Point}
use Rattle.act_geom.specs.Inside.{side, is_left}
use Rattle.act_geom.proofs.Lines.{gain, loss, west, east}
use Rattle.act_geom.proofs.Shifted.{spot, Fits, is_left_is, side_is, by_parts, same_test}

-- ---- products of two differences, as one natural number less another

pub record Product (y z : ℤ) (m n : ℕ) : Type 0 where
  pub value : up (y *ℤ z) + n ≡ down (y *ℤ z) + m

pub both_up : (x x' z z' : ℤ) (m n : ℕ) → pos m ≡ x -ℤ x' → pos n ≡ z -ℤ z' → Product (x -ℤ x') (z -ℤ z') (m * n) 0
both_up x x' z z' m n h k = record { value = omega (arith, by_parts (x -ℤ x') (z -ℤ z') m 0 n 0 (omega (arith, ap up h, ap down h)) (omega (arith, ap up k, ap down k))) }

turned : (x y : ℤ) (m : ℕ) → pos m ≡ x -ℤ y → up (y -ℤ x) + m ≡ down (y -ℤ x) + 0
turned x y m h = omega (arith, ints)

pub first_down : (x x' z z' : ℤ) (m n : ℕ) → pos m ≡ x' -ℤ x → pos n ≡ z -ℤ z' → Product (x -ℤ x') (z -ℤ z') 0 (m * n)
first_down x x' z z' m n h k = record { value = omega (arith, by_parts (x -ℤ x') (z -ℤ z') 0 m n 0 (turned x' x m h) (omega (arith, ap up k, ap down k))) }

pub second_down : (x x' z z' : ℤ) (m n : ℕ) → pos m ≡ x -ℤ x' → pos n ≡ z' -ℤ z → Product (x -ℤ x') (z -ℤ z') 0 (m * n)
second_down x x' z z' m n h k = record { value = omega (arith, by_parts (x -ℤ x') (z -ℤ z') m 0 0 n (omega (arith, ap up h, ap down h)) (turned z' z n k)) }

pub both_down : (x x' z z' : ℤ) (m n : ℕ) → pos m ≡ x' -ℤ x → pos n ≡ z' -ℤ z → Product (x -ℤ x') (z -ℤ z') (m * n) 0
both_down x x' z z' m n h k = record { value = omega (arith, by_parts (x -ℤ x') (z -ℤ z') 0 m 0 n (turned x' x m h) (turned z' z n k)) }

-- how far y is above x
pub gap : (x y : ℤ) → x ≤ℤ y → pos (up (y -ℤ x)) ≡ y -ℤ x
gap x y h = whole (y -ℤ x) (omega (arith, ints))
  where
    whole : (z : ℤ) → pos 0 ≤ℤ z → pos (up z) ≡ z
    whole (pos n) h = refl
    whole (negsuc n) h = absurd (omega (arith, ints))

-- ---- the side of a point

-- the two products of `side`
pub record Products (a b p : Point) (m n m' n' : ℕ) : Type 0 where
  pub first : Product (b.x -ℤ a.x) (p.y -ℤ a.y) m n
  pub second : Product (p.x -ℤ a.x) (b.y -ℤ a.y) m' n'

side_by : (a b p : Point) (m n m' n' : ℕ) → Products a b p m n m' n' → up (side a b p) + (n + m') ≡ down (side a b p) + (m + n')
side_by a b p m n m' n' h = less ((b.x -ℤ a.x) *ℤ (p.y -ℤ a.y)) ((p.x -ℤ a.x) *ℤ (b.y -ℤ a.y)) m n m' n' h.first.value h.second.value
  where
    less : (s t : ℤ) (m n m' n' : ℕ) → up s + n ≡ down s + m → up t + n' ≡ down t + m' → up (s -ℤ t) + (n + m') ≡ down (s -ℤ t) + (m + n')
    less s t m n m' n' h k = omega (arith, ints)

-- p lies on the left of the way from a to b
pub left_by : (a b p : Point) (m n m' n' : ℕ) → Products a b p m n m' n' → is_left a b p ≡ ltb (n + m') (m + n')
left_by a b p m n m' n' h = tested (side a b p) (n + m') (m + n') (side_by a b p m n m' n' h)
  where
    tested : (z : ℤ) (u v : ℕ) → up z + u ≡ down z + v → int_lt (pos 0) z ≡ ltb u v
    tested z u v e = same_test _ _ (λ t. lt-ltb _ _ (omega (arith, lt-true (pos 0) z t))) (λ t. le-ltb _ _ (omega (arith, lt-false (pos 0) z t)))

-- how far all three points may lie below 0
abbrev least : Point → Point → Point → ℕ
least a b p = (down a.x + down a.y) + (down b.x + down b.y) + (down p.x + down p.y)

-- p lies on the right of that way
pub right_by : (a b p : Point) (m n m' n' : ℕ) → Products a b p m n m' n' → is_left b a p ≡ ltb (m + n') (n + m')
right_by a b p m n m' n' h =
    let k = least a b p in
    let fa : Fits k a = record { in_x = omega arith; in_y = omega arith } in
    let fb : Fits k b = record { in_x = omega arith; in_y = omega arith } in
    let fp : Fits k p = record { in_x = omega arith; in_y = omega arith } in
    is_left_is k b a p fb fa fp
    ∙ tested (side a b p) (loss (spot k a) (spot k b) (spot k p)) (gain (spot k a) (spot k b) (spot k p)) (loss (spot k b) (spot k a) (spot k p)) (gain (spot k b) (spot k a) (spot k p)) (n + m') (m + n')
    (side_is k a b p fa fb fp) (omega arith) (omega arith) (side_by a b p m n m' n' h)
  where
    tested : (z : ℤ) (l g l' g' u v : ℕ) → up z + l ≡ down z + g → l' ≡ g → g' ≡ l → up z + u ≡ down z + v → ltb l' g' ≡ ltb v u
    tested z l g l' g' u v e f f' e' = same_test _ _ (λ t. lt-ltb _ _ (omega (arith, ltb-true l' g' t))) (λ t. le-ltb _ _ (omega (arith, ltb-false l' g' t)))

same_test_of : (m n m' n' : ℕ) → m ≡ m' → n ≡ n' → ltb m n ≡ ltb m' n'
same_test_of m n m' n' e f = cc

none_below : (m n : ℕ) → n ≡ 0 → ltb m n ≡ false
none_below m n e = le-ltb m n (omega arith)

-- ---- a way up to the east, from a to b

pub east_left : (a b p : Point) (u v w t : ℕ) → pos u ≡ b.x -ℤ a.x → pos v ≡ p.y -ℤ a.y → pos w ≡ p.x -ℤ a.x → pos t ≡ b.y -ℤ a.y → ltb (w * t) (u * v) ≡ is_left a b p
east_left a b p u v w t eu ev ew et =
    same_test_of _ _ _ _ (omega arith) (omega arith) ∙ sym (left_by a b p (u * v) 0 (w * t) 0 (record { first = both_up b.x a.x p.y a.y u v eu ev; second = both_up p.x a.x b.y a.y w t ew et }))

pub east_right : (a b p : Point) (u v w t : ℕ) → pos u ≡ b.x -ℤ a.x → pos v ≡ p.y -ℤ a.y → pos w ≡ p.x -ℤ a.x → pos t ≡ b.y -ℤ a.y → ltb (u * v) (w * t) ≡ is_left b a p
east_right a b p u v w t eu ev ew et =
    same_test_of _ _ _ _ (omega arith) (omega arith) ∙ sym (right_by a b p (u * v) 0 (w * t) 0 (record { first = both_up b.x a.x p.y a.y u v eu ev; second = both_up p.x a.x b.y a.y w t ew et }))

-- a point south-east of the lower end isn't on the left, one north-west of it isn't on the right
pub east_not_left : (a b p : Point) → a.x ≤ℤ b.x → a.y ≤ℤ b.y → a.x ≤ℤ p.x → p.y ≤ℤ a.y → is_left a b p ≡ false
east_not_left a b p h k r s =
    left_by a b p 0 _ _ 0 (record { first = second_down b.x a.x p.y a.y _ _ (gap a.x b.x h) (gap p.y a.y s); second = both_up p.x a.x b.y a.y _ _ (gap a.x p.x r) (gap a.y b.y k) })
    ∙ none_below _ _ refl

pub east_not_right : (a b p : Point) → a.x ≤ℤ b.x → a.y ≤ℤ b.y → p.x ≤ℤ a.x → a.y ≤ℤ p.y → is_left b a p ≡ false
east_not_right a b p h k r s =
    right_by a b p _ 0 0 _ (record { first = both_up b.x a.x p.y a.y _ _ (gap a.x b.x h) (gap a.y p.y s); second = first_down p.x a.x b.y a.y _ _ (gap p.x a.x r) (gap a.y b.y k) })
    ∙ none_below _ _ refl

-- ---- a way up to the west, from a to b

pub west_left : (a b p : Point) (u v w t : ℕ) → pos u ≡ a.x -ℤ b.x → pos v ≡ p.y -ℤ a.y → pos w ≡ a.x -ℤ p.x → pos t ≡ b.y -ℤ a.y → ltb (u * v) (w * t) ≡ is_left a b p
west_left a b p u v w t eu ev ew et =
    same_test_of _ _ _ _ (omega arith) (omega arith) ∙ sym (left_by a b p 0 (u * v) 0 (w * t) (record { first = first_down b.x a.x p.y a.y u v eu ev; second = first_down p.x a.x b.y a.y w t ew et }))

pub west_right : (a b p : Point) (u v w t : ℕ) → pos u ≡ a.x -ℤ b.x → pos v ≡ p.y -ℤ a.y → pos w ≡ a.x -ℤ p.x → pos t ≡ b.y -ℤ a.y → ltb (w * t) (u * v) ≡ is_left b a p
west_right a b p u v w t eu ev ew et =
    same_test_of _ _ _ _ (omega arith) (omega arith) ∙ sym (right_by a b p 0 (u * v) 0 (w * t) (record { first = first_down b.x a.x p.y a.y u v eu ev; second = first_down p.x a.x b.y a.y w t ew et }))

-- a point north-east of the lower end isn't on the left, one south-west of it isn't on the right
pub west_not_left : (a b p : Point) → b.x ≤ℤ a.x → a.y ≤ℤ b.y → a.x ≤ℤ p.x → a.y ≤ℤ p.y → is_left a b p ≡ false
west_not_left a b p h k r s =
    left_by a b p 0 _ _ 0 (record { first = first_down b.x a.x p.y a.y _ _ (gap b.x a.x h) (gap a.y p.y s); second = both_up p.x a.x b.y a.y _ _ (gap a.x p.x r) (gap a.y b.y k) })
    ∙ none_below _ _ refl

pub west_not_right : (a b p : Point) → b.x ≤ℤ a.x → a.y ≤ℤ b.y → p.x ≤ℤ a.x → p.y ≤ℤ a.y → is_left b a p ≡ false
west_not_right a b p h k r s =
    right_by a b p _ 0 0 _ (record { first = both_down b.x a.x p.y a.y _ _ (gap b.x a.x h) (gap p.y a.y s); second = first_down p.x a.x b.y a.y _ _ (gap p.x a.x r) (gap a.y b.y k) })
    ∙ none_below _ _ refl

-- ---- a way up through the point's row

-- both ends are at most as far right as the point
pub passes_west : (a b p : Point) → a.x ≤ℤ p.x → b.x ≤ℤ p.x → a.y ≤ℤ p.y → p.y <ℤ b.y → is_left a b p ≡ false
passes_west a b p h k r s =
    let m = least a b p in
    is_left_is m a b p (record { in_x = omega arith; in_y = omega arith }) (record { in_x = omega arith; in_y = omega arith }) (record { in_x = omega arith; in_y = omega arith })
    ∙ le-ltb _ _ (west (spot m a) (spot m b) (spot m p) (omega (arith, le_out a.x p.x h)) (omega (arith, le_out b.x p.x k)) (omega (arith, le_out a.y p.y r)) (omega (arith, lt_out p.y b.y s)))

-- both ends are further right than the point
pub passes_east : (a b p : Point) → p.x <ℤ a.x → p.x <ℤ b.x → a.y ≤ℤ p.y → p.y <ℤ b.y → is_left a b p ≡ true
passes_east a b p h k r s =
    let m = least a b p in
    is_left_is m a b p (record { in_x = omega arith; in_y = omega arith }) (record { in_x = omega arith; in_y = omega arith }) (record { in_x = omega arith; in_y = omega arith })
    ∙ lt-ltb _ _ (east (spot m a) (spot m b) (spot m p) (omega (arith, lt_out p.x a.x h)) (omega (arith, lt_out p.x b.x k)) (omega (arith, le_out a.y p.y r)) (omega (arith, lt_out p.y b.y s)))
