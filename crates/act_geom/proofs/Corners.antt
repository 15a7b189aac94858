-- Which corner of a box decides whether all lie on one side of a line.
use Rattle.std.proofs.Common.{◌≡◌, ℕ, ℤ, ◌≤ℤ◌, ◌+◌, ◌*◌, ◌-◌, ◌≤◌, sym, ap, ◌∙◌, arith, Bool, true, ◌&&◌}
use Rattle.std.proofs.lemmas.Int.{ints}
use Rattle.std.proofs.lemmas.Bool.{lt-ltb, ltb-true}
use Rattle.std.proofs.Math.Nat.{mul-le-mul_left}
use borrow.Author.Differences.{down, le_out}
use Rattle.act_grid.specs.declared.Point.{Point}
use Rattle.act_grid.specs.declared.Hull.{Hull}
use Rattle.act_geom.specs.Inside.{is_left}
use Rattle.act_geom.specs.Touch.{all_left}
use Rattle.act_geom.proofs.Lines.{Spot, Left}
use Rattle.act_geom.proofs.Shifted.{moved, spot, Fits, is_left_is}

-- ---- what stays left when the point moves, over natural numbers

to_west : (a b : Spot) (u w y : ℕ) → a.y ≤ b.y → w ≤ u → Left a b u y → Left a b w y
to_west a b u w y h k l =
    let t = u - w in
    let e : u ≡ w + t = omega arith in
    omega (arith, l, mul-le-mul_left t h, ap (λ z. z * b.y) e, ap (λ z. z * a.y) e)

to_east : (a b : Spot) (u w y : ℕ) → b.y ≤ a.y → u ≤ w → Left a b u y → Left a b w y
to_east a b u w y h k l =
    let t = w - u in
    let e : w ≡ u + t = omega arith in
    omega (arith, l, mul-le-mul_left t h, ap (λ z. z * b.y) e, ap (λ z. z * a.y) e)

to_north : (a b : Spot) (x u w : ℕ) → a.x ≤ b.x → u ≤ w → Left a b x u → Left a b x w
to_north a b x u w h k l =
    let t = w - u in
    let e : w ≡ u + t = omega arith in
    omega (arith, l, mul-le-mul_left t h, ap (λ z. b.x * z) e, ap (λ z. a.x * z) e)

to_south : (a b : Spot) (x u w : ℕ) → b.x ≤ a.x → w ≤ u → Left a b x u → Left a b x w
to_south a b x u w h k l =
    let t = u - w in
    let e : u ≡ w + t = omega arith in
    omega (arith, l, mul-le-mul_left t h, ap (λ z. b.x * z) e, ap (λ z. a.x * z) e)

-- ---- the same over whole numbers

abbrev least : Point → Point → Point → Point → ℕ
least a b p q = (down a.x + down a.y) + (down b.x + down b.y) + (down p.x + down p.y) + (down q.x + down q.y)

carried : (a b p q : Point)
    → ((m : ℕ) → Fits m a → Fits m b → Fits m p → Fits m q → Left (spot m a) (spot m b) (moved m p.x) (moved m p.y) → Left (spot m a) (spot m b) (moved m q.x) (moved m q.y))
    → is_left a b p ≡ true → is_left a b q ≡ true
carried a b p q f t =
    let m = least a b p q in
    let fa : Fits m a = record { in_x = omega arith; in_y = omega arith } in
    let fb : Fits m b = record { in_x = omega arith; in_y = omega arith } in
    let fp : Fits m p = record { in_x = omega arith; in_y = omega arith } in
    let fq : Fits m q = record { in_x = omega arith; in_y = omega arith } in
    is_left_is m a b q fa fb fq ∙ lt-ltb _ _ (f m fa fb fp fq (ltb-true _ _ (sym (is_left_is m a b p fa fb fp) ∙ t)))

order_at : (m : ℕ) (a b : ℤ) → down a ≤ m → down b ≤ m → a ≤ℤ b → moved m a ≤ moved m b
order_at m a b h k t = omega (arith, le_out a b t)

north_west : (a b p q : Point) → a.x ≤ℤ b.x → a.y ≤ℤ b.y → q.x ≤ℤ p.x → p.y ≤ℤ q.y → is_left a b p ≡ true → is_left a b q ≡ true
north_west a b p q h k r s =
    carried a b p q (λ m fa fb fp fq l.
    to_north (spot m a) (spot m b) (moved m q.x) (moved m p.y) (moved m q.y) (order_at m _ _ fa.in_x fb.in_x h) (order_at m _ _ fp.in_y fq.in_y s)
    (to_west (spot m a) (spot m b) (moved m p.x) (moved m q.x) (moved m p.y) (order_at m _ _ fa.in_y fb.in_y k) (order_at m _ _ fq.in_x fp.in_x r) l))

south_east : (a b p q : Point) → b.x ≤ℤ a.x → b.y ≤ℤ a.y → p.x ≤ℤ q.x → q.y ≤ℤ p.y → is_left a b p ≡ true → is_left a b q ≡ true
south_east a b p q h k r s =
    carried a b p q (λ m fa fb fp fq l.
    to_south (spot m a) (spot m b) (moved m q.x) (moved m p.y) (moved m q.y) (order_at m _ _ fb.in_x fa.in_x h) (order_at m _ _ fq.in_y fp.in_y s)
    (to_east (spot m a) (spot m b) (moved m p.x) (moved m q.x) (moved m p.y) (order_at m _ _ fb.in_y fa.in_y k) (order_at m _ _ fp.in_x fq.in_x r) l))

south_west : (a b p q : Point) → b.x ≤ℤ a.x → a.y ≤ℤ b.y → q.x ≤ℤ p.x → q.y ≤ℤ p.y → is_left a b p ≡ true → is_left a b q ≡ true
south_west a b p q h k r s =
    carried a b p q (λ m fa fb fp fq l.
    to_south (spot m a) (spot m b) (moved m q.x) (moved m p.y) (moved m q.y) (order_at m _ _ fb.in_x fa.in_x h) (order_at m _ _ fq.in_y fp.in_y s)
    (to_west (spot m a) (spot m b) (moved m p.x) (moved m q.x) (moved m p.y) (order_at m _ _ fa.in_y fb.in_y k) (order_at m _ _ fq.in_x fp.in_x r) l))

north_east : (a b p q : Point) → a.x ≤ℤ b.x → b.y ≤ℤ a.y → p.x ≤ℤ q.x → p.y ≤ℤ q.y → is_left a b p ≡ true → is_left a b q ≡ true
north_east a b p q h k r s =
    carried a b p q (λ m fa fb fp fq l.
    to_north (spot m a) (spot m b) (moved m q.x) (moved m p.y) (moved m q.y) (order_at m _ _ fa.in_x fb.in_x h) (order_at m _ _ fp.in_y fq.in_y s)
    (to_east (spot m a) (spot m b) (moved m p.x) (moved m q.x) (moved m p.y) (order_at m _ _ fb.in_y fa.in_y k) (order_at m _ _ fp.in_x fq.in_x r) l))

-- ---- one corner decides

-- the box has a point
pub record IsBox (h : Hull) : Type 0 where
  pub wide : h.lo.x ≤ℤ h.hi.x
  pub tall : h.lo.y ≤ℤ h.hi.y

self : (x : ℤ) → x ≤ℤ x
self x = omega (arith, ints)

decided : (sw se nw ne d : Bool) → (d ≡ true → sw ≡ true) → (d ≡ true → se ≡ true) → (d ≡ true → nw ≡ true) → (d ≡ true → ne ≡ true)
    → (((sw && se) && (nw && ne)) ≡ true → d ≡ true) → d ≡ ((sw && se) && (nw && ne))
decided sw se nw ne d h1 h2 h3 h4 h = grind arith

all_of : (a b c d : Bool) → ((a && b) && (c && d)) ≡ true → (a ≡ true) × (b ≡ true) × (c ≡ true) × (d ≡ true)
all_of a b c d h = grind arith

corners : (h : Hull) (a b : Point) → all_left h a b ≡ true
    → (is_left a b (record { x = h.lo.x; y = h.lo.y }) ≡ true) × (is_left a b (record { x = h.hi.x; y = h.lo.y }) ≡ true)
    × (is_left a b (record { x = h.lo.x; y = h.hi.y }) ≡ true) × (is_left a b (record { x = h.hi.x; y = h.hi.y }) ≡ true)
corners h a b e =
    all_of (is_left a b (record { x = h.lo.x; y = h.lo.y })) (is_left a b (record { x = h.hi.x; y = h.lo.y })) (is_left a b (record { x = h.lo.x; y = h.hi.y })) (is_left a b (record { x = h.hi.x; y = h.hi.y })) e

-- a way to the north-east: the south-east corner
pub by_south_east : (h : Hull) (a b : Point) → IsBox h → a.x ≤ℤ b.x → a.y ≤ℤ b.y → is_left a b (record { x = h.hi.x; y = h.lo.y }) ≡ all_left h a b
by_south_east h a b o e f =
    decided _ _ _ _ _ (north_west a b _ _ e f o.wide (self h.lo.y)) (λ t. t) (north_west a b _ _ e f o.wide o.tall) (north_west a b _ _ e f (self h.hi.x) o.tall) (λ t. (corners h a b t).1)

-- a way to the south-west: the north-west corner
pub by_north_west : (h : Hull) (a b : Point) → IsBox h → b.x ≤ℤ a.x → b.y ≤ℤ a.y → is_left a b (record { x = h.lo.x; y = h.hi.y }) ≡ all_left h a b
by_north_west h a b o e f =
    decided _ _ _ _ _ (south_east a b _ _ e f (self h.lo.x) o.tall) (south_east a b _ _ e f o.wide o.tall) (λ t. t) (south_east a b _ _ e f o.wide (self h.hi.y)) (λ t. (corners h a b t).2)

-- a way to the north-west: the north-east corner
pub by_north_east : (h : Hull) (a b : Point) → IsBox h → b.x ≤ℤ a.x → a.y ≤ℤ b.y → is_left a b (record { x = h.hi.x; y = h.hi.y }) ≡ all_left h a b
by_north_east h a b o e f =
    decided _ _ _ _ _ (south_west a b _ _ e f o.wide o.tall) (south_west a b _ _ e f (self h.hi.x) o.tall) (south_west a b _ _ e f o.wide (self h.hi.y)) (λ t. t) (λ t. (corners h a b t).3)

-- a way to the south-east: the south-west corner
pub by_south_west : (h : Hull) (a b : Point) → IsBox h → a.x ≤ℤ b.x → b.y ≤ℤ a.y → is_left a b (record { x = h.lo.x; y = h.lo.y }) ≡ all_left h a b
by_south_west h a b o e f =
    decided _ _ _ _ _ (λ t. t) (north_east a b _ _ e f o.wide (self h.lo.y)) (north_east a b _ _ e f (self h.lo.x) o.tall) (north_east a b _ _ e f o.wide o.tall) (λ t. (corners h a b t).0)
