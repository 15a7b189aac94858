-- Points of whole numbers as points of natural numbers, moved by m.
use Rattle.std.proofs.Common.{◌≡◌, ℕ, ℤ, pos, negsuc, ◌-ℤ◌, ◌*ℤ◌, ◌+◌, ◌*◌, ◌≤◌, ◌-◌, refl, sym, ap, arith, Bool, true, false, ltb, int_lt}
use Rattle.std.proofs.lemmas.Int.{ints}
use Rattle.std.proofs.lemmas.Bool.{lt-ltb, le-ltb}
use borrow.Author.Differences.{up, down, product_is, lt-true, lt-false}
use Rattle.act_geom.proofs.Lines.{Spot, gain, loss}
use Rattle.act_geom.specs.Inside.{side, is_left}
use Rattle.act_grid.specs.declared.Point.{Point}

abbrev pub moved : ℕ → ℤ → ℕ
moved m z = up z + m - down z

abbrev pub spot : ℕ → Point → Spot
spot m p = record { x = moved m p.x; y = moved m p.y }

pub record Fits (m : ℕ) (p : Point) : Type 0 where
  pub in_x : down p.x ≤ m
  pub in_y : down p.y ≤ m

-- a product of differences
pub by_parts : (u v : ℤ) (A B C D : ℕ) → up u + B ≡ down u + A → up v + D ≡ down v + C
    → up (u *ℤ v) + (A * D + B * C) ≡ down (u *ℤ v) + (A * C + B * D)
by_parts (pos m) (pos n) A B C D h k =
    let h1 : A ≡ m + B = omega arith in
    let k1 : C ≡ n + D = omega arith in
    omega (arith, product_is (pos m) (pos n), ap (λ t. t * D) h1, ap (λ t. t * C) h1, ap (λ t. B * t) k1, ap (λ t. m * t) k1)
by_parts (pos m) (negsuc n) A B C D h k =
    let h1 : A ≡ m + B = omega arith in
    let k1 : D ≡ n + 1 + C = omega arith in
    omega (arith, product_is (pos m) (negsuc n), ap (λ t. t * D) h1, ap (λ t. t * C) h1, ap (λ t. B * t) k1, ap (λ t. m * t) k1)
by_parts (negsuc m) (pos n) A B C D h k =
    let h1 : B ≡ m + 1 + A = omega arith in
    let k1 : C ≡ n + D = omega arith in
    omega (arith, product_is (negsuc m) (pos n), ap (λ t. t * D) h1, ap (λ t. t * C) h1, ap (λ t. A * t) k1, ap (λ t. m * t) k1)
by_parts (negsuc m) (negsuc n) A B C D h k =
    let h1 : B ≡ m + 1 + A = omega arith in
    let k1 : D ≡ n + 1 + C = omega arith in
    omega (arith, product_is (negsuc m) (negsuc n), ap (λ t. t * D) h1, ap (λ t. t * C) h1, ap (λ t. A * t) k1, ap (λ t. m * t) k1)

difference : (m : ℕ) (a b : ℤ) → down a ≤ m → down b ≤ m → up (a -ℤ b) + moved m b ≡ down (a -ℤ b) + moved m a
difference m a b h k = omega (arith, ints)

pub side_is : (m : ℕ) (a b p : Point) → Fits m a → Fits m b → Fits m p
    → up (side a b p) + loss (spot m a) (spot m b) (spot m p) ≡ down (side a b p) + gain (spot m a) (spot m b) (spot m p)
side_is m a b p f g h =
    let e1 = by_parts (b.x -ℤ a.x) (p.y -ℤ a.y) (moved m b.x) (moved m a.x) (moved m p.y) (moved m a.y) (difference m b.x a.x g.in_x f.in_x) (difference m p.y a.y h.in_y f.in_y) in
    let e2 = by_parts (p.x -ℤ a.x) (b.y -ℤ a.y) (moved m p.x) (moved m a.x) (moved m b.y) (moved m a.y) (difference m p.x a.x h.in_x f.in_x) (difference m b.y a.y g.in_y f.in_y) in
    sum_of ((b.x -ℤ a.x) *ℤ (p.y -ℤ a.y)) ((p.x -ℤ a.x) *ℤ (b.y -ℤ a.y)) (moved m a.x) (moved m a.y) (moved m b.x) (moved m b.y) (moved m p.x) (moved m p.y) e1 e2
  where
    sum_of : (u v : ℤ) (ax ay bx bY px py : ℕ) → up u + (bx * ay + ax * py) ≡ down u + (bx * py + ax * ay) → up v + (px * ay + ax * bY) ≡ down v + (px * bY + ax * ay)
        → up (u -ℤ v) + (px * bY + bx * ay + ax * py) ≡ down (u -ℤ v) + (bx * py + px * ay + ax * bY)
    sum_of u v ax ay bx bY px py e1 e2 = omega (arith, ints)

pub same_test : (b c : Bool) → (b ≡ true → c ≡ true) → (b ≡ false → c ≡ false) → b ≡ c
same_test true c h k = sym (h refl)
same_test false c h k = sym (k refl)

pub is_left_is : (m : ℕ) (a b p : Point) → Fits m a → Fits m b → Fits m p
    → is_left a b p ≡ ltb (loss (spot m a) (spot m b) (spot m p)) (gain (spot m a) (spot m b) (spot m p))
is_left_is m a b p f g h = tested (side a b p) _ _ (side_is m a b p f g h)
  where
    tested : (z : ℤ) (u v : ℕ) → up z + u ≡ down z + v → int_lt (pos 0) z ≡ ltb u v
    tested z u v e = same_test _ _ (λ t. lt-ltb _ _ (omega (arith, lt-true (pos 0) z t))) (λ t. le-ltb _ _ (omega (arith, lt-false (pos 0) z t)))
