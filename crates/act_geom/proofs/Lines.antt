-- One line and one box, over natural numbers.
use Rattle.std.proofs.Common.{◌≡◌, ℕ, ◌+◌, ◌*◌, ◌<◌, ◌≤◌, ◌-◌, ◌⊎◌, inl, inr, ap, arith}
use Rattle.std.proofs.Math.Nat.{mul-le-mul_right, mul-le-mul_left, lt_of_mul-lt-mul_right}

-- a point, counted from some low corner
pub record Spot : Type 0 where
  pub x : ℕ
  pub y : ℕ

le_or : (m n : ℕ) → (m ≤ n) ⊎ (n ≤ m)
le_or m n = grind arith

by_le : (m n : ℕ) (P : Type 0) → (m ≤ n → P) → (n ≤ m → P) → P
by_le m n P f g = elim (le_or m n) [ inl h ↦ f h | inr h ↦ g h ]

-- twice the signed area of a, b and p is gain - loss
abbrev pub gain : Spot → Spot → Spot → ℕ
gain a b p = b.x * p.y + p.x * a.y + a.x * b.y

abbrev pub loss : Spot → Spot → Spot → ℕ
loss a b p = p.x * b.y + b.x * a.y + a.x * p.y

-- both ends are left of the point
pub west : (a b p : Spot) → a.x ≤ p.x → b.x ≤ p.x → a.y ≤ p.y → p.y ≤ b.y → gain a b p ≤ loss a b p
west a b p h k r s =
    let e = p.y - a.y in
    let f = b.y - p.y in
    let e1 : p.y ≡ a.y + e = omega arith in
    let f1 : b.y ≡ p.y + f = omega arith in
    omega (arith, mul-le-mul_right f h, mul-le-mul_right e k, ap (λ t. p.x * t) f1, ap (λ t. a.x * t) f1, ap (λ t. b.x * t) e1, ap (λ t. p.x * t) e1)

-- both ends are right of the point
pub east : (a b p : Spot) → p.x < a.x → p.x < b.x → a.y ≤ p.y → p.y < b.y → loss a b p < gain a b p
east a b p h k r s =
    let e = p.y - a.y in
    let f = b.y - p.y in
    let e1 : p.y ≡ a.y + e = omega arith in
    let f1 : b.y ≡ p.y + f = omega arith in
    omega (arith, mul-le-mul_right f h, mul-le-mul_right e k, ap (λ t. p.x * t) f1, ap (λ t. a.x * t) f1, ap (λ t. b.x * t) e1, ap (λ t. p.x * t) e1)

-- the line's side at a point of the row of an end
pub at_first : (a b p : Spot) → p.y ≡ a.y → loss a b p < gain a b p → a.y ≤ b.y → p.x < a.x
at_first a b p e h k =
    let d = b.y - a.y in
    let d1 : b.y ≡ a.y + d = omega arith in
    let m : p.x * d < a.x * d = omega (arith, ap (λ t. p.x * t) d1, ap (λ t. a.x * t) d1, ap (λ t. b.x * t) e, ap (λ t. a.x * t) e, h) in
    lt_of_mul-lt-mul_right d m

pub at_first_down : (a b p : Spot) → p.y ≡ a.y → loss a b p < gain a b p → b.y ≤ a.y → a.x < p.x
at_first_down a b p e h k =
    let d = a.y - b.y in
    let d1 : a.y ≡ b.y + d = omega arith in
    let m : a.x * d < p.x * d = omega (arith, ap (λ t. p.x * t) d1, ap (λ t. a.x * t) d1, ap (λ t. b.x * t) e, ap (λ t. a.x * t) e, h) in
    lt_of_mul-lt-mul_right d m

pub at_second : (a b p : Spot) → p.y ≡ b.y → loss a b p < gain a b p → a.y ≤ b.y → p.x < b.x
at_second a b p e h k =
    let d = b.y - a.y in
    let d1 : b.y ≡ a.y + d = omega arith in
    let m : p.x * d < b.x * d = omega (arith, ap (λ t. p.x * t) d1, ap (λ t. b.x * t) d1, ap (λ t. b.x * t) e, ap (λ t. a.x * t) e, h) in
    lt_of_mul-lt-mul_right d m

pub at_second_down : (a b p : Spot) → p.y ≡ b.y → loss a b p < gain a b p → b.y ≤ a.y → b.x < p.x
at_second_down a b p e h k =
    let d = a.y - b.y in
    let d1 : a.y ≡ b.y + d = omega arith in
    let m : b.x * d < p.x * d = omega (arith, ap (λ t. p.x * t) d1, ap (λ t. b.x * t) d1, ap (λ t. b.x * t) e, ap (λ t. a.x * t) e, h) in
    lt_of_mul-lt-mul_right d m

abbrev pub Left : Spot → Spot → ℕ → ℕ → Type 0
Left a b x y = loss a b (record { x = x; y = y }) < gain a b (record { x = x; y = y })

-- what holds at two points of a row holds between them
pub between_x : (a b : Spot) (u w v y : ℕ) → u ≤ w → w ≤ v → Left a b u y → Left a b v y → Left a b w y
between_x a b u w v y h k p q =
    let s = w - u in
    let t = v - w in
    let s1 : w ≡ u + s = omega arith in
    let t1 : v ≡ w + t = omega arith in
    by_le a.y b.y (Left a b w y)
    (λ o. omega (arith, mul-le-mul_left t o, ap (λ z. z * b.y) t1, ap (λ z. z * a.y) t1, q))
    (λ o. omega (arith, mul-le-mul_left s o, ap (λ z. z * b.y) s1, ap (λ z. z * a.y) s1, p))

pub between_y : (a b : Spot) (x u w v : ℕ) → u ≤ w → w ≤ v → Left a b x u → Left a b x v → Left a b x w
between_y a b x u w v h k p q =
    let s = w - u in
    let t = v - w in
    let s1 : w ≡ u + s = omega arith in
    let t1 : v ≡ w + t = omega arith in
    by_le a.x b.x (Left a b x w)
    (λ o. omega (arith, mul-le-mul_left s o, ap (λ z. z * b.x) s1, ap (λ z. z * a.x) s1, p))
    (λ o. omega (arith, mul-le-mul_left t o, ap (λ z. z * b.x) t1, ap (λ z. z * a.x) t1, q))

-- the four corners on one side put the box on that side
pub in_box : (a b : Spot) (x0 y0 x1 y1 x y : ℕ) → x0 ≤ x → x ≤ x1 → y0 ≤ y → y ≤ y1
    → Left a b x0 y0 → Left a b x1 y0 → Left a b x0 y1 → Left a b x1 y1 → Left a b x y
in_box a b x0 y0 x1 y1 x y h1 h2 h3 h4 p q r s =
    between_y a b x y0 y y1 h3 h4 (between_x a b x0 x x1 y0 h1 h2 p q) (between_x a b x0 x x1 y1 h1 h2 r s)
