-- How cells lie to each other.
use Rattle.std.proofs.Common.{◌≡◌, ◌≢◌, ℕ, zero, suc, ◌+◌, ◌-◌, ◌*◌, ◌/◌, ◌%◌, ◌^◌, ◌<◌, ◌≤◌, ◌⊎◌, inl, inr, ℤ, pos, ◌+ℤ◌, ◌-ℤ◌, ◌≤ℤ◌, refl, sym, ap, ◌∙◌, subst, arith, lit≤, pow-suc}
use Rattle.std.proofs.lemmas.Int.{ints}
use Rattle.std.proofs.lemmas.Nat.{pow_pos, pow-add, mod_below, div-add-mod', div_below, shr-shr}
use Rattle.std.proofs.Math.Nat.{mul_comm, mul-le-mul_right}
use Rattle.act_grid.specs.declared.point.Point.{Point}
use Rattle.act_grid.specs.declared.hull.Hull.{Hull}
use Rattle.act_grid.specs.Hull.{IsIn, IsWithin, square}
use Rattle.act_grid.specs.Cell.{Address, IsCell, IsPart, ComesBefore, child_of, id_of, side_of, column, row, hull_of}
use Rattle.act_grid.proofs.CellFacts.{four, half_span}
use Rattle.act_grid.proofs.SpacedFacts.{row_more}

-- ---- children

column_of_child : (l path q : ℕ) → q < 4 → column (l + 1) (path * 4 + q) ≡ column l path * 2 + q % 2
unfolding column
column_of_child l path q h =
    let e : l + 1 ≡ suc l = omega arith in
    let rest : (path * 4 + q) / 4 ≡ path = omega arith in
    let low : (path * 4 + q) % 2 ≡ q % 2 = omega arith in
    ap (λ v. column v (path * 4 + q)) e ∙ ap (λ v. column l v * 2 + (path * 4 + q) % 2) rest ∙ ap (λ v. column l path * 2 + v) low

row_of_child : (l path q : ℕ) → q < 4 → row (l + 1) (path * 4 + q) ≡ row l path * 2 + q / 2
row_of_child l path q h =
    let e : l + 1 ≡ suc l = omega arith in
    let rest : (path * 4 + q) / 4 ≡ path = omega arith in
    let low : (path * 4 + q) / 2 % 2 ≡ q / 2 = omega arith in
    ap (λ v. row v (path * 4 + q)) e ∙ row_more l (path * 4 + q) ∙ ap (λ v. row l v * 2 + (path * 4 + q) / 2 % 2) rest ∙ ap (λ v. row l path * 2 + v) low

half_side : (l : ℕ) → l < 30 → 2 ^ (32 - l) ≡ 2 * 2 ^ (32 - (l + 1))
half_side l h =
    let e : 32 - l ≡ suc (32 - (l + 1)) = omega arith in
    ap (λ v. 2 ^ v) e ∙ pow-suc 2 (32 - (l + 1)) ∙ mul_comm (2 ^ (32 - (l + 1))) 2

-- the low side of a cell and of its child, along one direction
record Along (big small half : ℕ) (b : ℕ) : Type 0 where
  pub start : small ≡ big + b * half
  pub near : b ≤ 1

along_x : (c : Address) (q : ℕ) → c.level < 30 → q < 4 → Along (column c.level c.path * side_of c) (column (c.level + 1) (c.path * 4 + q) * side_of (child_of c q)) (side_of (child_of c q)) (q % 2)
along_x c q h k = record {
  start = omega (arith, ap (λ v. v * 2 ^ (32 - (c.level + 1))) (column_of_child c.level c.path q k), ap (λ v. column c.level c.path * v) (half_side c.level h));
  near = omega arith;
}

along_y : (c : Address) (q : ℕ) → c.level < 30 → q < 4 → Along (row c.level c.path * side_of c) (row (c.level + 1) (c.path * 4 + q) * side_of (child_of c q)) (side_of (child_of c q)) (q / 2)
along_y c q h k = record {
  start = omega (arith, ap (λ v. v * 2 ^ (32 - (c.level + 1))) (row_of_child c.level c.path q k), ap (λ v. row c.level c.path * v) (half_side c.level h));
  near = omega arith;
}

quarter_within : (x y x' y' side half a b : ℕ) → 1 ≤ half → side ≡ 2 * half → Along x x' half a → Along y y' half b
    → IsWithin (square (pos x -ℤ pos (2 ^ 31)) (pos y -ℤ pos (2 ^ 31)) side) (square (pos x' -ℤ pos (2 ^ 31)) (pos y' -ℤ pos (2 ^ 31)) half)
quarter_within x y x' y' side half a b h e p q =
    let ma : a * half ≤ 1 * half = mul-le-mul_right half p.near in
    let mb : b * half ≤ 1 * half = mul-le-mul_right half q.near in
    let ea : x' ≡ x + a * half = p.start in
    let eb : y' ≡ y + b * half = q.start in
    within x y x' y' side half (a * half) (b * half) h e (omega arith) (omega arith) ea eb
  where
    within : (x y x' y' side half s t : ℕ) → 1 ≤ half → side ≡ 2 * half → s ≤ half → t ≤ half → x' ≡ x + s → y' ≡ y + t
        → IsWithin (square (pos x -ℤ pos (2 ^ 31)) (pos y -ℤ pos (2 ^ 31)) side) (square (pos x' -ℤ pos (2 ^ 31)) (pos y' -ℤ pos (2 ^ 31)) half)
    within x y x' y' side half s t h e k l f g = record {
      low = record { west = omega (arith, ints); east = omega (arith, ints); south = omega (arith, ints); north = omega (arith, ints) };
      high = record { west = omega (arith, ints); east = omega (arith, ints); south = omega (arith, ints); north = omega (arith, ints) };
      wide = omega (arith, ints);
      tall = omega (arith, ints);
    }

pub child_within : (c : Address) (q : ℕ) → IsCell c → c.level < 30 → q < 4 → IsWithin (hull_of c) (hull_of (child_of c q))
child_within c q h k l =
    quarter_within _ _ _ _ _ _ _ _ (pow_pos (32 - (c.level + 1))) (half_side c.level k) (along_x c q k l) (along_y c q k l)

-- which half of the side holds the number
half_with : (z : ℤ) (x half : ℕ) → (pos x -ℤ pos (2 ^ 31)) ≤ℤ z → z ≤ℤ (pos x -ℤ pos (2 ^ 31) +ℤ pos (2 * half - 1)) → 1 ≤ half
    → (b : ℕ) × (b ≤ 1) × ((pos (x + b * half) -ℤ pos (2 ^ 31)) ≤ℤ z) × (z ≤ℤ (pos (x + b * half) -ℤ pos (2 ^ 31) +ℤ pos (half - 1)))
half_with z x half h k l = elim (either z (pos (x + half) -ℤ pos (2 ^ 31))) [
  | inl o ↦ (1, lit≤ tt, subst (λ v. (pos v -ℤ pos (2 ^ 31)) ≤ℤ z) one o, subst (λ v. z ≤ℤ (pos v -ℤ pos (2 ^ 31) +ℤ pos (half - 1))) one (omega (arith, ints)))
  | inr o ↦ (0, lit≤ tt, subst (λ v. (pos v -ℤ pos (2 ^ 31)) ≤ℤ z) none h, subst (λ v. z ≤ℤ (pos v -ℤ pos (2 ^ 31) +ℤ pos (half - 1))) none (omega (arith, ints)))
]
  where
    one : x + half ≡ x + 1 * half
    one = omega arith

    none : x ≡ x + 0 * half
    none = omega arith

    either : (z w : ℤ) → (w ≤ℤ z) ⊎ (z ≤ℤ (w -ℤ pos 1))
    either z w = grind (arith, ints)

pub some_child : (c : Address) (p : Point) → IsCell c → c.level < 30 → IsIn (hull_of c) p → (q : ℕ) × (q < 4) × IsIn (hull_of (child_of c q)) p
some_child c p h k i =
    let half = 2 ^ (32 - (c.level + 1)) in
    let e : side_of c ≡ 2 * half = half_side c.level k in
    let x = half_with p.x (column c.level c.path * side_of c) half i.west (subst (λ s. p.x ≤ℤ (pos (column c.level c.path * side_of c) -ℤ pos (2 ^ 31) +ℤ pos (s - 1))) e i.east) (pow_pos (32 - (c.level + 1))) in
    let y = half_with p.y (row c.level c.path * side_of c) half i.south (subst (λ s. p.y ≤ℤ (pos (row c.level c.path * side_of c) -ℤ pos (2 ^ 31) +ℤ pos (s - 1))) e i.north) (pow_pos (32 - (c.level + 1))) in
    let q = x.0 + 2 * y.0 in
    let small : q < 4 = omega (arith, x.1, y.1) in
    let qx : q % 2 ≡ x.0 = omega (arith, x.1) in
    let qy : q / 2 ≡ y.0 = omega (arith, x.1) in
    let sx : column c.level c.path * side_of c + x.0 * half ≡ column (c.level + 1) (c.path * 4 + q) * half = ap (λ v. column c.level c.path * side_of c + v * half) (sym qx) ∙ sym (along_x c q k small).start in
    let sy : row c.level c.path * side_of c + y.0 * half ≡ row (c.level + 1) (c.path * 4 + q) * half = ap (λ v. row c.level c.path * side_of c + v * half) (sym qy) ∙ sym (along_y c q k small).start in (
      q,
      small,
      record {
        west = subst (λ v. (pos v -ℤ pos (2 ^ 31)) ≤ℤ p.x) sx x.2;
        east = subst (λ v. p.x ≤ℤ (pos v -ℤ pos (2 ^ 31) +ℤ pos (half - 1))) sx x.3;
        south = subst (λ v. (pos v -ℤ pos (2 ^ 31)) ≤ℤ p.y) sy y.2;
        north = subst (λ v. p.y ≤ℤ (pos v -ℤ pos (2 ^ 31) +ℤ pos (half - 1))) sy y.3;
      },
    )

-- ---- one cell a level

same_place : (z : ℤ) (m n s : ℕ) → 1 ≤ s → (pos (m * s) -ℤ pos (2 ^ 31)) ≤ℤ z → z ≤ℤ (pos (m * s) -ℤ pos (2 ^ 31) +ℤ pos (s - 1))
    → (pos (n * s) -ℤ pos (2 ^ 31)) ≤ℤ z → z ≤ℤ (pos (n * s) -ℤ pos (2 ^ 31) +ℤ pos (s - 1)) → m ≡ n
same_place z m n s o h1 h2 k1 k2 = elim (order m n) [
  | inl l ↦ absurd (apart z (m * s) (n * s) s o h2 k1 (omega (arith, mul-le-mul_right s l)))
  | inr u ↦ elim u [ inl l ↦ absurd (apart z (n * s) (m * s) s o k2 h1 (omega (arith, mul-le-mul_right s l))) | inr e ↦ e ]
]
  where
    order : (m n : ℕ) → (m + 1 ≤ n) ⊎ ((n + 1 ≤ m) ⊎ (m ≡ n))
    order m n = grind arith

    apart : (z : ℤ) (a b s : ℕ) → 1 ≤ s → z ≤ℤ (pos a -ℤ pos (2 ^ 31) +ℤ pos (s - 1)) → (pos b -ℤ pos (2 ^ 31)) ≤ℤ z → a + s ≤ b → ⊥
    apart z a b s o h k l = omega (arith, ints)

same_path : (l a b : ℕ) → a < 4 ^ l → b < 4 ^ l → column l a ≡ column l b → row l a ≡ row l b → a ≡ b
unfolding column
same_path zero a b h k e f = omega (arith, h, k)
same_path (suc l) a b h k e f =
    let g : row l (a / 4) * 2 + a / 2 % 2 ≡ row l (b / 4) * 2 + b / 2 % 2 = sym (row_more l a) ∙ f ∙ row_more l b in
    let rest : a / 4 ≡ b / 4 =
    same_path l (a / 4) (b / 4) (omega (arith, h, pow-suc 4 l)) (omega (arith, k, pow-suc 4 l)) (omega (arith, e)) (omega (arith, g)) in
    omega (arith, e, g, rest)

same_address : {a b a' b' : ℕ} → a ≡ a' → b ≡ b' → ◌≡◌ {A = Address} (record { level = a; path = b }) (record { level = a'; path = b' })
same_address p q = cc

pub one_cell : (c d : Address) (p : Point) → IsCell c → IsCell d → c.level ≡ d.level → IsIn (hull_of c) p → IsIn (hull_of d) p → c ≡ d
one_cell c d p h k e i j =
    let at : Address = record { level = c.level; path = d.path } in
    let same : d ≡ at = same_address (sym e) refl in
    let j2 : IsIn (hull_of at) p = subst (λ (a : Address). IsIn (hull_of a) p) same j in
    let x : column c.level c.path ≡ column c.level d.path = same_place p.x _ _ (side_of c) (pow_pos (32 - c.level)) i.west i.east j2.west j2.east in
    let y : row c.level c.path ≡ row c.level d.path = same_place p.y _ _ (side_of c) (pow_pos (32 - c.level)) i.south i.north j2.south j2.north in
    same_address e (same_path c.level c.path d.path h.short (subst (λ l. d.path < 4 ^ l) (sym e) k.short) x y)

-- ---- parts

within_self : (c : Address) → IsCell c → IsWithin (hull_of c) (hull_of c)
within_self c h =
    let o : 1 ≤ side_of c = pow_pos (32 - c.level) in
    all (column c.level c.path * side_of c) (row c.level c.path * side_of c) (side_of c) o
  where
    all : (x y s : ℕ) → 1 ≤ s → IsWithin (square (pos x -ℤ pos (2 ^ 31)) (pos y -ℤ pos (2 ^ 31)) s) (square (pos x -ℤ pos (2 ^ 31)) (pos y -ℤ pos (2 ^ 31)) s)
    all x y s o = record {
      low = record { west = omega (arith, ints); east = omega (arith, ints); south = omega (arith, ints); north = omega (arith, ints) };
      high = record { west = omega (arith, ints); east = omega (arith, ints); south = omega (arith, ints); north = omega (arith, ints) };
      wide = omega (arith, ints);
      tall = omega (arith, ints);
    }

pub in_within : (h k : Hull) (p : Point) → IsWithin h k → IsIn k p → IsIn h p
in_within h k p w i =
    let a = w.low in
    let b = w.high in
    record {
      west = omega (arith, ints, a.west, i.west);
      east = omega (arith, ints, b.east, i.east);
      south = omega (arith, ints, a.south, i.south);
      north = omega (arith, ints, b.north, i.north);
    }

pub within_within : (h k m : Hull) → IsWithin h k → IsWithin k m → IsWithin h m
within_within h k m w v = record { low = in_within h k m.lo w v.low; high = in_within h k m.hi w v.high; wide = v.wide; tall = v.tall }

div_four : (n k : ℕ) → n / 4 / 4 ^ k ≡ n / 4 ^ suc k
div_four n k =
    let e : 2 * suc k ≡ 2 + 2 * k = omega arith in
    ap (λ v. n / 4 / v) (four k) ∙ shr-shr n 2 (2 * k) ∙ ap (λ v. n / 2 ^ v) (sym e) ∙ ap (λ v. n / v) (sym (four (suc k)))

part_within_at : (k : ℕ) (c d : Address) → IsCell c → IsCell d → d.level ≡ c.level + k → d.path / 4 ^ k ≡ c.path → IsWithin (hull_of c) (hull_of d)
part_within_at zero c d h i e f =
    let same : c ≡ d = same_address (omega (arith, e)) (omega (arith, f)) in
    subst (λ (a : Address). IsWithin (hull_of c) (hull_of a)) same (within_self c h)
part_within_at (suc k) c d h i e f =
    let up : Address = record { level = d.level - 1; path = d.path / 4 } in
    let deeper : d.level ≡ suc (d.level - 1) = omega (arith, e) in
    let cell : IsCell up = record { deep = omega (arith, i.deep); short = omega (arith, i.short, ap (λ l. 4 ^ l) deeper, pow-suc 4 (d.level - 1)) } in
    let same : child_of up (d.path % 4) ≡ d = same_address (omega (arith, e)) (omega arith) in
    within_within (hull_of c) (hull_of up) (hull_of d)
    (part_within_at k c up h cell (omega (arith, e)) (div_four d.path k ∙ f))
    (subst (λ (a : Address). IsWithin (hull_of up) (hull_of a)) same (child_within up (d.path % 4) cell (omega (arith, e, i.deep)) (omega arith)))

pub part_within : (c d : Address) → IsCell c → IsCell d → IsPart c d → IsWithin (hull_of c) (hull_of d)
part_within c d h k p = part_within_at (d.level - c.level) c d h k (omega (arith, p.below)) p.begins

pub part_from_point : (c d : Address) (p : Point) → IsCell c → IsCell d → c.level ≤ d.level → IsIn (hull_of c) p → IsIn (hull_of d) p → IsPart c d
part_from_point c d p h k l i j =
    let n = d.level - c.level in
    let up : Address = record { level = c.level; path = d.path / 4 ^ n } in
    let all : 4 ^ d.level ≡ 4 ^ c.level * 4 ^ n = ap (λ v. 4 ^ v) (sum d.level c.level l) ∙ pow-add 4 c.level n in
    let cell : IsCell up = record { deep = h.deep; short = div_below d.path (4 ^ n) (4 ^ c.level) (pow_pos_4 n) (subst (λ v. d.path < v) all k.short) } in
    let same : c ≡ up = one_cell c up p h cell refl i (in_within (hull_of up) (hull_of d) p (part_within_at n up d cell k (sum d.level c.level l) refl) j) in
    record { below = l; begins = sym (ap (λ (a : Address). a.path) same) }
  where
    sum : (a b : ℕ) → b ≤ a → a ≡ b + (a - b)
    sum a b h = omega arith

    pow_pos_4 : (n : ℕ) → 0 < 4 ^ n
    pow_pos_4 n = omega (arith, four n, pow_pos (2 * n))

-- ---- Z order

leaves : (c d : Address) → c.level ≤ d.level → d.level ≤ 30 → 4 ^ (30 - c.level) ≡ 4 ^ (d.level - c.level) * 4 ^ (30 - d.level)
leaves c d h k =
    let e : 30 - c.level ≡ d.level - c.level + (30 - d.level) = omega arith in
    ap (λ v. 4 ^ v) e ∙ pow-add 4 (d.level - c.level) (30 - d.level)

order_at : (c d : Address) → IsCell d → c.level ≤ d.level → d.path / 4 ^ (d.level - c.level) ≢ c.path → ComesBefore c d ⊎ ComesBefore d c
order_at c d h l n =
    let k = 4 ^ (d.level - c.level) in
    let s = 4 ^ (30 - d.level) in
    let m = d.path / k in
    let e : 4 ^ (30 - c.level) ≡ k * s = leaves c d l h.deep in
    let pos : 0 < k = omega (arith, four (d.level - c.level), pow_pos (2 * (d.level - c.level))) in
    let parts : m * k + d.path % k ≡ d.path = div-add-mod' d.path k in
    let low : d.path % k < k = mod_below d.path k pos in
    elim (order m c.path n) [
      | inl o ↦
          inl (omega (arith, ap (λ v. (c.path + 1) * v) e, mul-le-mul_right s (mul-le-mul_right k o), mul-le-mul_right s (floor m k (d.path % k) d.path parts)))
      | inr o ↦
          inr (omega (arith, ap (λ v. c.path * v) e, mul-le-mul_right s (above m k (d.path % k) d.path c.path parts low (mul-le-mul_right k o))))
    ]
  where
    order : (m n : ℕ) → m ≢ n → (n + 1 ≤ m) ⊎ (m + 1 ≤ n)
    order m n h = grind arith

    floor : (m k r p : ℕ) → m * k + r ≡ p → m * k ≤ p
    floor m k r p h = omega arith

    above : (m k r p q : ℕ) → m * k + r ≡ p → r < k → (m + 1) * k ≤ q * k → p + 1 ≤ q * k
    above m k r p q h l o = omega arith

pub some_order : (c d : Address) → IsCell c → IsCell d → (IsPart c d → ⊥) → (IsPart d c → ⊥) → ComesBefore c d ⊎ ComesBefore d c
some_order c d h k n m = elim (either c.level d.level) [
  | inl l ↦ order_at c d k l (λ e. n (record { below = l; begins = e }))
  | inr l ↦ elim (order_at d c h l (λ e. m (record { below = l; begins = e }))) [ inl o ↦ inr o | inr o ↦ inl o ]
]
  where
    either : (a b : ℕ) → (a ≤ b) ⊎ (b ≤ a)
    either a b = grind arith

pub id_order : (c d : Address) → IsCell c → IsCell d → ComesBefore c d → id_of c < id_of d
id_order c d h k o =
    let ec : 2 * (30 - c.level) ≡ 60 - 2 * c.level = omega arith in
    let ed : 2 * (30 - d.level) ≡ 60 - 2 * d.level = omega arith in
    let fc : 4 ^ (30 - c.level) ≡ 2 ^ (60 - 2 * c.level) = four (30 - c.level) ∙ ap (λ v. 2 ^ v) ec in
    let fd : 4 ^ (30 - d.level) ≡ 2 ^ (60 - 2 * d.level) = four (30 - d.level) ∙ ap (λ v. 2 ^ v) ed in
    omega (arith, o, ap (λ v. (c.path + 1) * v) fc, ap (λ v. d.path * v) fd, ap (λ v. c.path * v) (half_span c h), ap (λ v. d.path * v) (half_span d k), pow_pos (60 - 2 * c.level), pow_pos (60 - 2 * d.level))
