-- Paths, ids and places of cells.
use Rattle.std.proofs.Common.{◌≡◌, ℕ, zero, suc, ◌+◌, ◌-◌, ◌*◌, ◌/◌, ◌%◌, ◌^◌, ◌<◌, ◌≤◌, ℤ, pos, ◌+ℤ◌, ◌-ℤ◌, ◌≤ℤ◌, refl, sym, ap, ◌∙◌, subst, arith, bit_and, lit<, pow-suc}
use Rattle.std.proofs.lemmas.Int.{ints}
use Rattle.std.proofs.lemmas.Nat.{pow_pos, pow-add, and_mask, shl-shr, shl_below, shl_whole, one_shl}
use Rattle.std.proofs.lemmas.Nat.Bits.{ones_shr}
use Rattle.std.proofs.Math.Nat.{pow-le-pow_right, mul-le-mul_right, mul_assoc, mul_comm}
use Rattle.act_grid.specs.declared.point.Point.{Point}
use Rattle.act_grid.specs.declared.hull.Hull.{Hull}
use Rattle.act_grid.specs.Hull.{IsIn}
use Rattle.act_grid.specs.Cell.{Address, IsCell, id_of, side_of, column, row, hull_of, first_entry, entries_filled}
use Rattle.act_grid.proofs.SpacedFacts.{row_more, column_below}

pub four : (n : ℕ) → 4 ^ n ≡ 2 ^ (2 * n)
four zero = refl
four (suc n) =
    let e : 2 * suc n ≡ 2 + 2 * n = omega arith in
    pow-suc 4 n ∙ ap (λ v. v * 4) (four n) ∙ omega (arith, ap (λ k. 2 ^ k) e, pow-add 2 2 (2 * n))

pub path_small : (c : Address) → IsCell c → c.path < 2 ^ (2 * c.level)
path_small c h = subst (λ v. c.path < v) (four c.level) h.short

pub path_below : (c : Address) → IsCell c → c.path < 2 ^ 60
path_below c h = omega (arith, path_small c h, pow-le-pow_right {n = 2} (lit< tt) {i = 2 * c.level} {j = 60} (omega (arith, h.deep)))

-- ---- ids

pub id_is : (c : Address) → IsCell c → c.path * 2 ^ (61 - 2 * c.level) % 2 ^ 64 + 1 * 2 ^ (60 - 2 * c.level) % 2 ^ 64 ≡ id_of c
id_is c h =
    let e : c.path * 2 ^ (61 - 2 * c.level) % 2 ^ 64 ≡ c.path * 2 ^ (61 - 2 * c.level) = shl_whole c.path (2 * c.level) (61 - 2 * c.level) 64 (path_small c h) (omega (arith, h.deep)) in
    let f : 1 * 2 ^ (60 - 2 * c.level) % 2 ^ 64 ≡ 2 ^ (60 - 2 * c.level) = one_shl (60 - 2 * c.level) 64 (omega arith) in
    cc

-- one more cell of the level has room
pub span_fits : (c : Address) → IsCell c → (c.path + 1) * 2 ^ (61 - 2 * c.level) ≤ 2 ^ 61
span_fits c h =
    let e : 2 * c.level + (61 - 2 * c.level) ≡ 61 = omega (arith, h.deep) in
    omega (arith, mul-le-mul_right (2 ^ (61 - 2 * c.level)) (path_small c h), pow-add 2 (2 * c.level) (61 - 2 * c.level), ap (λ k. 2 ^ k) e)

pub half_span : (c : Address) → IsCell c → 2 ^ (61 - 2 * c.level) ≡ 2 * 2 ^ (60 - 2 * c.level)
half_span c h =
    let e : 61 - 2 * c.level ≡ suc (60 - 2 * c.level) = omega (arith, h.deep) in
    ap (λ k. 2 ^ k) e ∙ pow-suc 2 (60 - 2 * c.level) ∙ mul_comm (2 ^ (60 - 2 * c.level)) 2

pub id_below : (c : Address) → IsCell c → id_of c < 2 ^ 61
id_below c h = omega (arith, span_fits c h, half_span c h, pow_pos (60 - 2 * c.level))

-- ---- places in a node

pub entries_are : (c : Address) (b : ℕ) → b ≤ c.level → c.level ≤ b + 4 → 256 / 2 ^ (2 * (c.level - b)) ≡ entries_filled c b
entries_are c b h k =
    let m = b + 4 - c.level in
    let n = c.level - b in
    let e : 2 * m + 2 * n ≡ 8 = omega arith in
    let f : 256 ≡ 2 ^ (2 * m) * 2 ^ (2 * n) = ap (λ v. 2 ^ v) (sym e) ∙ pow-add 2 (2 * m) (2 * n) in
    ap (λ v. v / 2 ^ (2 * n)) f ∙ shl-shr (2 ^ (2 * m)) (2 * n) ∙ sym (four m)

pub first_is : (c : Address) (b : ℕ) → b ≤ c.level → c.level ≤ b + 4 → bit_and c.path (1 * 2 ^ (2 * (c.level - b)) % 2 ^ 64 - 1) * (256 / 2 ^ (2 * (c.level - b))) ≡ first_entry c b
first_is c b h k =
    let n = c.level - b in
    let e : 1 * 2 ^ (2 * n) % 2 ^ 64 ≡ 2 ^ (2 * n) = one_shl (2 * n) 64 (omega arith) in
    let low : bit_and c.path (1 * 2 ^ (2 * n) % 2 ^ 64 - 1) ≡ c.path % 4 ^ n = ap (λ v. bit_and c.path (v - 1)) e ∙ and_mask c.path (2 * n) ∙ ap (λ v. c.path % v) (sym (four n)) in
    ap (λ v. v * (256 / 2 ^ (2 * n))) low ∙ ap (λ v. c.path % 4 ^ n * v) (entries_are c b h k)

-- ---- columns and rows

pub column_shifted : (level k path : ℕ) → column (level + k) (path * 4 ^ k) ≡ column level path * 2 ^ k
unfolding column
column_shifted level zero path =
    let e : level + 0 ≡ level = omega arith in
    let f : path * 1 ≡ path = omega arith in
    rw (e, f) (omega arith)
column_shifted level (suc k) path =
    let e : level + suc k ≡ suc (level + k) = omega arith in
    let f : path * 4 ^ suc k ≡ path * 4 ^ k * 4 = omega (arith, ap (λ v. path * v) (pow-suc 4 k)) in
    let rest : path * 4 ^ k * 4 / 4 ≡ path * 4 ^ k = omega arith in
    let low : path * 4 ^ k * 4 % 2 ≡ 0 = omega arith in
    ap (λ v. column v (path * 4 ^ suc k)) e ∙ ap (column (suc (level + k))) f
    ∙ ap (λ v. column (level + k) v * 2 + path * 4 ^ k * 4 % 2) rest ∙ ap (λ v. column (level + k) (path * 4 ^ k) * 2 + v) low
    ∙ ap (λ v. v * 2 + 0) (column_shifted level k path) ∙ omega (arith, ap (λ v. column level path * v) (pow-suc 2 k))

pub row_shifted : (level k path : ℕ) → row (level + k) (path * 4 ^ k) ≡ row level path * 2 ^ k
row_shifted level zero path =
    let e : level + 0 ≡ level = omega arith in
    let f : path * 1 ≡ path = omega arith in
    rw (e, f) (omega arith)
row_shifted level (suc k) path =
    let e : level + suc k ≡ suc (level + k) = omega arith in
    let f : path * 4 ^ suc k ≡ path * 4 ^ k * 4 = omega (arith, ap (λ v. path * v) (pow-suc 4 k)) in
    let rest : path * 4 ^ k * 4 / 4 ≡ path * 4 ^ k = omega arith in
    let low : path * 4 ^ k * 4 / 2 % 2 ≡ 0 = omega arith in
    ap (λ v. row v (path * 4 ^ suc k)) e ∙ ap (row (suc (level + k))) f ∙ row_more (level + k) (path * 4 ^ k * 4)
    ∙ ap (λ v. row (level + k) v * 2 + path * 4 ^ k * 4 / 2 % 2) rest ∙ ap (λ v. row (level + k) (path * 4 ^ k) * 2 + v) low
    ∙ ap (λ v. v * 2 + 0) (row_shifted level k path) ∙ omega (arith, ap (λ v. row level path * v) (pow-suc 2 k))

-- the path moved to the top of 64 bits, in two steps
pub top_is : (c : Address) → IsCell c → c.path * 2 ^ (60 - 2 * c.level) % 2 ^ 64 * 2 ^ 4 % 2 ^ 64 ≡ c.path * 4 ^ (32 - c.level)
top_is c h =
    let l = 2 * c.level in
    let all : l + (60 - l) ≡ 60 = omega (arith, h.deep) in
    let small : c.path * 2 ^ (60 - l) < 2 ^ 60 = subst (λ k. c.path * 2 ^ (60 - l) < 2 ^ k) all (shl_below c.path l (60 - l) (path_small c h)) in
    let one : c.path * 2 ^ (60 - l) % 2 ^ 64 ≡ c.path * 2 ^ (60 - l) = shl_whole c.path l (60 - l) 64 (path_small c h) (omega (arith, h.deep)) in
    let two : c.path * 2 ^ (60 - l) * 2 ^ 4 % 2 ^ 64 ≡ c.path * 2 ^ (60 - l) * 2 ^ 4 = shl_whole (c.path * 2 ^ (60 - l)) 60 4 64 small (omega arith) in
    let e : 2 * (32 - c.level) ≡ 60 - l + 4 = omega (arith, h.deep) in
    ap (λ v. v * 2 ^ 4 % 2 ^ 64) one ∙ two ∙ mul_assoc c.path (2 ^ (60 - l)) (2 ^ 4) ∙ ap (λ v. c.path * v) (sym (pow-add 2 (60 - l) 4) ∙ ap (λ k. 2 ^ k) (sym e) ∙ sym (four (32 - c.level)))

pub column_at_top : (c : Address) (z : ℕ) → IsCell c → z ≡ c.path * 4 ^ (32 - c.level) → column 32 z ≡ column c.level c.path * side_of c
column_at_top c z h e =
    let l : c.level + (32 - c.level) ≡ 32 = omega (arith, h.deep) in
    ap (column 32) e ∙ ap (λ k. column k (c.path * 4 ^ (32 - c.level))) (sym l) ∙ column_shifted c.level (32 - c.level) c.path

pub row_at_top : (c : Address) (z : ℕ) → IsCell c → z ≡ c.path * 4 ^ (32 - c.level) → row 32 z ≡ row c.level c.path * side_of c
row_at_top c z h e =
    let l : c.level + (32 - c.level) ≡ 32 = omega (arith, h.deep) in
    ap (row 32) e ∙ ap (λ k. row k (c.path * 4 ^ (32 - c.level))) (sym l) ∙ row_shifted c.level (32 - c.level) c.path

-- a column and its side lie in the domain
pub column_fits : (level path : ℕ) → level ≤ 30 → column level path * 2 ^ (32 - level) + 2 ^ (32 - level) ≤ 2 ^ 32
column_fits level path h =
    let e : level + (32 - level) ≡ 32 = omega arith in
    omega (arith, mul-le-mul_right (2 ^ (32 - level)) (column_below level path), pow-add 2 level (32 - level), ap (λ k. 2 ^ k) e)

pub reach_is : (level : ℕ) → level ≤ 30 → 4294967295 / 2 ^ level ≡ 2 ^ (32 - level) - 1
reach_is level h = ones_shr 32 level (omega arith)

-- the last two levels of 32
pub column_last : (n z : ℕ) → column (suc (suc n)) z ≡ column n (z / 16) * 4 + (z / 4 % 2 * 2 + z % 2)
unfolding column
column_last n z =
    let e : z / 4 / 4 ≡ z / 16 = omega arith in
    ap (λ v. (column n v * 2 + z / 4 % 2) * 2 + z % 2) e ∙ omega arith

pub row_last : (n z : ℕ) → row (suc (suc n)) z ≡ row n (z / 16) * 4 + (z / 8 % 2 * 2 + z / 2 % 2)
row_last n z =
    let e : z / 4 / 4 ≡ z / 16 = omega arith in
    let f : z / 4 / 2 ≡ z / 8 = omega arith in
    row_more (suc n) z ∙ ap (λ v. v * 2 + z / 2 % 2) (row_more n (z / 4)) ∙ ap (λ v. (row n v * 2 + z / 4 / 2 % 2) * 2 + z / 2 % 2) e
    ∙ ap (λ v. (row n (z / 16) * 2 + v % 2) * 2 + z / 2 % 2) f ∙ omega arith

-- the leaf of a point
pub leaf_holds : (p : Point) (x y z : ℕ) → pos x ≡ p.x +ℤ pos (2 ^ 31) → pos y ≡ p.y +ℤ pos (2 ^ 31) → column 32 z ≡ x → row 32 z ≡ y
    → IsIn (hull_of (record { level = 30; path = z / 16 })) p
leaf_holds p x y z ex ey cx cy =
    let u : x ≡ column 30 (z / 16) * 4 + (z / 4 % 2 * 2 + z % 2) = sym cx ∙ column_last 30 z in
    let v : y ≡ row 30 (z / 16) * 4 + (z / 8 % 2 * 2 + z / 2 % 2) = sym cy ∙ row_last 30 z in
    record { west = low p.x x _ _ ex u; east = high p.x x _ _ ex u (omega arith); south = low p.y y _ _ ey v; north = high p.y y _ _ ey v (omega arith) }
  where
    low : (p : ℤ) (x c r : ℕ) → pos x ≡ p +ℤ pos (2 ^ 31) → x ≡ c * 4 + r → (pos (c * 4) -ℤ pos (2 ^ 31)) ≤ℤ p
    low p x c r e h = omega (arith, ints)

    high : (p : ℤ) (x c r : ℕ) → pos x ≡ p +ℤ pos (2 ^ 31) → x ≡ c * 4 + r → r ≤ 3 → p ≤ℤ (pos (c * 4) -ℤ pos (2 ^ 31) +ℤ pos 3)
    high p x c r e h k = omega (arith, ints)

-- the box of a cell by its corners
pub hull_is : (c : Address) (w s r : ℕ) (x0 y0 x1 y1 : ℤ) → IsCell c → w ≡ column c.level c.path * side_of c → s ≡ row c.level c.path * side_of c → r ≡ side_of c - 1
    → x0 +ℤ pos (2 ^ 31) ≡ pos w → y0 +ℤ pos (2 ^ 31) ≡ pos s → x1 +ℤ pos (2 ^ 31) ≡ pos (w + r) → y1 +ℤ pos (2 ^ 31) ≡ pos (s + r)
    → hull_of c ≡ record { lo = record { x = x0; y = y0 }; hi = record { x = x1; y = y1 } }
hull_is c w s r x0 y0 x1 y1 h ew es er e1 e2 e3 e4 =
    same (low x0 w _ e1 ew) (low y0 s _ e2 es) (high x1 w _ r _ e3 ew er) (high y1 s _ r _ e4 es er)
  where
    low : (x : ℤ) (w m : ℕ) → x +ℤ pos (2 ^ 31) ≡ pos w → w ≡ m → pos m -ℤ pos (2 ^ 31) ≡ x
    low x w m e f = omega (arith, ints)

    high : (x : ℤ) (w m r t : ℕ) → x +ℤ pos (2 ^ 31) ≡ pos (w + r) → w ≡ m → r ≡ t → pos m -ℤ pos (2 ^ 31) +ℤ pos t ≡ x
    high x w m r t e f g = omega (arith, ints)

    same : {a b c d a' b' c' d' : ℤ} → a ≡ a' → b ≡ b' → c ≡ c' → d ≡ d'
        → ◌≡◌ {A = Hull} (record { lo = record { x = a; y = b }; hi = record { x = c; y = d } }) (record { lo = record { x = a'; y = b' }; hi = record { x = c'; y = d' } })
    same e1 e2 e3 e4 = cc

pub id_above : (c : Address) → 0 < id_of c
id_above c = omega (arith, pow_pos (60 - 2 * c.level))
