-- An edge that doesn't touch a box, and two points of the box.
use Rattle.std.proofs.Common.{◌≡◌, ℕ, ◌<◌, ◌≤◌, ◌⊎◌, inl, inr, refl, arith, Bool, true, false, ltb, cond, not, ◌&&◌}
use Rattle.std.proofs.lemmas.Bool.Decides.{nat_tests}
use Rattle.act_geom.specs.Inside.{differ}
use Rattle.act_geom.proofs.Lines.{Spot, gain, loss, west, east, at_first, at_first_down, at_second, at_second_down}

abbrev pub count_s : Spot → Spot → Spot → Bool
count_s p a b =
    cond (ltb p.y a.y) (cond (ltb p.y b.y) false (ltb (loss b a p) (gain b a p))) (cond (ltb p.y b.y) (ltb (loss a b p) (gain a b p)) false)

-- an end between the rows of p and q, right of the box
abbrev pub marked_s : ℕ → Spot → Spot → Spot → Bool
marked_s east p q v = ltb p.y v.y && (not (ltb q.y v.y) && ltb east v.x)

pub record InBox (lo hi p : Spot) : Type 0 where
  pub w : lo.x ≤ p.x
  pub e : p.x ≤ hi.x
  pub s : lo.y ≤ p.y
  pub n : p.y ≤ hi.y

-- the ways in which an edge misses a box
pub data Apart (lo hi a b : Spot) : Type 0 where
  IsWest : a.x < lo.x → b.x < lo.x → Apart lo hi a b
  IsEast : hi.x < a.x → hi.x < b.x → Apart lo hi a b
  IsSouth : a.y < lo.y → b.y < lo.y → Apart lo hi a b
  IsNorth : hi.y < a.y → hi.y < b.y → Apart lo hi a b
  OnLeft : ((p : Spot) → InBox lo hi p → loss a b p < gain a b p) → Apart lo hi a b
  OnRight : ((p : Spot) → InBox lo hi p → loss b a p < gain b a p) → Apart lo hi a b

by_parity : (aP aQ bP bQ cP cQ mA mB : Bool) → (aQ ≡ true → aP ≡ true) → (bQ ≡ true → bP ≡ true)
    → cP ≡ differ aP bP → cQ ≡ differ aQ bQ → mA ≡ (aP && not aQ) → mB ≡ (bP && not bQ) → differ cP cQ ≡ differ mA mB
by_parity aP aQ bP bQ cP cQ mA mB h k e1 e2 e3 e4 = grind arith

by_none : (cP cQ mA mB : Bool) → cP ≡ false → cQ ≡ false → mA ≡ false → mB ≡ false → differ cP cQ ≡ differ mA mB
by_none cP cQ mA mB e1 e2 e3 e4 = grind arith

all_count : (p a b : Spot) → (a.y ≤ p.y → p.y < b.y → loss a b p < gain a b p) → (b.y ≤ p.y → p.y < a.y → loss b a p < gain b a p)
    → count_s p a b ≡ differ (ltb p.y a.y) (ltb p.y b.y)
all_count p a b h k = grind (arith, nat_tests)

no_count : (p a b : Spot) → (a.y ≤ p.y → p.y < b.y → gain a b p ≤ loss a b p) → (b.y ≤ p.y → p.y < a.y → gain b a p ≤ loss b a p)
    → count_s p a b ≡ false
no_count p a b h k = grind (arith, nat_tests)

is_marked : (east : ℕ) (p q v : Spot) → (p.y < v.y → v.y ≤ q.y → east < v.x) → marked_s east p q v ≡ (ltb p.y v.y && not (ltb q.y v.y))
is_marked east p q v h = grind (arith, nat_tests)

not_marked : (east : ℕ) (p q v : Spot) → (p.y < v.y → v.y ≤ q.y → v.x ≤ east) → marked_s east p q v ≡ false
not_marked east p q v h = grind (arith, nat_tests)

rises : (p q v : Spot) → p.y ≤ q.y → ltb q.y v.y ≡ true → ltb p.y v.y ≡ true
rises p q v h t = grind (arith, nat_tests)

by_le : (m n : ℕ) (P : Type 0) → (m ≤ n → P) → (n ≤ m → P) → P
by_le m n P f g = elim (le_or m n) [ inl h ↦ f h | inr h ↦ g h ]
  where
    le_or : (m n : ℕ) → (m ≤ n) ⊎ (n ≤ m)
    le_or m n = grind arith

abbrev Same : (lo hi a b p q : Spot) → Type 0
Same lo hi a b p q = differ (count_s p a b) (count_s q a b) ≡ differ (marked_s hi.x p q a) (marked_s hi.x p q b)

all_between : (lo hi a b p q : Spot) → p.y ≤ q.y
    → ((r : Spot) → InBox lo hi r → a.y ≤ r.y → r.y < b.y → loss a b r < gain a b r)
    → ((r : Spot) → InBox lo hi r → b.y ≤ r.y → r.y < a.y → loss b a r < gain b a r)
    → InBox lo hi p → InBox lo hi q
    → (p.y < a.y → a.y ≤ q.y → hi.x < a.x) → (p.y < b.y → b.y ≤ q.y → hi.x < b.x) → Same lo hi a b p q
all_between lo hi a b p q le f g ip iq ma mb =
    by_parity _ _ _ _ _ _ _ _ (rises p q a le) (rises p q b le) (all_count p a b (f p ip) (g p ip)) (all_count q a b (f q iq) (g q iq)) (is_marked hi.x p q a ma) (is_marked hi.x p q b mb)

none_between : (lo hi a b p q : Spot)
    → ((r : Spot) → InBox lo hi r → a.y ≤ r.y → r.y < b.y → gain a b r ≤ loss a b r)
    → ((r : Spot) → InBox lo hi r → b.y ≤ r.y → r.y < a.y → gain b a r ≤ loss b a r)
    → InBox lo hi p → InBox lo hi q
    → (p.y < a.y → a.y ≤ q.y → a.x ≤ hi.x) → (p.y < b.y → b.y ≤ q.y → b.x ≤ hi.x) → Same lo hi a b p q
none_between lo hi a b p q f g ip iq ma mb =
    by_none _ _ _ _ (no_count p a b (f p ip) (g p ip)) (no_count q a b (f q iq) (g q iq)) (not_marked hi.x p q a ma) (not_marked hi.x p q b mb)

left_between : (lo hi a b p q : Spot) → p.y ≤ q.y → ((r : Spot) → InBox lo hi r → loss a b r < gain a b r) → InBox lo hi p → InBox lo hi q → Same lo hi a b p q
left_between lo hi a b p q le l ip iq =
    let corner : (y : ℕ) → p.y < y → y ≤ q.y → InBox lo hi (record { x = hi.x; y = y }) =
    λ y h k. record { w = omega arith; e = omega arith; s = omega arith; n = omega arith } in
    by_le a.y b.y (Same lo hi a b p q)
    (λ o. all_between lo hi a b p q le (λ r i _ _. l r i) (λ r i h k. absurd (omega arith)) ip iq
    (λ h k. at_first a b (record { x = hi.x; y = a.y }) refl (l _ (corner a.y h k)) o)
    (λ h k. at_second a b (record { x = hi.x; y = b.y }) refl (l _ (corner b.y h k)) o))
    (λ o. none_between lo hi a b p q (λ r i h k. absurd (omega arith)) (λ r i h k. omega (arith, l r i)) ip iq
    (λ h k. omega (arith, at_first_down a b (record { x = hi.x; y = a.y }) refl (l _ (corner a.y h k)) o))
    (λ h k. omega (arith, at_second_down a b (record { x = hi.x; y = b.y }) refl (l _ (corner b.y h k)) o)))

turned : (p a b : Spot) → count_s p a b ≡ count_s p b a
turned p a b = grind (arith, nat_tests)

differ_turned : (m n : Bool) → differ m n ≡ differ n m
differ_turned m n = grind arith

pub between : (lo hi a b p q : Spot) → Apart lo hi a b → p.y ≤ q.y → InBox lo hi p → InBox lo hi q → Same lo hi a b p q
between lo hi a b p q (IsWest h k) le ip iq =
    none_between lo hi a b p q (λ r i s t. west a b r (omega arith) (omega arith) s (omega arith)) (λ r i s t. west b a r (omega arith) (omega arith) s (omega arith)) ip iq (λ _ _. omega arith) (λ _ _. omega arith)
between lo hi a b p q (IsEast h k) le ip iq =
    all_between lo hi a b p q le (λ r i s t. east a b r (omega arith) (omega arith) s t) (λ r i s t. east b a r (omega arith) (omega arith) s t) ip iq (λ _ _. h) (λ _ _. k)
between lo hi a b p q (IsSouth h k) le ip iq =
    none_between lo hi a b p q (λ r i s t. absurd (omega arith)) (λ r i s t. absurd (omega arith)) ip iq (λ s t. absurd (omega arith)) (λ s t. absurd (omega arith))
between lo hi a b p q (IsNorth h k) le ip iq =
    none_between lo hi a b p q (λ r i s t. absurd (omega arith)) (λ r i s t. absurd (omega arith)) ip iq (λ s t. absurd (omega arith)) (λ s t. absurd (omega arith))
between lo hi a b p q (OnLeft l) le ip iq = left_between lo hi a b p q le l ip iq
between lo hi a b p q (OnRight l) le ip iq =
    let e = left_between lo hi b a p q le l ip iq in
    rw (turned p a b, turned q a b, differ_turned (marked_s hi.x p q a)) e
