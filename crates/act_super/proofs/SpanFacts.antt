-- The spans of cells, and the keys in them.
use Rattle.std.proofs.Common.{◌≡◌, ◌⊎◌, inl, inr, ℕ, zero, suc, ◌+◌, ◌-◌, ◌*◌, ◌/◌, ◌%◌, ◌^◌, ◌<◌, ◌≤◌, refl, sym, ap, ◌∙◌, subst, arith, pow-suc, mul-le-mul_right, Bool, true, false, cond, ◌&&◌, nat_le, nat_lt, int_le, List, [], ◌∷◌, ◌++◌, length, count_by, filter, take, drop, get_or, IsPermutation}
use Rattle.std.specs.List.{AllWithin}
use Rattle.std.proofs.lemmas.Bool.Decides.{nat_tests}
use Rattle.std.proofs.lemmas.Int.{ints}
use Rattle.std.proofs.lemmas.List.{take_more}
use Rattle.std.proofs.lemmas.List.Sorted.{sum_by-IsPermutation}
use Rattle.std.proofs.lemmas.List.Sums.{sum_by-append, sum_by-cons}
use Rattle.std.proofs.lemmas.Nat.{pow_pos, div-add-mod', mod_below, div_below, le-div, one_shl}
use Rattle.act_grid.specs.declared.Point.{Point}
use Rattle.act_grid.specs.declared.hull.Hull.{Hull}
use Rattle.act_grid.specs.Hull.{IsIn}
use Rattle.act_grid.specs.Cell.{Address, IsCell, IsPart, child_of, hull_of, id_of}
use Rattle.act_grid.proofs.CellFacts.{four, half_span, span_fits}
use Rattle.act_grid.proofs.CellOrder.{in_within, part_from_point, part_within}
use Rattle.act_super.specs.Choices.{StandFor, spans}
use Rattle.act_super.specs.Training.{holds}

-- 1 where it passes
abbrev one_if : Bool → ℕ
one_if b = cond b 1 0

cases : (b : Bool) → (b ≡ true) ⊎ (b ≡ false)
cases true = inl refl
cases false = inr refl

same_test : (a b : Bool) → (a ≡ true → b ≡ true) → (b ≡ true → a ≡ true) → a ≡ b
same_test a b f g = grind arith

record IsSpanned (c : Address) (key : ℕ) : Type 0 where
  pub low : c.path * 2 ^ (61 - 2 * c.level) ≤ key
  pub high : key < (c.path + 1) * 2 ^ (61 - 2 * c.level)

spanned : (c : Address) (key : ℕ) → spans c key ≡ true → IsSpanned c key
spanned c key e = let t = tests _ _ _ e in record { low = t.0; high = t.1 }
  where
    tests : (a b k : ℕ) → (nat_le a k && nat_lt k b) ≡ true → (a ≤ k) × (k < b)
    tests a b k e = (grind (arith, nat_tests), grind (arith, nat_tests))

spans_it : (c : Address) (key : ℕ) → IsSpanned c key → spans c key ≡ true
spans_it c key h = tests _ _ _ h.low h.high
  where
    tests : (a b k : ℕ) → a ≤ k → k < b → (nat_le a k && nat_lt k b) ≡ true
    tests a b k l h = grind (arith, nat_tests)

-- what a child spans its parent spans
pub span_goes_down : (c : Address) (q : ℕ) → IsCell c → c.level < 30 → q < 4 → (key : ℕ) → spans c key ≡ false → spans (child_of c q) key ≡ false
span_goes_down c q cell low four_q key e =
    elim (cases (spans (child_of c q) key)) [
      | inl s ↦
          let h = spanned (child_of c q) key s in
          let w = 2 ^ (61 - 2 * (c.level + 1)) in
          let n : 61 - 2 * c.level ≡ suc (suc (61 - 2 * (c.level + 1))) = omega arith in
          let wide : 2 ^ (61 - 2 * c.level) ≡ 4 * w = ap (λ v. 2 ^ v) n ∙ quadrupled (61 - 2 * (c.level + 1)) in
          let i = within c.path q w key four_q h.low h.high in
          let all : IsSpanned c key = record { low = subst (λ v. c.path * v ≤ key) (sym wide) i.0; high = subst (λ v. key < (c.path + 1) * v) (sym wide) i.1 } in
          absurd (cc (sym e ∙ spans_it c key all))
      | inr s ↦ s
    ]
  where
    quadrupled : (n : ℕ) → 2 ^ suc (suc n) ≡ 4 * 2 ^ n
    quadrupled n = omega (arith, pow-suc 2 (suc n), pow-suc 2 n)

    within : (p q w key : ℕ) → q < 4 → (p * 4 + q) * w ≤ key → key < (p * 4 + q + 1) * w → (p * (4 * w) ≤ key) × (key < (p + 1) * (4 * w))
    within p q w key h low high =
        let least : q + 1 ≤ 4 = omega arith in
        let most : (q + 1) * w ≤ 4 * w = mul-le-mul_right w least in
        (omega arith, omega arith)

-- the id of a cell of level 30 in terms of its path
last_id : (d : Address) → d.level ≡ 30 → id_of d ≡ 2 * d.path + 1
last_id d e = ap (λ l. d.path * 2 ^ (61 - 2 * l) + 2 ^ (60 - 2 * l)) e ∙ omega arith

span_width : (c : Address) → IsCell c → 2 ^ (61 - 2 * c.level) ≡ 2 * 4 ^ (30 - c.level)
span_width c cell =
    let e : 61 - 2 * c.level ≡ suc (2 * (30 - c.level)) = omega (arith, cell.deep) in
    ap (λ v. 2 ^ v) e ∙ pow-suc 2 (2 * (30 - c.level)) ∙ omega (arith, four (30 - c.level))

-- a number lies in the span of a quotient
quotient_low : (n k p : ℕ) → 0 < k → n / k ≡ p → (p * k ≤ n) × (n < (p + 1) * k)
quotient_low n k p h e =
    let sum : p * k + n % k ≡ n = ap (λ v. v * k + n % k) (sym e) ∙ div-add-mod' n k in
    let rest : n % k < k = mod_below n k h in
    (omega arith, omega arith)

quotient_is : (n k p : ℕ) → 0 < k → p * k ≤ n → n < (p + 1) * k → n / k ≡ p
quotient_is n k p h low high =
    let a : p ≤ n / k = le-div p n k h low in
    let b : n / k < p + 1 = div_below n k (p + 1) h high in
    omega arith

in_hull : (h : Hull) (p : Point) → IsIn h p → ((int_le h.lo.x p.x && int_le p.x h.hi.x) && (int_le h.lo.y p.y && int_le p.y h.hi.y)) ≡ true
in_hull h p i = grind (arith, ints)

hull_in : (h : Hull) (p : Point) → ((int_le h.lo.x p.x && int_le p.x h.hi.x) && (int_le h.lo.y p.y && int_le p.y h.hi.y)) ≡ true → IsIn h p
hull_in h p e = record { west = grind (arith, ints); east = grind (arith, ints); south = grind (arith, ints); north = grind (arith, ints) }

-- the key of a point is in the span of a cell exactly where the cell holds the point
pub key_of_point : (c d : Address) (p : Point) → IsCell c → IsCell d → d.level ≡ 30 → IsIn (hull_of d) p → spans c (id_of d) ≡ holds c p
key_of_point c d p cell leaf e i = same_test _ _ there back
  where
    k : ℕ
    k = 4 ^ (30 - c.level)

    wide : 2 ^ (61 - 2 * c.level) ≡ 2 * k
    wide = span_width c cell

    some : 0 < k
    some = omega (arith, four (30 - c.level), pow_pos (2 * (30 - c.level)))

    up : 30 - c.level ≡ d.level - c.level
    up = ap (λ l. l - c.level) (sym e)

    there : spans c (id_of d) ≡ true → holds c p ≡ true
    there s =
        let h = spanned c (id_of d) s in
        let low : c.path * (2 * k) ≤ 2 * d.path + 1 = subst (λ v. c.path * v ≤ 2 * d.path + 1) wide (subst (λ v. c.path * 2 ^ (61 - 2 * c.level) ≤ v) (last_id d e) h.low) in
        let high : 2 * d.path + 1 < (c.path + 1) * (2 * k) = subst (λ v. 2 * d.path + 1 < (c.path + 1) * v) wide (subst (λ v. v < (c.path + 1) * 2 ^ (61 - 2 * c.level)) (last_id d e) h.high) in
        let part : IsPart c d = record {
          below = omega (arith, cell.deep, e);
          begins = ap (λ v. d.path / 4 ^ v) (sym up) ∙ quotient_is d.path k c.path some (omega arith) (omega arith);
        } in
        let j = in_within (hull_of c) (hull_of d) p (part_within c d cell leaf part) i in
        in_hull _ _ j

    back : holds c p ≡ true → spans c (id_of d) ≡ true
    back s =
        let part = part_from_point c d p cell leaf (omega (arith, cell.deep, e)) (hull_in _ _ s) i in
        let q = quotient_low d.path k c.path some (ap (λ v. d.path / 4 ^ v) up ∙ part.begins) in
        let low : c.path * (2 * k) ≤ 2 * d.path + 1 = omega (arith, q.0) in
        let high : 2 * d.path + 1 < (c.path + 1) * (2 * k) = omega (arith, q.1) in
        spans_it c (id_of d) (record {
          low = subst (λ v. c.path * 2 ^ (61 - 2 * c.level) ≤ v) (sym (last_id d e)) (subst (λ v. c.path * v ≤ 2 * d.path + 1) (sym wide) low);
          high = subst (λ v. v < (c.path + 1) * 2 ^ (61 - 2 * c.level)) (sym (last_id d e)) (subst (λ v. 2 * d.path + 1 < (c.path + 1) * v) (sym wide) high);
        })

-- where the elements before a place pass a test and those from it on don't, the filter is what stands before it
pub front_is : {X : Type 0} (p : X → Bool) (xs : List X) (i : ℕ) → AllWithin (λ x. p x ≡ true) xs 0 i → AllWithin (λ x. p x ≡ false) xs i (length xs) → i ≤ length xs → take i xs ≡ filter p xs
front_is p [] zero front back h = refl
front_is p [] (suc i) front back h = absurd (omega arith)
front_is p (x ∷ xs) zero front back h =
    let out : p x ≡ false = back 0 x (omega arith) (omega arith) in
    let rest : take 0 xs ≡ filter p xs = front_is p xs zero (λ k d low high. absurd (omega arith)) (λ k d low high. back (suc k) d (omega arith) (omega arith)) (omega arith) in
    rw out rest
front_is p (x ∷ xs) (suc i) front back h =
    let here : p x ≡ true = front 0 x (omega arith) (omega arith) in
    let rest : take i xs ≡ filter p xs = front_is p xs i (λ k d low high. front (suc k) d (omega arith) (omega arith)) (λ k d low high. back (suc k) d (omega arith) (omega arith)) (omega arith) in
    rw here (ap (λ r. x ∷ r) rest)

-- and the other test leaves what stands from it on
pub back_is : {X : Type 0} (p q : X → Bool) → ((x : X) → p x ≡ true → q x ≡ false) → ((x : X) → p x ≡ false → q x ≡ true) → (xs : List X) (i : ℕ)
    → AllWithin (λ x. p x ≡ true) xs 0 i → AllWithin (λ x. p x ≡ false) xs i (length xs) → i ≤ length xs → drop i xs ≡ filter q xs
back_is p q off on [] zero front back h = refl
back_is p q off on [] (suc i) front back h = absurd (omega arith)
back_is p q off on (x ∷ xs) zero front back h =
    let here : q x ≡ true = on x (back 0 x (omega arith) (omega arith)) in
    let rest : drop 0 xs ≡ filter q xs = back_is p q off on xs zero (λ k d low high. absurd (omega arith)) (λ k d low high. back (suc k) d (omega arith) (omega arith)) (omega arith) in
    rw here (ap (λ r. x ∷ r) rest)
back_is p q off on (x ∷ xs) (suc i) front back h =
    let out : q x ≡ false = off x (front 0 x (omega arith) (omega arith)) in
    let rest : drop i xs ≡ filter q xs = back_is p q off on xs i (λ k d low high. front (suc k) d (omega arith) (omega arith)) (λ k d low high. back (suc k) d (omega arith) (omega arith)) (omega arith) in
    rw out rest

pub filter_both : {X : Type 0} (p q r : X → Bool) (xs : List X) → ((x : X) → (p x && q x) ≡ r x) → filter q (filter p xs) ≡ filter r xs
filter_both p q r [] h = refl
filter_both p q r (x ∷ xs) h = step (p x) refl (filter_both p q r xs h)
  where
    step : (a : Bool) → p x ≡ a → filter q (filter p xs) ≡ filter r xs → filter q (cond a (x ∷ filter p xs) (filter p xs)) ≡ cond (r x) (x ∷ filter r xs) (filter r xs)
    step true e rest =
        let same : q x ≡ r x = ap (λ b. b && q x) (sym e) ∙ h x in
        ap (λ b. cond b (x ∷ filter q (filter p xs)) (filter q (filter p xs))) same ∙ ap (λ xs. cond (r x) (x ∷ xs) xs) rest
    step false e rest =
        let none : r x ≡ false = sym (h x) ∙ ap (λ b. b && q x) e in
        rest ∙ ap (λ b. cond b (x ∷ filter r xs) (filter r xs)) (sym none)

-- the bounds of a span by the id and half the width
pub record HasSpan (c : Address) (low high : ℕ) : Type 0 where
  pub low_is : low ≡ c.path * 2 ^ (61 - 2 * c.level)
  pub high_is : high ≡ (c.path + 1) * 2 ^ (61 - 2 * c.level)
  pub fits : high < 2 ^ 64

pub span_by_id : (c : Address) (id half level : ℕ) → IsCell c → id ≡ id_of c → level ≡ c.level → half ≡ 1 * 2 ^ (60 - 2 * level) % 2 ^ 64 → HasSpan c (id - half) (id + half)
span_by_id c id half level cell e l f =
    let width : half ≡ 2 ^ (60 - 2 * c.level) = f ∙ ap (λ n. 1 * 2 ^ (60 - 2 * n) % 2 ^ 64) l ∙ one_shl (60 - 2 * c.level) 64 (omega arith) in
    let twice : 2 ^ (61 - 2 * c.level) ≡ 2 * 2 ^ (60 - 2 * c.level) = half_span c cell in
    let end : (c.path + 1) * 2 ^ (61 - 2 * c.level) ≤ 2 ^ 61 = span_fits c cell in
    let sum : (c.path + 1) * 2 ^ (61 - 2 * c.level) ≡ c.path * 2 ^ (61 - 2 * c.level) + 2 ^ (61 - 2 * c.level) = next c.path (2 ^ (61 - 2 * c.level)) in
    let high : id + half ≡ (c.path + 1) * 2 ^ (61 - 2 * c.level) = omega (arith, e) in
    record { low_is = omega (arith, e); high_is = high; fits = below (id + half) ((c.path + 1) * 2 ^ (61 - 2 * c.level)) high end }
  where
    next : (p w : ℕ) → (p + 1) * w ≡ p * w + w
    next p w = omega arith

    below : (a b : ℕ) → a ≡ b → b ≤ 2 ^ 61 → a < 2 ^ 64
    below a b e h = omega arith

pub spanned_is : (c : Address) (keys : List ℕ) (low high : ℕ) → HasSpan c low high → filter (λ key. nat_lt key high) (filter (λ key. nat_le low key) keys) ≡ filter (spans c) keys
spanned_is c keys low high h =
    filter_both (λ key. nat_le low key) (λ key. nat_lt key high) (spans c) keys
    (λ key. ap (λ n. nat_le n key && nat_lt key high) h.low_is ∙ ap (λ n. nat_le (c.path * 2 ^ (61 - 2 * c.level)) key && nat_lt key n) h.high_is)

-- one more key for one more point
pub stand_more : (keys : List ℕ) (sample : List Point) (i key : ℕ) (d : Address) (p : Point) → i < length sample → StandFor keys (take i sample)
    → IsCell d → d.level ≡ 30 → IsIn (hull_of d) (get_or sample i p) → key ≡ id_of d → StandFor (keys ++ key ∷ []) (take (i + 1) sample)
stand_more keys sample i key d p less stand leaf e at is = record { counts = more }
  where
    one : (c : Address) → IsCell c → spans c key ≡ holds c (get_or sample i p)
    one c cell = ap (spans c) is ∙ key_of_point c d (get_or sample i p) cell leaf e at

    more : (c : Address) → IsCell c → count_by (spans c) (keys ++ key ∷ []) ≡ count_by (holds c) (take (i + 1) sample)
    more c cell =
        let a = sum_by-append (λ k. one_if (spans c k)) keys (key ∷ []) in
        let b = sum_by-cons (λ k. one_if (spans c k)) key [] in
        let f = ap (λ ps. count_by (holds c) ps) (take_more sample i p less) in
        let g = sum_by-append (λ q. one_if (holds c q)) (take i sample) (get_or sample i p ∷ []) in
        let h = sum_by-cons (λ q. one_if (holds c q)) (get_or sample i p) [] in
        let same = ap one_if (one c cell) in
        omega (arith, a, b, f, g, h, same, stand.counts c cell)

-- the keys in another order
pub stand_moved : (keys moved : List ℕ) (sample : List Point) → IsPermutation keys moved → StandFor keys sample → StandFor moved sample
stand_moved keys moved sample m stand = record { counts = λ c cell. sum_by-IsPermutation (λ k. one_if (spans c k)) keys moved m ∙ stand.counts c cell }

pub stand_none : StandFor [] []
stand_none = record { counts = λ c cell. refl }
