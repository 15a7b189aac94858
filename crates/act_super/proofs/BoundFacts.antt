-- What bounds edges tells of points beside them.
use Rattle.std.proofs.Common.{◌≡◌, ℕ, zero, suc, Option, Some, None, IfSome, ◌+◌, ◌-◌, ◌<◌, ℤ, ◌≤ℤ◌, ◌<ℤ◌, ◌≤◌, refl, sym, ap, ◌∙◌, arith, Bool, true, false, ◌||◌, int_lt, int_le, List, [], ◌∷◌, ◌++◌, length, get_or, take, set}
use Rattle.std.proofs.lemmas.Int.{ints}
use Rattle.std.proofs.lemmas.List.{take_more, take_more_set}
use Rattle.std.proofs.lemmas.List.Elements.{All-head, All-tail}
use Rattle.std.specs.List.{All}
use Rattle.act_grid.specs.declared.Point.{Point}
use Rattle.act_grid.specs.declared.Hull.{Hull}
use Rattle.act_geom.specs.Inside.{counts, differ, is_above, is_odd_by}
use Rattle.act_geom.proofs.Parity.{odd_append, regroup}
use Rattle.act_geom.proofs.Passing.{passes_east, passes_west}
use Rattle.act_super.specs.declared.blocks.Side.{Side}
use Rattle.act_super.specs.declared.bounds.Bounds.{Bounds}
use Rattle.act_super.specs.Bounds.{IsBound, IsSideIn, TellEnds, edge_of, edges_in, ends_of, is_beside}

-- ---- ends
differ_none : (b : Bool) → differ b false ≡ b
differ_none true = refl
differ_none false = refl

differ_twice : (a b : Bool) → differ (differ a b) b ≡ a
differ_twice a b = grind arith

-- the parity of one item more
odd_one_more : {X : Type 0} (f : X → Bool) (xs : List X) (x : X) → is_odd_by f (xs ++ x ∷ []) ≡ differ (is_odd_by f xs) (f x)
odd_one_more f xs x = odd_append f xs (x ∷ []) ∙ ap (differ (is_odd_by f xs)) (differ_none (f x))

-- the parity of the items up to one more
pub odd_up : {X : Type 0} (f : X → Bool) (xs : List X) (i : ℕ) (d : X) (odd now : Bool) → i < length xs → now ≡ differ odd (f (get_or xs i d)) → odd ≡ is_odd_by f (take i xs)
    → now ≡ is_odd_by f (take (i + 1) xs)
odd_up f xs i d odd now h n same =
    n ∙ (ap (λ z. differ z (f (get_or xs i d))) same ∙ (sym (odd_one_more f (take i xs) (get_or xs i d)) ∙ ap (is_odd_by f) (sym (take_more xs i d h))))

-- the parity with one item more that is kept, and with one that leaves another out
pub put_kept : {X : Type 0} (f : X → Bool) (kept : List X) (n : ℕ) (x : X) (xs : List X) → n < length kept → is_odd_by f (take n kept) ≡ is_odd_by f xs
    → is_odd_by f (take (n + 1) (set kept n x)) ≡ is_odd_by f (xs ++ x ∷ [])
put_kept f kept n x xs h same =
    ap (is_odd_by f) (take_more_set kept n x h) ∙ (odd_one_more f (take n kept) x ∙ (ap (λ z. differ z (f x)) same ∙ sym (odd_one_more f xs x)))

pub put_left_out : {X : Type 0} (f : X → Bool) (kept : List X) (n : ℕ) (x : X) (xs : List X) → 0 < n → n ≤ length kept → get_or kept (n - 1) x ≡ x → is_odd_by f (take n kept) ≡ is_odd_by f xs
    → is_odd_by f (take (n - 1) kept) ≡ is_odd_by f (xs ++ x ∷ [])
put_left_out f kept n x xs some h last same =
    let more : n - 1 + 1 ≡ n = omega (arith, some) in
    let back : is_odd_by f (take (n - 1 + 1) kept) ≡ differ (is_odd_by f (take (n - 1) kept)) (f x) =
    ap (is_odd_by f) (take_more kept (n - 1) x (omega (arith, some, h)) ∙ ap (λ r. take (n - 1) kept ++ r ∷ []) last) ∙ odd_one_more f (take (n - 1) kept) x in
    sym (ap (λ z. differ z (f x)) back ∙ differ_twice (is_odd_by f (take (n - 1) kept)) (f x))
    ∙ (ap (λ z. differ z (f x)) (ap (λ k. is_odd_by f (take k kept)) more ∙ same) ∙ sym (odd_one_more f xs x))

-- ---- one edge
above_not : (y z : ℤ) → int_lt y z ≡ false → z ≤ℤ y
above_not y z h = grind (arith, ints)

above_is : (y z : ℤ) → int_lt y z ≡ true → y <ℤ z
above_is y z h = grind (arith, ints)

-- an edge both of whose ends are west of the point doesn't count
west_counts : (s : Side) (p : Point) → s.a.x ≤ℤ p.x → s.b.x ≤ℤ p.x → counts p (edge_of s) ≡ false
west_counts s p a b = by (int_lt p.y s.a.y) (int_lt p.y s.b.y) refl refl
  where
    by : (u v : Bool) → int_lt p.y s.a.y ≡ u → int_lt p.y s.b.y ≡ v → counts p (edge_of s) ≡ false
    by true true e f = rw (e, f) refl
    by false false e f = rw (e, f) refl
    by true false e f = rw (e, f) (passes_west s.b s.a p b a (above_not p.y s.b.y f) (above_is p.y s.a.y e))
    by false true e f = rw (e, f) (passes_west s.a s.b p a b (above_not p.y s.a.y e) (above_is p.y s.b.y f))

-- one both of whose ends are east of it counts where exactly one end lies above its row
east_counts : (s : Side) (p : Point) → p.x <ℤ s.a.x → p.x <ℤ s.b.x → counts p (edge_of s) ≡ differ (int_lt p.y s.a.y) (int_lt p.y s.b.y)
east_counts s p a b = by (int_lt p.y s.a.y) (int_lt p.y s.b.y) refl refl
  where
    by : (u v : Bool) → int_lt p.y s.a.y ≡ u → int_lt p.y s.b.y ≡ v → counts p (edge_of s) ≡ differ (int_lt p.y s.a.y) (int_lt p.y s.b.y)
    by true true e f = rw (e, f) refl
    by false false e f = rw (e, f) refl
    by true false e f = rw (e, f) (passes_east s.b s.a p b a (above_not p.y s.b.y f) (above_is p.y s.a.y e))
    by false true e f = rw (e, f) (passes_east s.a s.b p a b (above_not p.y s.a.y e) (above_is p.y s.b.y f))

-- one whose box lies above or below the point doesn't count
beside_counts : (f : Hull) (s : Side) (p : Point) → IsSideIn f s → is_beside f p ≡ true → counts p (edge_of s) ≡ false
beside_counts f s p i b = by (int_lt p.y f.lo.y) refl
  where
    below : (a b c : ℤ) → int_lt a b ≡ true → b ≤ℤ c → int_lt a c ≡ true
    below a b c h k = grind (arith, ints)

    past : (a b c : ℤ) → a ≤ℤ b → int_lt b c ≡ true → int_lt c a ≡ false
    past a b c h k = grind (arith, ints)

    high : (a b : Bool) → a ≡ false → (a || b) ≡ true → b ≡ true
    high true b e h = absurd (cc)
    high false b e h = h

    by : (low : Bool) → int_lt p.y f.lo.y ≡ low → counts p (edge_of s) ≡ false
    by true e =
        let a : int_lt p.y s.a.y ≡ true = below p.y f.lo.y s.a.y e i.from.south in
        let c : int_lt p.y s.b.y ≡ true = below p.y f.lo.y s.b.y e i.to.south in
        rw (a, c) refl
    by false e =
        let top : int_lt f.hi.y p.y ≡ true = high (int_lt p.y f.lo.y) (int_lt f.hi.y p.y) e b in
        let a : int_lt p.y s.a.y ≡ false = past s.a.y f.hi.y p.y i.from.north top in
        let c : int_lt p.y s.b.y ≡ false = past s.b.y f.hi.y p.y i.to.north top in
        rw (a, c) refl

-- ---- all edges
none_odd : (f : Hull) (p : Point) (sides : List Side) → ((s : Side) → IsSideIn f s → counts p (edge_of s) ≡ false) → All (IsSideIn f) sides → is_odd_by (counts p) (edges_in sides) ≡ false
none_odd f p [] none all = refl
none_odd f p (s ∷ sides) none all =
    let here : counts p (edge_of s) ≡ false = none s (All-head (IsSideIn f) s sides all) in
    ap (λ z. differ z (is_odd_by (counts p) (edges_in sides))) here ∙ none_odd f p sides none (All-tail (IsSideIn f) s sides all)

through : (x y z : ℤ) → x ≤ℤ y → int_le y z ≡ true → x ≤ℤ z
through x y z h k = grind (arith, ints)

after : (x y z : ℤ) → int_lt x y ≡ true → y ≤ℤ z → x <ℤ z
after x y z h k = grind (arith, ints)

pub beside_odd : (f : Hull) (p : Point) (sides : List Side) → All (IsSideIn f) sides → is_beside f p ≡ true → is_odd_by (counts p) (edges_in sides) ≡ false
beside_odd f p sides all b = none_odd f p sides (λ s i. beside_counts f s p i b) all

pub west_odd : (f : Hull) (p : Point) (sides : List Side) → All (IsSideIn f) sides → int_le f.hi.x p.x ≡ true → is_odd_by (counts p) (edges_in sides) ≡ false
west_odd f p sides all w = none_odd f p sides (λ s i. west_counts s p (through s.a.x f.hi.x p.x i.from.east w) (through s.b.x f.hi.x p.x i.to.east w)) all

-- east of the point the ends decide
pub east_odd : (f : Hull) (p : Point) (sides : List Side) → All (IsSideIn f) sides → int_lt p.x f.lo.x ≡ true → is_odd_by (counts p) (edges_in sides) ≡ is_odd_by (λ v. is_above v p) (ends_of sides)
east_odd f p [] all e = refl
east_odd f p (s ∷ sides) all e =
    let here = All-head (IsSideIn f) s sides all in
    ap (λ z. differ z (is_odd_by (counts p) (edges_in sides))) (east_counts s p (after p.x f.lo.x s.a.x e here.from.west) (after p.x f.lo.x s.b.x e here.to.west))
    ∙ (ap (differ (differ (int_lt p.y s.a.y) (int_lt p.y s.b.y))) (east_odd f p sides (All-tail (IsSideIn f) s sides all) e)
    ∙ sym (regroup (int_lt p.y s.a.y) (int_lt p.y s.b.y) (is_odd_by (λ v. is_above v p) (ends_of sides))))

pub east_told : (b : Bounds) (p : Point) (r : Option Bool) → int_lt p.x b.frame.lo.x ≡ true → IfSome r (λ odd. (ends : List Point) → TellEnds b.ends ends → odd ≡ is_odd_by (λ v. is_above v p) ends)
    → IfSome r (λ odd. (sides : List Side) → IsBound b sides → odd ≡ is_odd_by (counts p) (edges_in sides))
east_told b p None e told = tt
east_told b p (Some odd) e told = λ sides bound. told (ends_of sides) bound.told ∙ sym (east_odd b.frame p sides bound.framed e)

-- the ends of the edges up to one more
pub ends_more : (sides : List Side) (i : ℕ) (d : Side) → i < length sides → ends_of (take i sides) ++ (get_or sides i d).a ∷ ((get_or sides i d).b ∷ []) ≡ ends_of (take (i + 1) sides)
ends_more [] i d h = absurd (omega (arith, h))
ends_more (s ∷ sides) zero d h = refl
ends_more (s ∷ sides) (suc i) d h =
    let more : suc i + 1 ≡ suc (i + 1) = omega arith in
    rw more (ap (λ es. s.a ∷ (s.b ∷ es)) (ends_more sides i d (omega (arith, h))))
