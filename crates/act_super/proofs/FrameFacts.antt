-- A shape is Outside on each cell that shares no point with a box around its vertices.
use Rattle.std.proofs.Common.{◌≡◌, ℕ, ◌+◌, ◌-◌, ◌<◌, ℤ, pos, ◌+ℤ◌, ◌-ℤ◌, ◌≤ℤ◌, ◌⊎◌, inl, inr, refl, sym, ap, ◌∙◌, arith, Bool, true, false, cond, not, ◌&&◌, ◌||◌, int_lt, List, [], ◌∷◌, length, get_or, subst, Some}
use Rattle.std.proofs.lemmas.Int.{ints}
use Rattle.std.proofs.lemmas.List.Elements.{All-nil, All-cons, All-head, All-tail, All-append, AllWithin-more}
use Rattle.std.proofs.lemmas.List.{get_or_default}
use Rattle.std.proofs.lemmas.Option.{get_or_from_slice_get}
use Rattle.std.specs.List.{All, AllWithin, list_any, slice_get}
use Rattle.act_grid.specs.declared.Point.{Point}
use Rattle.act_grid.specs.declared.Hull.{Hull}
use Rattle.act_grid.specs.Hull.{IsIn}
use Rattle.act_grid.specs.Cell.{Address, hull_of, side_of}
use Rattle.act_geom.specs.declared.class.Class.TheVariants.{Inside, Outside, Mixed}
use Rattle.act_geom.specs.Edges.{Edge, edges_to, ring_edges, edges_of}
use Rattle.act_geom.specs.Inside.{counts, is_odd_by, is_inside}
use Rattle.act_geom.specs.Touch.{touches_hull, all_left, Misses}
use Rattle.act_geom.specs.Class.{class_on}
use Rattle.act_geom.proofs.OneAnswer.{one_answer}
use Rattle.act_cover.specs.Covering.{class_at}
use Rattle.act_super.specs.Frames.{IsFrame, IsWider, is_apart}

-- both ends lie in the box
pub record IsEdgeIn (f : Hull) (e : Edge) : Type 0 where
  pub start : IsIn f e.a
  pub end : IsIn f e.b

edges_to_in : (f : Hull) (first : Point) (path : List Point) → IsIn f first → All (IsIn f) path → All (IsEdgeIn f) (edges_to first path)
edges_to_in f first [] one all = All-nil (IsEdgeIn f)
edges_to_in f first (a ∷ []) one all = All-cons (IsEdgeIn f) _ [] (record { start = All-head (IsIn f) a [] all; end = one }) (All-nil (IsEdgeIn f))
edges_to_in f first (a ∷ (b ∷ rest)) one all =
    let tail = All-tail (IsIn f) a (b ∷ rest) all in
    All-cons (IsEdgeIn f) _ (edges_to first (b ∷ rest)) (record { start = All-head (IsIn f) a (b ∷ rest) all; end = All-head (IsIn f) b rest tail }) (edges_to_in f first (b ∷ rest) one tail)

ring_in : (f : Hull) (ring : List Point) → All (IsIn f) ring → All (IsEdgeIn f) (ring_edges ring)
ring_in f [] all = All-nil (IsEdgeIn f)
ring_in f (a ∷ rest) all = edges_to_in f a (a ∷ rest) (All-head (IsIn f) a rest all) all

edges_in : (f : Hull) (rings : List (List Point)) → IsFrame f rings → All (IsEdgeIn f) (edges_of rings)
edges_in f [] all = All-nil (IsEdgeIn f)
edges_in f (ring ∷ rest) all =
    All-append (IsEdgeIn f) (ring_edges ring) (edges_of rest) (ring_in f ring (All-head (λ r. All (IsIn f) r) ring rest all)) (edges_in f rest (All-tail (λ r. All (IsIn f) r) ring rest all))

below : (a b c : ℤ) → int_lt a b ≡ true → b ≤ℤ c → int_lt a c ≡ true
below a b c h k = grind (arith, ints)

above : (a b c : ℤ) → int_lt b c ≡ true → a ≤ℤ b → int_lt a c ≡ true
above a b c h k = grind (arith, ints)

no_less : (a b : ℤ) → a ≤ℤ b → int_lt b a ≡ false
no_less a b h = grind (arith, ints)

at_least : (a b : ℤ) → int_lt b a ≡ false → a ≤ℤ b
at_least a b h = grind (arith, ints)

at_most : (a b : ℤ) → int_lt a b ≡ true → a ≤ℤ b
at_most a b h = grind (arith, ints)

past : (a b c : ℤ) → a ≤ℤ b → b ≤ℤ c → int_lt c a ≡ false
past a b c h k = grind (arith, ints)

-- no edge counts for a point below the box, and none for one at its top or higher
pub counts_low : (f : Hull) (p : Point) (e : Edge) → int_lt p.y f.lo.y ≡ true → IsEdgeIn f e → counts p e ≡ false
counts_low f p e h i =
    let a : int_lt p.y e.a.y ≡ true = below p.y f.lo.y e.a.y h i.start.south in
    let b : int_lt p.y e.b.y ≡ true = below p.y f.lo.y e.b.y h i.end.south in
    rw (a, b) refl

pub counts_high : (f : Hull) (p : Point) (e : Edge) → int_lt f.hi.y p.y ≡ true → IsEdgeIn f e → counts p e ≡ false
counts_high f p e h i =
    let top : f.hi.y ≤ℤ p.y = at_most f.hi.y p.y h in
    let a : int_lt p.y e.a.y ≡ false = past e.a.y f.hi.y p.y i.start.north top in
    let b : int_lt p.y e.b.y ≡ false = past e.b.y f.hi.y p.y i.end.north top in
    rw (a, b) refl

pub odd_none : (g : Edge → Bool) (edges : List Edge) → All (λ e. g e ≡ false) edges → is_odd_by g edges ≡ false
odd_none g [] all = refl
odd_none g (e ∷ edges) all =
    let here : g e ≡ false = All-head (λ e. g e ≡ false) e edges all in
    rw here (odd_none g edges (All-tail (λ e. g e ≡ false) e edges all))

pub any_none : (g : Edge → Bool) (edges : List Edge) → All (λ e. g e ≡ false) edges → list_any g edges ≡ false
any_none g [] all = refl
any_none g (e ∷ edges) all =
    let here : g e ≡ false = All-head (λ e. g e ≡ false) e edges all in
    rw here (any_none g edges (All-tail (λ e. g e ≡ false) e edges all))

pub each : (P Q : Edge → Type 0) (edges : List Edge) → ((e : Edge) → P e → Q e) → All P edges → All Q edges
each P Q edges h all n d l = h _ (all n d l)

-- on one side of the box
sides : (a b c d : Bool) → ((a || b) || (c || d)) ≡ true → ((a ≡ true) ⊎ (b ≡ true)) ⊎ ((c ≡ true) ⊎ (d ≡ true))
sides true b c d h = inl (inl refl)
sides false true c d h = inl (inr refl)
sides false false true d h = inr (inl refl)
sides false false false true h = inr (inr refl)
sides false false false false h = absurd (cc)

meets_none : (w1 w2 e1 e2 s1 s2 n1 n2 rest : Bool) → (((w1 && w2) || (e1 && e2)) || ((s1 && s2) || (n1 && n2))) ≡ true
    → (((not (w1 && w2) && not (e1 && e2)) && (not (s1 && s2) && not (n1 && n2))) && rest) ≡ false
meets_none w1 w2 e1 e2 s1 s2 n1 n2 rest h = grind arith

pub touch_apart : (f h : Hull) (e : Edge) → is_apart f h ≡ true → IsEdgeIn f e → touches_hull h e ≡ false
touch_apart f h e a i =
    meets_none (int_lt e.a.x h.lo.x) (int_lt e.b.x h.lo.x) (int_lt h.hi.x e.a.x) (int_lt h.hi.x e.b.x) (int_lt e.a.y h.lo.y) (int_lt e.b.y h.lo.y) (int_lt h.hi.y e.a.y) (int_lt h.hi.y e.b.y) (not (all_left h e.a e.b || all_left h e.b e.a))
    (by_side (sides (int_lt f.hi.x h.lo.x) (int_lt h.hi.x f.lo.x) (int_lt f.hi.y h.lo.y) (int_lt h.hi.y f.lo.y) a))
  where
    one : (w1 w2 e s n : Bool) → w1 ≡ true → w2 ≡ true → (((w1 && w2) || e) || (s || n)) ≡ true
    one w1 w2 e s n h k = grind arith

    two : (w e1 e2 s n : Bool) → e1 ≡ true → e2 ≡ true → ((w || (e1 && e2)) || (s || n)) ≡ true
    two w e1 e2 s n h k = grind arith

    three : (w e s1 s2 n : Bool) → s1 ≡ true → s2 ≡ true → ((w || e) || ((s1 && s2) || n)) ≡ true
    three w e s1 s2 n h k = grind arith

    four : (w e s n1 n2 : Bool) → n1 ≡ true → n2 ≡ true → ((w || e) || (s || (n1 && n2))) ≡ true
    four w e s n1 n2 h k = grind arith

    by_side : ((int_lt f.hi.x h.lo.x ≡ true) ⊎ (int_lt h.hi.x f.lo.x ≡ true)) ⊎ ((int_lt f.hi.y h.lo.y ≡ true) ⊎ (int_lt h.hi.y f.lo.y ≡ true))
        → (((int_lt e.a.x h.lo.x && int_lt e.b.x h.lo.x) || (int_lt h.hi.x e.a.x && int_lt h.hi.x e.b.x)) || ((int_lt e.a.y h.lo.y && int_lt e.b.y h.lo.y) || (int_lt h.hi.y e.a.y && int_lt h.hi.y e.b.y))) ≡ true
    by_side (inl (inl w)) = one (int_lt e.a.x h.lo.x) (int_lt e.b.x h.lo.x) (int_lt h.hi.x e.a.x && int_lt h.hi.x e.b.x) (int_lt e.a.y h.lo.y && int_lt e.b.y h.lo.y) (int_lt h.hi.y e.a.y && int_lt h.hi.y e.b.y) (above e.a.x f.hi.x h.lo.x w i.start.east) (above e.b.x f.hi.x h.lo.x w i.end.east)
    by_side (inl (inr w)) = two (int_lt e.a.x h.lo.x && int_lt e.b.x h.lo.x) (int_lt h.hi.x e.a.x) (int_lt h.hi.x e.b.x) (int_lt e.a.y h.lo.y && int_lt e.b.y h.lo.y) (int_lt h.hi.y e.a.y && int_lt h.hi.y e.b.y) (below h.hi.x f.lo.x e.a.x w i.start.west) (below h.hi.x f.lo.x e.b.x w i.end.west)
    by_side (inr (inl w)) = three (int_lt e.a.x h.lo.x && int_lt e.b.x h.lo.x) (int_lt h.hi.x e.a.x && int_lt h.hi.x e.b.x) (int_lt e.a.y h.lo.y) (int_lt e.b.y h.lo.y) (int_lt h.hi.y e.a.y && int_lt h.hi.y e.b.y) (above e.a.y f.hi.y h.lo.y w i.start.north) (above e.b.y f.hi.y h.lo.y w i.end.north)
    by_side (inr (inr w)) = four (int_lt e.a.x h.lo.x && int_lt e.b.x h.lo.x) (int_lt h.hi.x e.a.x && int_lt h.hi.x e.b.x) (int_lt e.a.y h.lo.y && int_lt e.b.y h.lo.y) (int_lt h.hi.y e.a.y) (int_lt h.hi.y e.b.y) (below h.hi.y f.lo.y e.a.y w i.start.south) (below h.hi.y f.lo.y e.b.y w i.end.south)

low_outside : (f : Hull) (rings : List (List Point)) (p : Point) → IsFrame f rings → int_lt p.y f.lo.y ≡ true → is_inside rings p ≡ false
low_outside f rings p frame h = odd_none (counts p) (edges_of rings) (each (IsEdgeIn f) (λ e. counts p e ≡ false) (edges_of rings) (λ e i. counts_low f p e h i) (edges_in f rings frame))

high_outside : (f : Hull) (rings : List (List Point)) (p : Point) → IsFrame f rings → int_lt f.hi.y p.y ≡ true → is_inside rings p ≡ false
high_outside f rings p frame h = odd_none (counts p) (edges_of rings) (each (IsEdgeIn f) (λ e. counts p e ≡ false) (edges_of rings) (λ e i. counts_high f p e h i) (edges_in f rings frame))

misses_apart : (f h : Hull) (rings : List (List Point)) → IsFrame f rings → is_apart f h ≡ true → Misses h rings
misses_apart f h rings frame a = each (IsEdgeIn f) (λ e. touches_hull h e ≡ false) (edges_of rings) (λ e i. touch_apart f h e a i) (edges_in f rings frame)

-- a point west or east of the box has the answer of a point below it, in the same column
column_outside : (f : Hull) (rings : List (List Point)) (p : Point) → IsFrame f rings → (int_lt f.hi.x p.x || int_lt p.x f.lo.x) ≡ true → is_inside rings p ≡ false
column_outside f rings p frame h = by_row (int_lt p.y f.lo.y) refl
  where
    apart : (a b c d : Bool) → (a || b) ≡ true → ((a || b) || (c || d)) ≡ true
    apart a b c d h = grind arith

    fore : (y : ℤ) → int_lt (y -ℤ pos 1) y ≡ true
    fore y = grind (arith, ints)

    same : (x : ℤ) → x ≤ℤ x
    same x = grind (arith, ints)

    under : (y z : ℤ) → y ≤ℤ z → (y -ℤ pos 1) ≤ℤ z
    under y z h = grind (arith, ints)

    by_row : (b : Bool) → int_lt p.y f.lo.y ≡ b → is_inside rings p ≡ false
    by_row true e = low_outside f rings p frame e
    by_row false e =
        let q : Point = record { x = p.x; y = f.lo.y -ℤ pos 1 } in
        let k : Hull = record { lo = q; hi = p } in
        let tall : (f.lo.y -ℤ pos 1) ≤ℤ p.y = under f.lo.y p.y (at_least f.lo.y p.y e) in
        let a : is_apart f k ≡ true = apart (int_lt f.hi.x p.x) (int_lt p.x f.lo.x) (int_lt f.hi.y (f.lo.y -ℤ pos 1)) (int_lt p.y f.lo.y) h in
        one_answer k rings p q (misses_apart f k rings frame a)
        (record { west = same p.x; east = same p.x; south = tall; north = same p.y })
        (record { west = same p.x; east = same p.x; south = same (f.lo.y -ℤ pos 1); north = tall })
        ∙ low_outside f rings q frame (fore f.lo.y)

-- a point outside of the box is outside of the shape
pub point_outside : (f : Hull) (rings : List (List Point)) (p : Point) → IsFrame f rings → is_apart f (record { lo = p; hi = p }) ≡ true → is_inside rings p ≡ false
point_outside f rings p frame a = by_side (sides (int_lt f.hi.x p.x) (int_lt p.x f.lo.x) (int_lt f.hi.y p.y) (int_lt p.y f.lo.y) a)
  where
    or_right : (a : Bool) → (a || true) ≡ true
    or_right true = refl
    or_right false = refl

    by_side : ((int_lt f.hi.x p.x ≡ true) ⊎ (int_lt p.x f.lo.x ≡ true)) ⊎ ((int_lt f.hi.y p.y ≡ true) ⊎ (int_lt p.y f.lo.y ≡ true)) → is_inside rings p ≡ false
    by_side (inl (inl w)) = column_outside f rings p frame (rw w refl)
    by_side (inl (inr w)) = column_outside f rings p frame (rw w (or_right (int_lt f.hi.x p.x)))
    by_side (inr (inl w)) = high_outside f rings p frame w
    by_side (inr (inr w)) = low_outside f rings p frame w

outside_is : (rings : List (List Point)) (h : Hull) → list_any (touches_hull h) (edges_of rings) ≡ false → is_inside rings h.lo ≡ false → class_on rings h ≡ Outside
outside_is rings h t s = ap (λ b. cond b Mixed (cond (is_inside rings h.lo) Inside Outside)) t ∙ ap (λ b. cond b Inside Outside) s

apart_outside : (f h : Hull) (rings : List (List Point)) → IsFrame f rings → h.lo.x ≤ℤ h.hi.x → h.lo.y ≤ℤ h.hi.y → is_apart f h ≡ true → class_on rings h ≡ Outside
apart_outside f h rings frame wide tall a =
    outside_is rings h (any_none (touches_hull h) (edges_of rings) (misses_apart f h rings frame a))
    (by_side (sides (int_lt f.hi.x h.lo.x) (int_lt h.hi.x f.lo.x) (int_lt f.hi.y h.lo.y) (int_lt h.hi.y f.lo.y) a))
  where
    or_right : (a : Bool) → (a || true) ≡ true
    or_right true = refl
    or_right false = refl

    by_side : ((int_lt f.hi.x h.lo.x ≡ true) ⊎ (int_lt h.hi.x f.lo.x ≡ true)) ⊎ ((int_lt f.hi.y h.lo.y ≡ true) ⊎ (int_lt h.hi.y f.lo.y ≡ true)) → is_inside rings h.lo ≡ false
    by_side (inl (inl w)) = column_outside f rings h.lo frame (rw w refl)
    by_side (inl (inr w)) =
        let west : int_lt h.lo.x f.lo.x ≡ true = above h.lo.x h.hi.x f.lo.x w wide in
        column_outside f rings h.lo frame (rw west (or_right (int_lt f.hi.x h.lo.x)))
    by_side (inr (inl w)) = high_outside f rings h.lo frame w
    by_side (inr (inr w)) = low_outside f rings h.lo frame (above h.lo.y h.hi.y f.lo.y w tall)

more : (x : ℤ) (n : ℕ) → x ≤ℤ (x +ℤ pos n)
more x n = omega (arith, ints)

pub frame_outside : (f : Hull) (rings : List (List Point)) (c : Address) → IsFrame f rings → is_apart f (hull_of c) ≡ true → class_at rings c ≡ Outside
unfolding class_at
frame_outside f rings c frame a = apart_outside f (hull_of c) rings frame (more (hull_of c).lo.x (side_of c - 1)) (more (hull_of c).lo.y (side_of c - 1)) a

pub class_is : (rings : List (List Point)) (c : Address) → class_on rings (hull_of c) ≡ class_at rings c
unfolding class_at
class_is rings c = refl

same_at : (x : ℤ) → x ≤ℤ x
same_at x = grind (arith, ints)

through : (x y z : ℤ) → x ≤ℤ y → y ≤ℤ z → x ≤ℤ z
through x y z h k = grind (arith, ints)

pub wider_same : (f : Hull) → IsWider f f
wider_same f = record { west = same_at f.lo.x; east = same_at f.hi.x; south = same_at f.lo.y; north = same_at f.hi.y }

pub wider_more : (f g h : Hull) → IsWider f g → IsWider g h → IsWider f h
wider_more f g h a b = record {
  west = through _ _ _ b.west a.west;
  east = through _ _ _ a.east b.east;
  south = through _ _ _ b.south a.south;
  north = through _ _ _ a.north b.north;
}

pub wider_in : (f g : Hull) (p : Point) → IsWider f g → IsIn f p → IsIn g p
wider_in f g p w i = record {
  west = through _ _ _ w.west i.west;
  east = through _ _ _ i.east w.east;
  south = through _ _ _ w.south i.south;
  north = through _ _ _ i.north w.north;
}

-- the points of a ring up to one more
pub one_more : (f g : Hull) (ring : List Point) (i : ℕ) (e : Point) → i < length ring → IsWider f g → AllWithin (IsIn f) ring 0 i → IsIn g (get_or ring i e)
    → AllWithin (IsIn g) ring 0 (i + 1)
one_more f g ring i e within w all one =
    AllWithin-more (IsIn g) ring 0 i (λ k d low high. wider_in f g _ w (all k d low high)) (λ d. subst (IsIn g) (get_or_default ring i e d within) one)

-- the rings up to one more
pub ring_more : (f g : Hull) (rings : List (List Point)) (i : ℕ) (ring : List Point) → slice_get rings i ≡ Some ring → IsWider f g
    → AllWithin (λ r. All (IsIn f) r) rings 0 i → All (IsIn g) ring → AllWithin (λ r. All (IsIn g) r) rings 0 (i + 1)
ring_more f g rings i ring e w all one =
    AllWithin-more (λ r. All (IsIn g) r) rings 0 i (λ k d low high n p less. wider_in f g _ w (all k d low high n p less))
    (λ d. subst (λ r. All (IsIn g) r) (sym (get_or_from_slice_get rings i ring d e)) one)
