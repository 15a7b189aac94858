-- A shape with a vertex is Mixed on each cell that holds a box around its vertices.
use Rattle.std.proofs.Common.{◌≡◌, ◌<◌, ℤ, pos, ◌-ℤ◌, ◌*ℤ◌, ◌≤ℤ◌, refl, ap, ◌∙◌, arith, Bool, true, false, cond, not, ◌&&◌, ◌||◌, int_lt, List, [], ◌∷◌, ◌++◌}
use Rattle.std.specs.Prelude.{int_le}
use Rattle.std.proofs.Math.IntN.{*ℤ-zero, zero-*ℤ}
use Rattle.std.proofs.lemmas.Int.{ints}
use Rattle.std.proofs.lemmas.List.Elements.{All-head, All-tail}
use Rattle.std.specs.List.{All, list_any}
use Rattle.act_grid.specs.declared.Point.{Point}
use Rattle.act_grid.specs.declared.Hull.{Hull}
use Rattle.act_grid.specs.Hull.{IsIn}
use Rattle.act_grid.specs.Cell.{Address, hull_of}
use Rattle.act_geom.specs.declared.class.Class.TheVariants.{Inside, Outside, Mixed}
use Rattle.act_geom.specs.Edges.{Edge, ring_edges, edges_of}
use Rattle.act_geom.specs.Inside.{is_inside, is_left}
use Rattle.act_geom.specs.Rings.{vertices_of}
use Rattle.act_geom.specs.Touch.{touches_hull}
use Rattle.act_geom.proofs.OneEdge.{missed_law}
use Rattle.act_cover.specs.Covering.{class_at}
use Rattle.act_super.specs.Frames.{IsFrame, is_around}

not_less : (x : ℤ) → int_lt x x ≡ false
not_less x = grind (arith, ints)

same_place : (x : ℤ) → x ≤ℤ x
same_place x = grind (arith, ints)

apart_none : (x : ℤ) → x -ℤ x ≡ pos 0
apart_none x = omega (arith, ints)

no_side_start : (u v x y : ℤ) → int_lt (pos 0) (u *ℤ (y -ℤ y) -ℤ (x -ℤ x) *ℤ v) ≡ false
no_side_start u v x y = ap (λ z. int_lt (pos 0) (u *ℤ z -ℤ (x -ℤ x) *ℤ v)) (apart_none y) ∙ ap (λ z. int_lt (pos 0) (u *ℤ pos 0 -ℤ z *ℤ v)) (apart_none x)
    ∙ ap (λ z. int_lt (pos 0) (z -ℤ pos 0 *ℤ v)) (*ℤ-zero u) ∙ ap (λ z. int_lt (pos 0) (pos 0 -ℤ z)) (zero-*ℤ v)

no_side_end : (u v : ℤ) → int_lt (pos 0) (u *ℤ v -ℤ u *ℤ v) ≡ false
no_side_end u v = grind (arith, ints)

-- a point alone is touched by an edge that starts there
touches_start : (a b : Point) → touches_hull (record { lo = a; hi = a }) (record { a = a; b = b }) ≡ true
touches_start a b =
    one (int_lt a.x a.x) (int_lt b.x a.x) (int_lt a.x b.x) (int_lt a.y a.y) (int_lt b.y a.y) (int_lt a.y b.y) (is_left a b a) (is_left b a a)
    (not_less a.x) (not_less a.y) (no_side_start (b.x -ℤ a.x) (b.y -ℤ a.y) a.x a.y) (no_side_end (a.x -ℤ b.x) (a.y -ℤ b.y))
  where
    one : (w u v s p q l m : Bool) → w ≡ false → s ≡ false → l ≡ false → m ≡ false
        → (((not (w && u) && not (w && v)) && (not (s && p) && not (s && q))) && not (((l && l) && (l && l)) || ((m && m) && (m && m)))) ≡ true
    one w u v s p q l m e f g h = grind arith

-- so is each box that holds the start
touches_in : (h : Hull) (a b : Point) → IsIn h a → touches_hull h (record { a = a; b = b }) ≡ true
touches_in h a b i = by (touches_hull h (record { a = a; b = b })) refl
  where
    by : (t : Bool) → touches_hull h (record { a = a; b = b }) ≡ t → touches_hull h (record { a = a; b = b }) ≡ true
    by true e = e
    by false e =
        let missed : touches_hull (record { lo = a; hi = a }) (record { a = a; b = b }) ≡ false =
        missed_law h (record { lo = a; hi = a }) (record { a = a; b = b }) (record { low = i; high = i; wide = same_place a.x; tall = same_place a.y }) e in
        let touched = touches_start a b in
        absurd (cc)

any_left : (g : Edge → Bool) (xs ys : List Edge) → list_any g xs ≡ true → list_any g (xs ++ ys) ≡ true
any_left g [] ys h = absurd (cc)
any_left g (x ∷ xs) ys h = one (g x) (list_any g xs) (list_any g (xs ++ ys)) h (any_left g xs ys)
  where
    one : (a b c : Bool) → (a || b) ≡ true → (b ≡ true → c ≡ true) → (a || c) ≡ true
    one a b c h k = grind arith

any_right : (g : Edge → Bool) (xs ys : List Edge) → list_any g ys ≡ true → list_any g (xs ++ ys) ≡ true
any_right g [] ys h = h
any_right g (x ∷ xs) ys h = one (g x) (list_any g (xs ++ ys)) (any_right g xs ys h)
  where
    one : (a b : Bool) → b ≡ true → (a || b) ≡ true
    one a b h = grind arith

ring_touches : (h : Hull) (a : Point) (rest : List Point) → IsIn h a → list_any (touches_hull h) (ring_edges (a ∷ rest)) ≡ true
ring_touches h a [] i = rw (touches_in h a a i) refl
ring_touches h a (b ∷ rest) i = rw (touches_in h a b i) refl

touched : (h : Hull) (rings : List (List Point)) → IsFrame h rings → 0 < vertices_of rings → list_any (touches_hull h) (edges_of rings) ≡ true
touched h [] frame some = absurd (omega arith)
touched h ([] ∷ rings) frame some = touched h rings (All-tail (λ r. All (IsIn h) r) [] rings frame) some
touched h ((a ∷ rest) ∷ rings) frame some =
    any_left (touches_hull h) (ring_edges (a ∷ rest)) (edges_of rings)
    (ring_touches h a rest (All-head (IsIn h) a rest (All-head (λ r. All (IsIn h) r) (a ∷ rest) rings frame)))

at_most : (a b : ℤ) → int_le a b ≡ true → a ≤ℤ b
at_most a b h = grind (arith, ints)

through : (x y z : ℤ) → x ≤ℤ y → y ≤ℤ z → x ≤ℤ z
through x y z h k = grind (arith, ints)

in_around : (f h : Hull) (p : Point) → is_around h f ≡ true → IsIn f p → IsIn h p
in_around f h p a i =
    let both = parts (int_le h.lo.x f.lo.x) (int_le f.hi.x h.hi.x) (int_le h.lo.y f.lo.y) (int_le f.hi.y h.hi.y) a in
    record {
      west = through h.lo.x f.lo.x p.x (at_most h.lo.x f.lo.x both.0) i.west;
      east = through p.x f.hi.x h.hi.x i.east (at_most f.hi.x h.hi.x both.1.0);
      south = through h.lo.y f.lo.y p.y (at_most h.lo.y f.lo.y both.1.1.0) i.south;
      north = through p.y f.hi.y h.hi.y i.north (at_most f.hi.y h.hi.y both.1.1.1);
    }
  where
    parts : (a b c d : Bool) → ((a && b) && (c && d)) ≡ true → (a ≡ true) × ((b ≡ true) × ((c ≡ true) × (d ≡ true)))
    parts true true true true h = (refl, (refl, (refl, refl)))
    parts false b c d h = absurd (cc)
    parts true false c d h = absurd (cc)
    parts true true false d h = absurd (cc)
    parts true true true false h = absurd (cc)

frame_around : (f h : Hull) (rings : List (List Point)) → is_around h f ≡ true → IsFrame f rings → IsFrame h rings
frame_around f h rings a all n d l m e k = in_around f h _ a (all n d l m e k)

pub around_mixed : (f : Hull) (rings : List (List Point)) (c : Address) → IsFrame f rings → is_around (hull_of c) f ≡ true → 0 < vertices_of rings → class_at rings c ≡ Mixed
unfolding class_at
around_mixed f rings c frame a some =
    ap (λ b. cond b Mixed (cond (is_inside rings (hull_of c).lo) Inside Outside)) (touched (hull_of c) rings (frame_around f (hull_of c) rings a frame) some)
