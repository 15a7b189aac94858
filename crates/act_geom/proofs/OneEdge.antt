-- From whole numbers to natural numbers: an edge that doesn't touch a hull, and two points of it.
use Rattle.std.proofs.Common.{◌≡◌, ℕ, ℤ, ◌≤ℤ◌, ◌+◌, ◌<◌, ◌≤◌, ◌⊎◌, inl, inr, refl, sym, ◌∙◌, arith, Bool, true, false, ltb, int_lt, cond, not, ◌&&◌, ◌||◌}
use Rattle.std.proofs.lemmas.Bool.{lt-ltb, le-ltb, ltb-true}
use borrow.Author.Differences.{down, lt-true, lt-false, le_out}
use Rattle.act_grid.specs.Hull.{IsIn, IsWithin}
use Rattle.act_geom.specs.Edges.{Edge}
use Rattle.act_geom.specs.Inside.{is_left, is_above, counts, differ}
use Rattle.act_geom.specs.Touch.{touches_hull, all_left}
use Rattle.act_grid.specs.declared.Point.{Point}
use Rattle.act_grid.specs.declared.Hull.{Hull}
use Rattle.act_geom.proofs.Lines.{Spot, gain, loss, in_box}
use Rattle.act_geom.proofs.Shifted.{moved, spot, Fits, same_test, is_left_is}
use Rattle.act_geom.proofs.Missed.{count_s, marked_s, InBox, Apart, between}
use Rattle.act_geom.proofs.Missed.Apart.{IsWest, IsEast, IsSouth, IsNorth, OnLeft, OnRight}

less_is : (m : ℕ) (a b : ℤ) → down a ≤ m → down b ≤ m → int_lt a b ≡ ltb (moved m a) (moved m b)
less_is m a b h k =
    same_test _ _ (λ t. lt-ltb _ _ (omega (arith, lt-true a b t))) (λ t. le-ltb _ _ (omega (arith, lt-false a b t)))

counts_is : (m : ℕ) (p a b : Point) → Fits m p → Fits m a → Fits m b → counts p (record { a = a; b = b }) ≡ count_s (spot m p) (spot m a) (spot m b)
counts_is m p a b f g h = alike _ _ _ _ _ _ _ _ (less_is m p.y a.y f.in_y g.in_y) (less_is m p.y b.y f.in_y h.in_y) (is_left_is m a b p g h f) (is_left_is m b a p h g f)
  where
    alike : (u v w x u' v' w' x' : Bool) → u ≡ u' → v ≡ v' → w ≡ w' → x ≡ x' → cond u (cond v false x) (cond v w false) ≡ cond u' (cond v' false x') (cond v' w' false)
    alike u v w x u' v' w' x' e1 e2 e3 e4 = cc

-- six ways to be apart
ways : (w1 w2 e1 e2 s1 s2 n1 n2 l r : Bool)
    → (((not (w1 && w2) && not (e1 && e2)) && (not (s1 && s2) && not (n1 && n2))) && not (l || r)) ≡ false
    → (((w1 ≡ true) × (w2 ≡ true)) ⊎ ((e1 ≡ true) × (e2 ≡ true))) ⊎ ((((s1 ≡ true) × (s2 ≡ true)) ⊎ ((n1 ≡ true) × (n2 ≡ true))) ⊎ ((l ≡ true) ⊎ (r ≡ true)))
ways w1 w2 e1 e2 s1 s2 n1 n2 l r h = grind arith

corners : (c1 c2 c3 c4 : Bool) → ((c1 && c2) && (c3 && c4)) ≡ true → (c1 ≡ true) × (c2 ≡ true) × (c3 ≡ true) × (c4 ≡ true)
corners c1 c2 c3 c4 h = grind arith

-- an end between the rows of p and q, right of the hull
abbrev pub marked : Hull → Point → Point → Point → Bool
marked h p q v = is_above v p && (not (is_above v q) && int_lt h.hi.x v.x)

marked_is : (m : ℕ) (h : Hull) (p q v : Point) → Fits m h.hi → Fits m p → Fits m q → Fits m v → marked h p q v ≡ marked_s (moved m h.hi.x) (spot m p) (spot m q) (spot m v)
marked_is m h p q v fh fp fq fv = alike _ _ _ _ _ _ (less_is m p.y v.y fp.in_y fv.in_y) (less_is m q.y v.y fq.in_y fv.in_y) (less_is m h.hi.x v.x fh.in_x fv.in_x)
  where
    alike : (u v w u' v' w' : Bool) → u ≡ u' → v ≡ v' → w ≡ w' → (u && (not v && w)) ≡ (u' && (not v' && w'))
    alike u v w u' v' w' e1 e2 e3 = cc

less_at : (m : ℕ) (a b : ℤ) → down a ≤ m → down b ≤ m → int_lt a b ≡ true → moved m a < moved m b
less_at m a b h k t = omega (arith, lt-true a b t)

order_at : (m : ℕ) (a b : ℤ) → down a ≤ m → down b ≤ m → a ≤ℤ b → moved m a ≤ moved m b
order_at m a b h k t = omega (arith, le_out a b t)

left_at : (m : ℕ) (a b p : Point) → Fits m a → Fits m b → Fits m p → is_left a b p ≡ true → loss (spot m a) (spot m b) (spot m p) < gain (spot m a) (spot m b) (spot m p)
left_at m a b p f g h t = ltb-true _ _ (sym (is_left_is m a b p f g h) ∙ t)

in_box_at : (m : ℕ) (h : Hull) (p : Point) → Fits m h.lo → Fits m h.hi → Fits m p → IsIn h p → InBox (spot m h.lo) (spot m h.hi) (spot m p)
in_box_at m h p fl fh fp i = record {
  w = order_at m _ _ fl.in_x fp.in_x i.west;
  e = order_at m _ _ fp.in_x fh.in_x i.east;
  s = order_at m _ _ fl.in_y fp.in_y i.south;
  n = order_at m _ _ fp.in_y fh.in_y i.north;
}

left_in : (m : ℕ) (h : Hull) (a b : Point) → Fits m h.lo → Fits m h.hi → Fits m a → Fits m b → all_left h a b ≡ true
    → (r : Spot) → InBox (spot m h.lo) (spot m h.hi) r → loss (spot m a) (spot m b) r < gain (spot m a) (spot m b) r
left_in m h a b fl fh fa fb t r i =
    let c = corners _ _ _ _ t in
    in_box (spot m a) (spot m b) (moved m h.lo.x) (moved m h.lo.y) (moved m h.hi.x) (moved m h.hi.y) r.x r.y i.w i.e i.s i.n
    (left_at m a b (record { x = h.lo.x; y = h.lo.y }) fa fb fl c.0)
    (left_at m a b (record { x = h.hi.x; y = h.lo.y }) fa fb (record { in_x = fh.in_x; in_y = fl.in_y }) c.1)
    (left_at m a b (record { x = h.lo.x; y = h.hi.y }) fa fb (record { in_x = fl.in_x; in_y = fh.in_y }) c.2)
    (left_at m a b (record { x = h.hi.x; y = h.hi.y }) fa fb fh c.3)

apart_at : (m : ℕ) (h : Hull) (a b : Point) → Fits m h.lo → Fits m h.hi → Fits m a → Fits m b → touches_hull h (record { a = a; b = b }) ≡ false
    → Apart (spot m h.lo) (spot m h.hi) (spot m a) (spot m b)
apart_at m h a b fl fh fa fb t =
    elim (ways (int_lt a.x h.lo.x) (int_lt b.x h.lo.x) (int_lt h.hi.x a.x) (int_lt h.hi.x b.x) (int_lt a.y h.lo.y) (int_lt b.y h.lo.y) (int_lt h.hi.y a.y) (int_lt h.hi.y b.y) (all_left h a b) (all_left h b a) t) [
      | inl u ↦ elim u [
        | inl w ↦ IsWest (less_at m _ _ fa.in_x fl.in_x w.0) (less_at m _ _ fb.in_x fl.in_x w.1)
        | inr w ↦ IsEast (less_at m _ _ fh.in_x fa.in_x w.0) (less_at m _ _ fh.in_x fb.in_x w.1)
      ]
      | inr u ↦ elim u [
        | inl v ↦ elim v [
          | inl w ↦ IsSouth (less_at m _ _ fa.in_y fl.in_y w.0) (less_at m _ _ fb.in_y fl.in_y w.1)
          | inr w ↦ IsNorth (less_at m _ _ fh.in_y fa.in_y w.0) (less_at m _ _ fh.in_y fb.in_y w.1)
        ]
        | inr v ↦ elim v [
          | inl w ↦ OnLeft (left_in m h a b fl fh fa fb w)
          | inr w ↦ OnRight (left_in m h b a fl fh fb fa w)
        ]
      ]
    ]

edge_at : (m : ℕ) (h : Hull) (p q a b : Point) → Fits m h.lo → Fits m h.hi → Fits m p → Fits m q → Fits m a → Fits m b
    → touches_hull h (record { a = a; b = b }) ≡ false → IsIn h p → IsIn h q → p.y ≤ℤ q.y
    → differ (counts p (record { a = a; b = b })) (counts q (record { a = a; b = b })) ≡ differ (marked h p q a) (marked h p q b)
edge_at m h p q a b fl fh fp fq fa fb t ip iq le =
    alike _ _ _ _ _ _ _ _ (counts_is m p a b fp fa fb) (counts_is m q a b fq fa fb) (marked_is m h p q a fh fp fq fa) (marked_is m h p q b fh fp fq fb)
    (between _ _ _ _ _ _ (apart_at m h a b fl fh fa fb t) (order_at m _ _ fp.in_y fq.in_y le) (in_box_at m h p fl fh fp ip) (in_box_at m h q fl fh fq iq))
  where
    alike : (u v w x u' v' w' x' : Bool) → u ≡ u' → v ≡ v' → w ≡ w' → x ≡ x' → differ u' v' ≡ differ w' x' → differ u v ≡ differ w x
    alike u v w x u' v' w' x' e1 e2 e3 e4 e = cc

pub edge_law : (h : Hull) (p q : Point) (e : Edge) → touches_hull h e ≡ false → IsIn h p → IsIn h q → p.y ≤ℤ q.y
    → differ (counts p e) (counts q e) ≡ differ (marked h p q e.a) (marked h p q e.b)
edge_law h p q e t ip iq le =
    let m = (down h.lo.x + down h.lo.y) + (down h.hi.x + down h.hi.y) + (down p.x + down p.y) + (down q.x + down q.y) + (down e.a.x + down e.a.y) + (down e.b.x + down e.b.y) in
    edge_at m h p q e.a e.b (record { in_x = omega arith; in_y = omega arith }) (record { in_x = omega arith; in_y = omega arith }) (record { in_x = omega arith; in_y = omega arith })
    (record { in_x = omega arith; in_y = omega arith }) (record { in_x = omega arith; in_y = omega arith }) (record { in_x = omega arith; in_y = omega arith }) t ip iq le

same_true_of : (b : Bool) → (b ≡ false → ⊥) → b ≡ true
same_true_of true h = refl
same_true_of false h = absurd (h refl)

four : (c1 c2 c3 c4 : Bool) → c1 ≡ true → c2 ≡ true → c3 ≡ true → c4 ≡ true → ((c1 && c2) && (c3 && c4)) ≡ true
four c1 c2 c3 c4 h1 h2 h3 h4 = cc

back : (m : ℕ) (a b p : Point) → Fits m a → Fits m b → Fits m p → loss (spot m a) (spot m b) (spot m p) < gain (spot m a) (spot m b) (spot m p) → is_left a b p ≡ true
back m a b p f g h t = is_left_is m a b p f g h ∙ lt-ltb _ _ t

missed_1 : (w1 w2 e1 e2 s1 s2 n1 n2 l r : Bool) → w1 ≡ true → w2 ≡ true → (((not (w1 && w2) && not (e1 && e2)) && (not (s1 && s2) && not (n1 && n2))) && not (l || r)) ≡ false
missed_1 w1 w2 e1 e2 s1 s2 n1 n2 l r h k = grind arith

missed_2 : (w1 w2 e1 e2 s1 s2 n1 n2 l r : Bool) → e1 ≡ true → e2 ≡ true → (((not (w1 && w2) && not (e1 && e2)) && (not (s1 && s2) && not (n1 && n2))) && not (l || r)) ≡ false
missed_2 w1 w2 e1 e2 s1 s2 n1 n2 l r h k = grind arith

missed_3 : (w1 w2 e1 e2 s1 s2 n1 n2 l r : Bool) → s1 ≡ true → s2 ≡ true → (((not (w1 && w2) && not (e1 && e2)) && (not (s1 && s2) && not (n1 && n2))) && not (l || r)) ≡ false
missed_3 w1 w2 e1 e2 s1 s2 n1 n2 l r h k = grind arith

missed_4 : (w1 w2 e1 e2 s1 s2 n1 n2 l r : Bool) → n1 ≡ true → n2 ≡ true → (((not (w1 && w2) && not (e1 && e2)) && (not (s1 && s2) && not (n1 && n2))) && not (l || r)) ≡ false
missed_4 w1 w2 e1 e2 s1 s2 n1 n2 l r h k = grind arith

missed_5 : (w1 w2 e1 e2 s1 s2 n1 n2 l r : Bool) → l ≡ true → (((not (w1 && w2) && not (e1 && e2)) && (not (s1 && s2) && not (n1 && n2))) && not (l || r)) ≡ false
missed_5 w1 w2 e1 e2 s1 s2 n1 n2 l r h = grind arith

missed_6 : (w1 w2 e1 e2 s1 s2 n1 n2 l r : Bool) → r ≡ true → (((not (w1 && w2) && not (e1 && e2)) && (not (s1 && s2) && not (n1 && n2))) && not (l || r)) ≡ false
missed_6 w1 w2 e1 e2 s1 s2 n1 n2 l r h = grind arith

-- what misses a hull misses each hull in it
missed_at : (m : ℕ) (h k : Hull) (a b : Point) → Fits m h.lo → Fits m h.hi → Fits m k.lo → Fits m k.hi → Fits m a → Fits m b → IsWithin h k
    → touches_hull h (record { a = a; b = b }) ≡ false → touches_hull k (record { a = a; b = b }) ≡ false
missed_at m h k a b fl fh gl gh fa fb w t =
    elim (ways (int_lt a.x h.lo.x) (int_lt b.x h.lo.x) (int_lt h.hi.x a.x) (int_lt h.hi.x b.x) (int_lt a.y h.lo.y) (int_lt b.y h.lo.y) (int_lt h.hi.y a.y) (int_lt h.hi.y b.y) (all_left h a b) (all_left h b a) t) [
      | inl u ↦ elim u [
        | inl v ↦ missed_1 (int_lt a.x k.lo.x) (int_lt b.x k.lo.x) (int_lt k.hi.x a.x) (int_lt k.hi.x b.x) (int_lt a.y k.lo.y) (int_lt b.y k.lo.y) (int_lt k.hi.y a.y) (int_lt k.hi.y b.y) (all_left k a b) (all_left k b a) (before a.x h.lo.x k.lo.x v.0 w.low.west) (before b.x h.lo.x k.lo.x v.1 w.low.west)
        | inr v ↦ missed_2 (int_lt a.x k.lo.x) (int_lt b.x k.lo.x) (int_lt k.hi.x a.x) (int_lt k.hi.x b.x) (int_lt a.y k.lo.y) (int_lt b.y k.lo.y) (int_lt k.hi.y a.y) (int_lt k.hi.y b.y) (all_left k a b) (all_left k b a) (beyond h.hi.x a.x k.hi.x v.0 w.high.east) (beyond h.hi.x b.x k.hi.x v.1 w.high.east)
      ]
      | inr u ↦ elim u [
        | inl v ↦ elim v [
          | inl x ↦ missed_3 (int_lt a.x k.lo.x) (int_lt b.x k.lo.x) (int_lt k.hi.x a.x) (int_lt k.hi.x b.x) (int_lt a.y k.lo.y) (int_lt b.y k.lo.y) (int_lt k.hi.y a.y) (int_lt k.hi.y b.y) (all_left k a b) (all_left k b a) (before a.y h.lo.y k.lo.y x.0 w.low.south) (before b.y h.lo.y k.lo.y x.1 w.low.south)
          | inr x ↦ missed_4 (int_lt a.x k.lo.x) (int_lt b.x k.lo.x) (int_lt k.hi.x a.x) (int_lt k.hi.x b.x) (int_lt a.y k.lo.y) (int_lt b.y k.lo.y) (int_lt k.hi.y a.y) (int_lt k.hi.y b.y) (all_left k a b) (all_left k b a) (beyond h.hi.y a.y k.hi.y x.0 w.high.north) (beyond h.hi.y b.y k.hi.y x.1 w.high.north)
        ]
        | inr v ↦ elim v [
          | inl x ↦ missed_5 (int_lt a.x k.lo.x) (int_lt b.x k.lo.x) (int_lt k.hi.x a.x) (int_lt k.hi.x b.x) (int_lt a.y k.lo.y) (int_lt b.y k.lo.y) (int_lt k.hi.y a.y) (int_lt k.hi.y b.y) (all_left k a b) (all_left k b a) (still_left a b fa fb x)
          | inr x ↦ missed_6 (int_lt a.x k.lo.x) (int_lt b.x k.lo.x) (int_lt k.hi.x a.x) (int_lt k.hi.x b.x) (int_lt a.y k.lo.y) (int_lt b.y k.lo.y) (int_lt k.hi.y a.y) (int_lt k.hi.y b.y) (all_left k a b) (all_left k b a) (still_left b a fb fa x)
        ]
      ]
    ]
  where
    before : (u v x : ℤ) → int_lt u v ≡ true → v ≤ℤ x → int_lt u x ≡ true
    before u v x e o = same_true_of _ (λ n. omega (arith, lt-true u v e, le_out v x o, lt-false u x n))

    beyond : (v u x : ℤ) → int_lt v u ≡ true → x ≤ℤ v → int_lt x u ≡ true
    beyond v u x e o = same_true_of _ (λ n. omega (arith, lt-true v u e, le_out x v o, lt-false x u n))

    still_left : (a b : Point) → Fits m a → Fits m b → all_left h a b ≡ true → all_left k a b ≡ true
    still_left a b fa fb e =
        let l = left_in m h a b fl fh fa fb e in
        four _ _ _ _
        (back m a b (record { x = k.lo.x; y = k.lo.y }) fa fb gl (l _ (in_box_at m h _ fl fh gl w.low)))
        (back m a b (record { x = k.hi.x; y = k.lo.y }) fa fb (record { in_x = gh.in_x; in_y = gl.in_y }) (l _ (in_box_at m h _ fl fh (record { in_x = gh.in_x; in_y = gl.in_y }) (record { west = w.high.west; east = w.high.east; south = w.low.south; north = w.low.north }))))
        (back m a b (record { x = k.lo.x; y = k.hi.y }) fa fb (record { in_x = gl.in_x; in_y = gh.in_y }) (l _ (in_box_at m h _ fl fh (record { in_x = gl.in_x; in_y = gh.in_y }) (record { west = w.low.west; east = w.low.east; south = w.high.south; north = w.high.north }))))
        (back m a b (record { x = k.hi.x; y = k.hi.y }) fa fb gh (l _ (in_box_at m h _ fl fh gh w.high)))

pub missed_law : (h k : Hull) (e : Edge) → IsWithin h k → touches_hull h e ≡ false → touches_hull k e ≡ false
missed_law h k e w t =
    let m = (down h.lo.x + down h.lo.y) + (down h.hi.x + down h.hi.y) + (down k.lo.x + down k.lo.y) + (down k.hi.x + down k.hi.y) + (down e.a.x + down e.a.y) + (down e.b.x + down e.b.y) in
    missed_at m h k e.a e.b (record { in_x = omega arith; in_y = omega arith }) (record { in_x = omega arith; in_y = omega arith }) (record { in_x = omega arith; in_y = omega arith })
    (record { in_x = omega arith; in_y = omega arith }) (record { in_x = omega arith; in_y = omega arith }) (record { in_x = omega arith; in_y = omega arith }) w t
