-- Edges that are counted for the candidates of one zone.
use Rattle.std.proofs.Common.{◌≡◌, ◌≢◌, ◌⊎◌, inl, inr, ℕ, zero, suc, ◌+◌, ◌≤◌, ◌<◌, ◌++◌, Bool, true, false, not, refl, sym, ap, ◌∙◌, subst, arith, List, [], ◌∷◌, length, map, take, drop, get_or, pos}
use Rattle.std.specs.Prelude.{ℤ, ◌-ℤ◌, ◌*ℤ◌, ◌<ℤ◌, ◌≤ℤ◌, int_lt}
use Rattle.std.proofs.Math.ListN.{set}
use Rattle.std.proofs.lemmas.Int.{ints}
use Rattle.std.proofs.lemmas.Simd.{map-map}
use Rattle.std.proofs.lemmas.List.{get_or_default, length-map, map-append, take-append-drop}
use mathlib.Core.Bool.{beq}
use Rattle.act_grid.specs.declared.Point.{Point}
use Rattle.act_geom.specs.Inside.{counts, differ, is_left}
use Rattle.act_geom.proofs.Passing.{passes_east, passes_west}
use Rattle.act_probe.specs.declared.buffers.Candidate.{Candidate}
use Rattle.act_probe.specs.Sweeps.{Ascends, IsAboveFrom, IsPlacedAt, at_rest, crossed}

-- ---- a list that is mapped up to a place, and from a place on
module _ {X : Type 0} (f : X → X) where
  pub fixed_front : (xs : List X) (n : ℕ) → ((k : ℕ) (d : X) → k < n → k < length xs → f (get_or xs k d) ≡ get_or xs k d) → map f (take n xs) ≡ take n xs
  fixed_front [] zero h = refl
  fixed_front [] (suc n) h = refl
  fixed_front (x ∷ xs) zero h = refl
  fixed_front (x ∷ xs) (suc n) h =
      λ i. h 0 x (omega arith) (omega arith) i ∷ fixed_front xs n (λ k d below within. h (suc k) d (omega (arith, below)) (omega (arith, within))) i

  pub fixed_rest : (xs : List X) (n : ℕ) → ((k : ℕ) (d : X) → n ≤ k → k < length xs → f (get_or xs k d) ≡ get_or xs k d) → map f (drop n xs) ≡ drop n xs
  fixed_rest [] zero h = refl
  fixed_rest [] (suc n) h = refl
  fixed_rest (x ∷ xs) zero h = λ i. h 0 x (omega arith) (omega arith) i ∷ fixed_rest xs 0 (λ k d above within. h (suc k) d (omega arith) (omega (arith, within))) i
  fixed_rest (x ∷ xs) (suc n) h = fixed_rest xs n (λ k d above within. h (suc k) d (omega (arith, above)) (omega (arith, within)))

  -- one item more
  pub front_more : (xs : List X) (n : ℕ) (d : X) → n < length xs → set (map f (take n xs) ++ drop n xs) n (f (get_or xs n d)) ≡ map f (take (n + 1) xs) ++ drop (n + 1) xs
  front_more [] n d within = absurd (omega (arith, within))
  front_more (x ∷ xs) zero d within = refl
  front_more (x ∷ xs) (suc n) d within =
      let e : suc n + 1 ≡ suc (n + 1) = omega arith in
      rw e (ap (λ l. f x ∷ l) (front_more xs n d (omega (arith, within))))

  pub front_here : (xs : List X) (n : ℕ) (d : X) → get_or (map f (take n xs) ++ drop n xs) n d ≡ get_or xs n d
  front_here [] zero d = refl
  front_here [] (suc n) d = refl
  front_here (x ∷ xs) zero d = refl
  front_here (x ∷ xs) (suc n) d = front_here xs n d

  pub rest_more : (xs : List X) (n : ℕ) (d : X) → n < length xs → set (take (n + 1) xs ++ map f (drop (n + 1) xs)) n (f (get_or xs n d)) ≡ take n xs ++ map f (drop n xs)
  rest_more [] n d within = absurd (omega (arith, within))
  rest_more (x ∷ xs) zero d within = refl
  rest_more (x ∷ xs) (suc n) d within =
      let e : suc n + 1 ≡ suc (n + 1) = omega arith in
      rw e (ap (λ l. x ∷ l) (rest_more xs n d (omega (arith, within))))

  pub rest_here : (xs : List X) (n m : ℕ) (d : X) → m < n → get_or (take n xs ++ map f (drop n xs)) m d ≡ get_or xs m d
  rest_here [] zero m d below = refl
  rest_here [] (suc n) m d below = refl
  rest_here (x ∷ xs) zero m d below = absurd (omega (arith, below))
  rest_here (x ∷ xs) (suc n) zero d below = refl
  rest_here (x ∷ xs) (suc n) (suc m) d below = rest_here xs n m d (omega (arith, below))

  pub whole : (xs : List X) (n : ℕ) → map f (take n xs) ++ map f (drop n xs) ≡ map f xs
  whole xs n = sym (map-append f (take n xs) (drop n xs)) ∙ ap (map f) (take-append-drop n xs)

pub not_true : (b : Bool) → not b ≡ true → b ≡ false
not_true true e = absurd (cc)
not_true false e = refl

pub not_false : (b : Bool) → not b ≡ false → b ≡ true
not_false true e = refl
not_false false e = absurd (cc)

-- ---- an edge whose ends lie on one side of a row doesn't count
is_true : (x y : ℤ) → x <ℤ y → int_lt x y ≡ true
is_true x y h = grind (arith, ints)

is_false : (x y : ℤ) → y ≤ℤ x → int_lt x y ≡ false
is_false x y h = grind (arith, ints)

pub is_low : (x y : ℤ) → int_lt x y ≡ true → x <ℤ y
is_low x y h = grind (arith, ints)

pub is_high : (x y : ℤ) → int_lt x y ≡ false → y ≤ℤ x
is_high x y h = grind (arith, ints)

is_less : (x y : ℤ) → int_lt y x ≡ int_lt (pos 0) (x -ℤ y)
is_less x y = grind (arith, ints)

-- a point left of a way, by the products of distances
pub less_than : (a b p : Point) (right up across above low high : ℤ) → right ≡ p.x -ℤ a.x → up ≡ b.y -ℤ a.y → across ≡ b.x -ℤ a.x → above ≡ p.y -ℤ a.y
    → low ≡ right *ℤ up → high ≡ across *ℤ above → int_lt low high ≡ is_left a b p
less_than a b p right up across above low high one two three four first second =
    is_less high low ∙ rw (first, second, one, two, three, four) refl

both_above : (p a b : Point) → p.y <ℤ a.y → p.y <ℤ b.y → counts p (record { a = a; b = b }) ≡ false
both_above p a b low high = rw (is_true p.y a.y low, is_true p.y b.y high) refl

none_above : (p a b : Point) → a.y ≤ℤ p.y → b.y ≤ℤ p.y → counts p (record { a = a; b = b }) ≡ false
none_above p a b low high = rw (is_false p.y a.y low, is_false p.y b.y high) refl

differ_none : (c : Bool) → differ c false ≡ c
differ_none true = refl
differ_none false = refl

pub passed : (a b : Point) (c : Candidate) → counts c.point (record { a = a; b = b }) ≡ false → crossed a b c ≡ c
passed a b c none = let same : differ c.odd (counts c.point (record { a = a; b = b })) ≡ c.odd = ap (differ c.odd) none ∙ differ_none c.odd in λ i. record c { odd = same i }

pub passed_below : (a b : Point) (c : Candidate) → c.point.y <ℤ a.y → c.point.y <ℤ b.y → crossed a b c ≡ c
passed_below a b c low high = passed a b c (both_above c.point a b low high)

pub passed_above : (a b : Point) (c : Candidate) → a.y ≤ℤ c.point.y → b.y ≤ℤ c.point.y → crossed a b c ≡ c
passed_above a b c low high = passed a b c (none_above c.point a b low high)

pub both_same : (b c : Bool) → not (beq b c) ≡ false → b ≡ c
both_same true true e = refl
both_same true false e = absurd (cc)
both_same false true e = absurd (cc)
both_same false false e = refl

-- both ends of a way up lie right of the point, or neither does
pub one_side : (low high p : Point) (right : Bool) → right ≡ int_lt p.x low.x → right ≡ int_lt p.x high.x → low.y ≤ℤ p.y → p.y <ℤ high.y → right ≡ is_left low high p
one_side low high p true one two below above = sym (passes_east low high p (is_low _ _ (sym one)) (is_low _ _ (sym two)) below above)
one_side low high p false one two below above = sym (passes_west low high p (is_high _ _ (sym one)) (is_high _ _ (sym two)) below above)

-- ---- the points stay
module _ (a b : Point) where
  pub front_point : (xs : List Candidate) (n k : ℕ) (d : Candidate) → (get_or (map (crossed a b) (take n xs) ++ drop n xs) k d).point ≡ (get_or xs k d).point
  front_point [] zero k d = refl
  front_point [] (suc n) k d = refl
  front_point (x ∷ xs) zero k d = refl
  front_point (x ∷ xs) (suc n) zero d = refl
  front_point (x ∷ xs) (suc n) (suc k) d = front_point xs n k d

  pub rest_point : (xs : List Candidate) (n k : ℕ) (d : Candidate) → (get_or (take n xs ++ map (crossed a b) (drop n xs)) k d).point ≡ (get_or xs k d).point
  rest_point [] zero k d = refl
  rest_point [] (suc n) k d = refl
  rest_point (x ∷ xs) zero zero d = refl
  rest_point (x ∷ xs) zero (suc k) d = rest_point xs 0 k d
  rest_point (x ∷ xs) (suc n) zero d = refl
  rest_point (x ∷ xs) (suc n) (suc k) d = rest_point xs n k d

  pub map_point : (xs : List Candidate) (k : ℕ) (d : Candidate) → (get_or (map (crossed a b) xs) k d).point ≡ (get_or xs k d).point
  map_point [] k d = refl
  map_point (x ∷ xs) zero d = refl
  map_point (x ∷ xs) (suc k) d = map_point xs k d

  -- so does their order
  pub still_ascends : (xs : List Candidate) → Ascends xs → Ascends (map (crossed a b) xs)
  still_ascends xs up i j d before within =
      rw (map_point xs i d, map_point xs j d) (up i j d before (omega (arith, within, length-map xs (crossed a b))))

  still_placed : (xs : List Candidate) (y : ℤ) (at : ℕ) → at ≤ length xs → ((k : ℕ) (d : Candidate) → k < at → (get_or xs k d).point.y <ℤ y)
      → ((k : ℕ) (d : Candidate) → at ≤ k → k < length xs → y ≤ℤ (get_or xs k d).point.y) → IsPlacedAt y at (map (crossed a b) xs)
  still_placed xs y at within below above = record {
    within = omega (arith, within, length-map xs (crossed a b));
    below = λ k d before. rw map_point (below k d before);
    above = λ k d after inside. rw map_point (above k d after (omega (arith, inside, length-map xs (crossed a b))));
  }

  -- ---- an edge up
  module _ (xs run : List Candidate) (from at : ℕ) (up : a.y ≤ℤ b.y) (ascends : Ascends xs) (placed : IsPlacedAt a.y from xs) where
    pub rise_begin : run ≡ xs → run ≡ map (crossed a b) (take from xs) ++ drop from xs
    rise_begin same =
        same ∙ sym (take-append-drop from xs)
        ∙ ap (λ l. l ++ drop from xs) (sym (fixed_front (crossed a b) xs from (λ k d before inside. passed_below a b (get_or xs k d) (placed.below k d before) (omega (arith, ints, placed.below k d before, up)))))

    module _ (within : at ≤ length xs) (after : from ≤ at) (state : run ≡ map (crossed a b) (take at xs) ++ drop at xs) (below : (k : ℕ) (d : Candidate) → k < at → (get_or xs k d).point.y <ℤ b.y) where
      pub rise_more : (d : Candidate) (new : Candidate) → at < length xs → new ≡ crossed a b (get_or run at d) → set run at new ≡ map (crossed a b) (take (at + 1) xs) ++ drop (at + 1) xs
      rise_more d new inside is =
          let here : new ≡ crossed a b (get_or xs at d) = is ∙ ap (λ l. crossed a b (get_or l at d)) state ∙ ap (crossed a b) (front_here (crossed a b) xs at d) in
          ap (λ l. set l at new) state ∙ ap (λ c. set (map (crossed a b) (take at xs) ++ drop at xs) at c) here ∙ front_more (crossed a b) xs at d inside

      pub rise_below : (d0 : Candidate) → at < length xs → (get_or run at d0).point.y <ℤ b.y → (k : ℕ) (d : Candidate) → k < at + 1 → (get_or xs k d).point.y <ℤ b.y
      rise_below d0 inside low k d before = by (sides k)
        where
          sides : (k : ℕ) → (k ≡ at) ⊎ (k ≢ at)
          sides k = grind arith

          point : (get_or run at d0).point ≡ (get_or xs at d).point
          point = ap (λ l. (get_or l at d0).point) state ∙ front_point xs at at d0 ∙ ap (λ (c : Candidate). c.point) (get_or_default xs at d0 d inside)

          by : (k ≡ at) ⊎ (k ≢ at) → (get_or xs k d).point.y <ℤ b.y
          by (inl e) = rw e (subst (λ (p : Point). p.y <ℤ b.y) point low)
          by (inr off) = below k d (omega (arith, before, off))

      pub rise_stop : (d0 : Candidate) → b.y ≤ℤ (get_or run at d0).point.y → (k : ℕ) (d : Candidate) → at ≤ k → k < length xs → b.y ≤ℤ (get_or xs k d).point.y
      rise_stop d0 high k d past inside =
          let point : (get_or run at d0).point ≡ (get_or xs at d).point = ap (λ l. (get_or l at d0).point) state ∙ front_point xs at at d0 ∙ ap (λ (c : Candidate). c.point) (get_or_default xs at d0 d (omega (arith, past, inside))) in
          let here : b.y ≤ℤ (get_or xs at d).point.y = subst (λ (p : Point). b.y ≤ℤ p.y) point high in
          omega (arith, ints, here, ascends at k d past inside)

      module _ (end : (k : ℕ) (d : Candidate) → at ≤ k → k < length xs → b.y ≤ℤ (get_or xs k d).point.y) where
        pub rise_all : run ≡ map (crossed a b) xs
        rise_all =
            state ∙ ap (λ l. map (crossed a b) (take at xs) ++ l)
            (sym (fixed_rest (crossed a b) xs at (λ k d past inside. passed_above a b (get_or xs k d) (placed.above k d (omega (arith, after, past)) inside) (end k d past inside)))) ∙ whole (crossed a b) xs at

        pub rise_placed : IsPlacedAt b.y at run
        rise_placed = subst (IsPlacedAt b.y at) (sym rise_all) (still_placed xs b.y at within below end)

  -- ---- an edge down
  module _ (xs run : List Candidate) (from at : ℕ) (down : b.y ≤ℤ a.y) (ascends : Ascends xs) (placed : IsPlacedAt a.y from xs) where
    pub fall_begin : run ≡ xs → run ≡ take from xs ++ map (crossed a b) (drop from xs)
    fall_begin same =
        same ∙ sym (take-append-drop from xs)
        ∙ ap (λ l. take from xs ++ l) (sym (fixed_rest (crossed a b) xs from (λ k d past inside. passed_above a b (get_or xs k d) (placed.above k d past inside) (omega (arith, ints, placed.above k d past inside, down)))))

    module _ (before : at ≤ from) (state : run ≡ take at xs ++ map (crossed a b) (drop at xs)) (above : (k : ℕ) (d : Candidate) → at ≤ k → k < length xs → b.y ≤ℤ (get_or xs k d).point.y) where
      pub fall_more : (m : ℕ) (d : Candidate) (new : Candidate) → at ≡ m + 1 → new ≡ crossed a b (get_or run m d) → set run m new ≡ take m xs ++ map (crossed a b) (drop m xs)
      fall_more m d new one is =
          let inside : m < length xs = omega (arith, one, before, placed.within) in
          let here : new ≡ crossed a b (get_or xs m d) = is ∙ ap (λ l. crossed a b (get_or l m d)) state ∙ ap (crossed a b) (rest_here (crossed a b) xs at m d (omega (arith, one))) in
          ap (λ l. set l m new) (state ∙ ap (λ n. take n xs ++ map (crossed a b) (drop n xs)) one) ∙ ap (λ c. set (take (m + 1) xs ++ map (crossed a b) (drop (m + 1) xs)) m c) here ∙ rest_more (crossed a b) xs m d inside

      pub fall_above : (m : ℕ) (d0 : Candidate) → at ≡ m + 1 → b.y ≤ℤ (get_or run m d0).point.y → (k : ℕ) (d : Candidate) → m ≤ k → k < length xs → b.y ≤ℤ (get_or xs k d).point.y
      fall_above m d0 one high k d past inside = by (sides k)
        where
          sides : (k : ℕ) → (k ≡ m) ⊎ (k ≢ m)
          sides k = grind arith

          point : (get_or run m d0).point ≡ (get_or xs m d).point
          point = ap (λ l. (get_or l m d0).point) state ∙ rest_point xs at m d0 ∙ ap (λ (c : Candidate). c.point) (get_or_default xs m d0 d (omega (arith, past, inside)))

          by : (k ≡ m) ⊎ (k ≢ m) → b.y ≤ℤ (get_or xs k d).point.y
          by (inl e) = rw e (subst (λ (p : Point). b.y ≤ℤ p.y) point high)
          by (inr off) = above k d (omega (arith, past, off, one)) inside

      pub fall_stop : (m : ℕ) (d0 : Candidate) → at ≡ m + 1 → (get_or run m d0).point.y <ℤ b.y → (k : ℕ) (d : Candidate) → k < at → (get_or xs k d).point.y <ℤ b.y
      fall_stop m d0 one low k d past =
          let inside : m < length xs = omega (arith, one, before, placed.within) in
          let point : (get_or run m d0).point ≡ (get_or xs m d).point = ap (λ l. (get_or l m d0).point) state ∙ rest_point xs at m d0 ∙ ap (λ (c : Candidate). c.point) (get_or_default xs m d0 d inside) in
          let here : (get_or xs m d).point.y <ℤ b.y = subst (λ (p : Point). p.y <ℤ b.y) point low in
          omega (arith, ints, here, ascends k m d (omega (arith, past, one)) inside)

      module _ (end : (k : ℕ) (d : Candidate) → k < at → (get_or xs k d).point.y <ℤ b.y) where
        pub fall_all : run ≡ map (crossed a b) xs
        fall_all =
            state ∙ ap (λ l. l ++ map (crossed a b) (drop at xs))
            (sym (fixed_front (crossed a b) xs at (λ k d past inside. passed_below a b (get_or xs k d) (placed.below k d (omega (arith, before, past))) (end k d past)))) ∙ whole (crossed a b) xs at

        pub fall_placed : IsPlacedAt b.y at run
        fall_placed = subst (IsPlacedAt b.y at) (sym fall_all) (still_placed xs b.y at (omega (arith, before, placed.within)) end above)

-- ---- an edge between whose ends there is no candidate
pub none_crossed : (a b : Point) (xs : List Candidate) (at : ℕ) → IsPlacedAt a.y at xs → IsPlacedAt b.y at xs → xs ≡ map (crossed a b) xs
none_crossed a b xs at one two =
    sym (take-append-drop at xs)
    ∙ ap (λ l. l ++ drop at xs) (sym (fixed_front (crossed a b) xs at (λ k d before inside. passed_below a b (get_or xs k d) (one.below k d before) (two.below k d before))))
    ∙ ap (λ l. map (crossed a b) (take at xs) ++ l) (sym (fixed_rest (crossed a b) xs at (λ k d past inside. passed_above a b (get_or xs k d) (one.above k d past inside) (two.above k d past inside))))
    ∙ whole (crossed a b) xs at

-- ---- the place of a row
pub above_here : (xs : List Candidate) (at : ℕ) (y : ℤ) (d0 : Candidate) → Ascends xs → at ≤ length xs → y ≤ℤ (get_or xs at d0).point.y → IsAboveFrom y at xs
above_here xs at y d0 up within high = record {
  within = within;
  above = λ k d past inside. (
      let same : (get_or xs at d0).point.y ≡ (get_or xs at d).point.y = ap (λ (c : Candidate). c.point.y) (get_or_default xs at d0 d (omega (arith, past, inside))) in
      let here : y ≤ℤ (get_or xs at d).point.y = subst (λ v. y ≤ℤ v) same high in
      omega (arith, ints, here, up at k d past inside));
}

pub high_here : (xs : List Candidate) (m : ℕ) (y : ℤ) (d0 d : Candidate) → m < length xs → y ≤ℤ (get_or xs m d0).point.y → y ≤ℤ (get_or xs m d).point.y
high_here xs m y d0 d inside high = subst (λ (c : Candidate). y ≤ℤ c.point.y) (get_or_default xs m d0 d inside) high

pub below_here : (xs : List Candidate) (m at : ℕ) (y : ℤ) (d0 : Candidate) → Ascends xs → at ≡ m + 1 → at ≤ length xs → (get_or xs m d0).point.y <ℤ y
    → (k : ℕ) (d : Candidate) → k < at → (get_or xs k d).point.y <ℤ y
below_here xs m at y d0 up one within low k d past =
    let inside : m < length xs = omega (arith, one, within) in
    let same : (get_or xs m d0).point.y ≡ (get_or xs m d).point.y = ap (λ (c : Candidate). c.point.y) (get_or_default xs m d0 d inside) in
    let here : (get_or xs m d).point.y <ℤ y = subst (λ v. v <ℤ y) same low in
    omega (arith, ints, here, up k m d (omega (arith, past, one)) inside)

pub placed_here : (xs : List Candidate) (m at : ℕ) (y : ℤ) (d0 : Candidate) → Ascends xs → at ≡ m + 1 → IsAboveFrom y at xs → (get_or xs m d0).point.y <ℤ y → IsPlacedAt y at xs
placed_here xs m at y d0 up one above low = record {
  within = above.within;
  below = below_here xs m at y d0 up one above.within low;
  above = above.above;
}

-- the candidates but for their counts stay
pub crossed_rest : (a b : Point) (xs ys : List Candidate) → ys ≡ map (crossed a b) xs → map at_rest ys ≡ map at_rest xs
crossed_rest a b xs ys is = ap (map at_rest) is ∙ map-map at_rest (crossed a b) xs
