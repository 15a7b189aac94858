-- Points inside the shape and the cells of a level.
use Rattle.std.proofs.Common.{◌≡◌, ℕ, zero, suc, ◌<◌, ◌≤◌, refl, sym, ap, ◌∙◌, subst, arith, Bool, true, false, cond, List, [], ◌∷◌}
use Rattle.std.specs.List.{Contains, flat_map, filter}
use Rattle.std.proofs.lemmas.List.Elements.{Contains-append_left, Contains-append_right, All-contains, filter_passes}
use Rattle.act_grid.specs.declared.Point.{Point}
use Rattle.act_grid.specs.Hull.{IsIn}
use Rattle.act_grid.specs.Cell.{Address, IsCell, root_cell, child_of, hull_of}
use Rattle.act_grid.proofs.CellOrder.{some_child}
use Rattle.act_geom.specs.declared.class.Class.{Class}
use Rattle.act_geom.specs.declared.class.Class.TheVariants.{Inside, Outside, Mixed}
use Rattle.act_geom.specs.Inside.{is_inside}
use Rattle.act_geom.proofs.ClassFacts.{answer_inside, answer_outside}
use Rattle.act_cover.specs.Covering.{class_at, is_on, is_within, children_of, refined_as, refined, cells_at}
use Rattle.act_cover.specs.Level.{level_of, covering_of, interior_of}
use Rattle.act_cover.proofs.Placed.{IsPlaced, placed}
use Rattle.act_cover.proofs.Greatest.{level_below}

differ : false ≡ true → ⊥
differ q = cc

-- ---- lists

here : {X : Type 0} (x : X) (xs : List X) → Contains (x ∷ xs) x
here x xs = (0, omega arith, refl)

later : {X : Type 0} (x y : X) (xs : List X) → Contains xs y → Contains (x ∷ xs) y
later x y xs h = (suc h.0, omega (arith, h.1), h.2)

kept : {X : Type 0} (test : X → Bool) (xs : List X) (x : X) → Contains xs x → test x ≡ true → Contains (filter test xs) x
kept test [] x h t = absurd (omega (arith, h.1))
kept {X = X} test (y ∷ xs) x (zero, l, e) t =
    subst (λ (b : Bool). Contains (cond b (y ∷ filter test xs) (filter test xs)) x) (sym (ap test e ∙ t))
    (subst (λ (z : X). Contains (z ∷ filter test xs) x) (sym e) (here x (filter test xs)))
kept test (y ∷ xs) x (suc k, l, e) t = by_case (test y) (kept test xs x (k, omega (arith, l), e) t)
  where
    by_case : (b : Bool) → Contains (filter test xs) x → Contains (cond b (y ∷ filter test xs) (filter test xs)) x
    by_case true h = later y x (filter test xs) h
    by_case false h = h

in_flat : {X Y : Type 0} (f : X → List Y) (xs : List X) (x : X) (y : Y) → Contains xs x → Contains (f x) y → Contains (flat_map f xs) y
in_flat f [] x y h i = absurd (omega (arith, h.1))
in_flat {X = X} f (z ∷ xs) x y (zero, l, e) i = Contains-append_left (f z) (flat_map f xs) y (subst (λ (w : X). Contains (f w) y) (sym e) i)
in_flat f (z ∷ xs) x y (suc k, l, e) i = Contains-append_right (f z) (flat_map f xs) y (in_flat f xs x y (k, omega (arith, l), e) i)

-- ---- classes

-- a cell with a point inside isn't Outside
on_here : (rings : List (List Point)) (c : Address) (p : Point) → IsIn (hull_of c) p → is_inside rings p ≡ true → is_on (class_at rings c) ≡ true
unfolding class_at
on_here rings c p i t = by_case (class_at rings c) refl
  where
    by_case : (k : Class) → class_at rings c ≡ k → is_on k ≡ true
    by_case Inside e = refl
    by_case Outside e = absurd (differ (sym (answer_outside rings (hull_of c) p i e) ∙ t))
    by_case Mixed e = refl

child_in : (c : Address) (q : ℕ) → q < 4 → Contains (children_of c) (child_of c q)
child_in c zero h = (0, omega arith, refl)
child_in c (suc zero) h = (1, omega arith, refl)
child_in c (suc (suc zero)) h = (2, omega arith, refl)
child_in c (suc (suc (suc zero))) h = (3, omega arith, refl)
child_in c (suc (suc (suc (suc q)))) h = absurd (omega arith)

-- a cell of the list holds the point
abbrev pub Holds : List Address → Point → Type 0
Holds cells p = (c : Address) × Contains cells c × IsIn (hull_of c) p

refined_holds : (rings : List (List Point)) (c : Address) (p : Point) (class : Class) → class_at rings c ≡ class → IsCell c → c.level < 30 → IsIn (hull_of c) p → is_inside rings p ≡ true
    → Holds (refined_as class rings c) p
unfolding class_at
refined_holds rings c p Inside e k l i t = (c, here c [], i)
refined_holds rings c p Outside e k l i t = absurd (differ (sym (answer_outside rings (hull_of c) p i e) ∙ t))
refined_holds rings c p Mixed e k l i t =
    let s : (q : ℕ) × (q < 4) × IsIn (hull_of (child_of c q)) p = some_child c p k l i in
    (child_of c s.0, kept (λ (d : Address). is_on (class_at rings d)) (children_of c) (child_of c s.0) (child_in c s.0 s.1) (on_here rings (child_of c s.0) p s.2 t), s.2)

level_holds : (rings : List (List Point)) (level : ℕ) (p : Point) → level ≤ 28 → IsIn (hull_of root_cell) p → is_inside rings p ≡ true → Holds (cells_at rings level) p
unfolding cells_at
level_holds rings zero p l i t =
    (root_cell, kept (λ (d : Address). is_on (class_at rings d)) (root_cell ∷ []) root_cell (here root_cell []) (on_here rings root_cell p i t), i)
level_holds rings (suc level) p l i t =
    let above : Holds (cells_at rings level) p = level_holds rings level p (omega arith) i t in
    let at : IsPlaced level above.0 = All-contains (IsPlaced level) (cells_at rings level) above.0 (placed rings level (omega arith)) above.1 in
    let below : Holds (refined rings above.0) p = refined_holds rings above.0 p (class_at rings above.0) refl at.cell (omega (arith, at.below)) above.2 t in
    (below.0, in_flat (refined rings) (cells_at rings level) above.0 below.0 above.1 below.1, below.2)

pub covering_holds : (rings : List (List Point)) (most : ℕ) (p : Point) → IsIn (hull_of root_cell) p → is_inside rings p ≡ true → Holds (covering_of rings most) p
unfolding covering_of
covering_holds rings most p i t = level_holds rings (level_of rings most) p (level_below rings most) i t

pub interior_inside : (rings : List (List Point)) (most : ℕ) (c : Address) (p : Point) → Contains (interior_of rings most) c → IsIn (hull_of c) p → is_inside rings p ≡ true
unfolding interior_of class_at
interior_inside rings most c p h i =
    let passes : is_within (class_at rings c) ≡ true =
    All-contains (λ (d : Address). is_within (class_at rings d) ≡ true) (interior_of rings most) c
    (filter_passes (λ (d : Address). is_within (class_at rings d)) (covering_of rings most)) h in
    answer_inside rings (hull_of c) p i (only (class_at rings c) passes)
  where
    only : (k : Class) → is_within k ≡ true → k ≡ Inside
    only Inside e = refl
    only Outside e = absurd (differ e)
    only Mixed e = absurd (differ e)
