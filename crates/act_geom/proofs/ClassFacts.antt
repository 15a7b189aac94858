-- What is Inside or Outside on a hull is so on each hull in it.
use Rattle.std.proofs.Common.{◌≡◌, refl, sym, ap, ◌∙◌, arith, Bool, true, false, cond, ◌||◌, List, [], ◌∷◌}
use Rattle.std.proofs.lemmas.Int.{ints}
use Rattle.std.proofs.lemmas.List.Elements.{All-nil, All-cons}
use Rattle.std.specs.List.{All, list_any}
use Rattle.act_grid.specs.Hull.{IsIn, IsWithin}
use Rattle.act_geom.specs.declared.class.Class.TheVariants.{Inside, Outside, Mixed}
use Rattle.act_geom.specs.Edges.{Edge, edges_of}
use Rattle.act_geom.specs.Inside.{is_inside}
use Rattle.act_geom.specs.Touch.{touches_hull}
use Rattle.act_geom.specs.Class.{class_on}
use Rattle.act_grid.specs.declared.Point.{Point}
use Rattle.act_grid.specs.declared.Hull.{Hull}
use Rattle.act_geom.proofs.OneEdge.{missed_law}
use Rattle.act_geom.proofs.OneAnswer.{one_answer}

none_all : (h : Hull) (edges : List Edge) → list_any (touches_hull h) edges ≡ false → All (λ e. touches_hull h e ≡ false) edges
none_all h [] e = All-nil (λ x. touches_hull h x ≡ false)
none_all h (x ∷ edges) e = All-cons (λ x. touches_hull h x ≡ false) x edges (first _ _ e) (none_all h edges (rest _ _ e))
  where
    first : (a b : Bool) → (a || b) ≡ false → a ≡ false
    first a b e = grind arith

    rest : (a b : Bool) → (a || b) ≡ false → b ≡ false
    rest a b e = grind arith

none_in : (h k : Hull) → IsWithin h k → (edges : List Edge) → list_any (touches_hull h) edges ≡ false → list_any (touches_hull k) edges ≡ false
none_in h k w [] e = refl
none_in h k w (x ∷ edges) e = both (touches_hull h x) (touches_hull k x) (list_any (touches_hull h) edges) (list_any (touches_hull k) edges) (missed_law h k x w) (none_in h k w edges) e
  where
    both : (a a' b b' : Bool) → (a ≡ false → a' ≡ false) → (b ≡ false → b' ≡ false) → (a || b) ≡ false → (a' || b') ≡ false
    both a a' b b' f g e = grind arith

-- the low corner of a hull with a point lies in it
low_in : (h k : Hull) → IsWithin h k → IsIn h h.lo
low_in h k w =
    let a = w.low in
    let b = w.high in
    record { west = omega (arith, ints); east = omega (arith, ints, a.west, a.east); south = omega (arith, ints); north = omega (arith, ints, a.south, a.north) }

pure : (shape : List (List Point)) (h : Hull) (t s : Bool) → list_any (touches_hull h) (edges_of shape) ≡ t → is_inside shape h.lo ≡ s → class_on shape h ≡ cond t Mixed (cond s Inside Outside)
pure shape h t s e f = ap (λ b. cond b Mixed (cond (is_inside shape h.lo) Inside Outside)) e ∙ ap (λ b. cond t Mixed (cond b Inside Outside)) f

parts : (t s : Bool) → (cond t Mixed (cond s Inside Outside) ≡ Mixed → ⊥) → t ≡ false
parts true s h = absurd (h refl)
parts false s h = refl

pub class_goes_down : (shape : List (List Point)) (h k : Hull) → IsWithin h k → (class_on shape h ≡ Mixed → ⊥) → class_on shape k ≡ class_on shape h
class_goes_down shape h k w n =
    let t : list_any (touches_hull h) (edges_of shape) ≡ false = parts _ (is_inside shape h.lo) n in
    let u : list_any (touches_hull k) (edges_of shape) ≡ false = none_in h k w (edges_of shape) t in
    let same : is_inside shape k.lo ≡ is_inside shape h.lo = one_answer h shape k.lo h.lo (none_all h (edges_of shape) t) w.low (low_in h k w) in
    pure shape k false (is_inside shape h.lo) u same ∙ sym (pure shape h false (is_inside shape h.lo) t refl)

-- the first point of a hull with a point lies in it
first_in : (h : Hull) (p : Point) → IsIn h p → IsIn h h.lo
first_in h p i = record { west = omega (arith, ints); east = omega (arith, ints, i.west, i.east); south = omega (arith, ints); north = omega (arith, ints, i.south, i.north) }

when_inside : (t s : Bool) → cond t Mixed (cond s Inside Outside) ≡ Inside → (t ≡ false) × (s ≡ true)
when_inside true s e = absurd (cc)
when_inside false true e = (refl, refl)
when_inside false false e = absurd (cc)

when_outside : (t s : Bool) → cond t Mixed (cond s Inside Outside) ≡ Outside → (t ≡ false) × (s ≡ false)
when_outside true s e = absurd (cc)
when_outside false true e = absurd (cc)
when_outside false false e = (refl, refl)

pub answer_inside : (shape : List (List Point)) (h : Hull) (p : Point) → IsIn h p → class_on shape h ≡ Inside → is_inside shape p ≡ true
answer_inside shape h p i e =
    let w = when_inside (list_any (touches_hull h) (edges_of shape)) (is_inside shape h.lo) e in
    one_answer h shape p h.lo (none_all h (edges_of shape) w.0) i (first_in h p i) ∙ w.1

pub answer_outside : (shape : List (List Point)) (h : Hull) (p : Point) → IsIn h p → class_on shape h ≡ Outside → is_inside shape p ≡ false
answer_outside shape h p i e =
    let w = when_outside (list_any (touches_hull h) (edges_of shape)) (is_inside shape h.lo) e in
    one_answer h shape p h.lo (none_all h (edges_of shape) w.0) i (first_in h p i) ∙ w.1
