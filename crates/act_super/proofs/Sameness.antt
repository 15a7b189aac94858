-- Equal shapes, ring by ring.
use Rattle.std.proofs.Common.{◌≡◌, ◌≢◌, ℕ, zero, suc, ◌+◌, ◌&&◌, Bool, true, false, not, List, [], ◌∷◌, length, drop, Some, refl, ap, add-one}
use Rattle.std.specs.Prelude.{slice_get}
use Rattle.act_grid.specs.declared.Point.{Point}
use Rattle.act_super.specs.Shapes.{same_point, same_rings}
use lib.Pointwise.{pointwise}

-- lists of different lengths are not the same
pub longer_differs : {X : Type 0} (same : X → X → Bool) (a b : List X) → length a ≢ length b → pointwise same a b ≡ false
longer_differs same [] [] h = absurd (h refl)
longer_differs same [] (y ∷ ys) h = refl
longer_differs same (x ∷ xs) [] h = refl
longer_differs same (x ∷ xs) (y ∷ ys) h = rest (same x y) _ (longer_differs same xs ys (λ e. h (ap suc e)))
  where
    rest : (a b : Bool) → b ≡ false → (a && b) ≡ false
    rest true b h = h
    rest false b h = refl

-- the item at a place, and those after it
pub drop_at : {X : Type 0} (xs : List X) (k : ℕ) (x : X) → slice_get xs k ≡ Some x → drop k xs ≡ x ∷ drop (k + 1) xs
drop_at [] k x h = cc
drop_at (y ∷ ys) zero x h = cc
drop_at (y ∷ ys) (suc k) x h = rw add-one (rw add-one at (drop_at ys k x h))

-- rings that differ at a place, and rings that are the same there
pub ring_differs : (a b : List (List Point)) (k : ℕ) (x y : List Point) → slice_get a k ≡ Some x → slice_get b k ≡ Some y
    → pointwise same_point x y ≡ false → same_rings (drop k a) (drop k b) ≡ false
ring_differs a b k x y at_a at_b differs = rw (drop_at a k x at_a, drop_at b k y at_b, differs) refl

pub ring_same : (a b : List (List Point)) (k : ℕ) (x y : List Point) → slice_get a k ≡ Some x → slice_get b k ≡ Some y
    → pointwise same_point x y ≡ true → same_rings (drop k a) (drop k b) ≡ same_rings (drop (k + 1) a) (drop (k + 1) b)
ring_same a b k x y at_a at_b same = rw (drop_at a k x at_a, drop_at b k y at_b, same) refl

pub not_true : (b : Bool) → not b ≡ true → b ≡ false
not_true true h = cc
not_true false h = refl

pub not_false : (b : Bool) → not b ≡ false → b ≡ true
not_false true h = refl
not_false false h = cc
