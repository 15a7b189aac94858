-- How many items pass: odd or even.
use Rattle.std.proofs.Common.{◌≡◌, ℕ, ◌+◌, refl, sym, ap, ◌∙◌, arith, Bool, List, [], ◌∷◌, ◌++◌, drop, Some, ◌||◌}
use Rattle.std.proofs.lemmas.List.{drop_more}
use Rattle.std.proofs.lemmas.Option.{slice_get_within, get_or_from_slice_get}
use Rattle.std.proofs.lemmas.List.Folds.{list_any-append}
use Rattle.std.specs.List.{slice_get, list_any}
use Rattle.act_grid.specs.declared.Point.{Point}
use Rattle.act_geom.specs.Edges.{Edge, ring_edges, edges_of}
use Rattle.act_geom.specs.Inside.{counts, differ, is_odd_by, is_inside}

pub regroup : (a b c : Bool) → differ a (differ b c) ≡ differ (differ a b) c
regroup a b c = grind arith

pub odd_append : {X : Type 0} (f : X → Bool) (xs ys : List X) → is_odd_by f (xs ++ ys) ≡ differ (is_odd_by f xs) (is_odd_by f ys)
odd_append f [] ys = refl
odd_append f (x ∷ xs) ys = ap (differ (f x)) (odd_append f xs ys) ∙ regroup (f x) (is_odd_by f xs) (is_odd_by f ys)

pub drop_at_get : {X : Type 0} (xs : List X) (k : ℕ) (x : X) → slice_get xs k ≡ Some x → drop k xs ≡ x ∷ drop (k + 1) xs
drop_at_get xs k x e =
    drop_more xs k x (slice_get_within xs k x e) ∙ ap (λ y. y ∷ drop (k + 1) xs) (get_or_from_slice_get xs k x x e)

-- one more ring of a shape
pub odd_more : (p : Point) (rings : List (List Point)) (k : ℕ) (ring : List Point) (odd now : Bool) → slice_get rings k ≡ Some ring
    → differ odd (is_odd_by (counts p) (edges_of (drop k rings))) ≡ is_inside rings p → now ≡ differ odd (is_odd_by (counts p) (ring_edges ring))
    → differ now (is_odd_by (counts p) (edges_of (drop (k + 1) rings))) ≡ is_inside rings p
odd_more p rings k ring odd now g h e =
    ap (λ v. differ v (is_odd_by (counts p) (edges_of (drop (k + 1) rings)))) e
    ∙ sym (regroup odd (is_odd_by (counts p) (ring_edges ring)) (is_odd_by (counts p) (edges_of (drop (k + 1) rings))))
    ∙ ap (differ odd) (sym (odd_append (counts p) (ring_edges ring) (edges_of (drop (k + 1) rings))))
    ∙ ap (λ (rs : List (List Point)). differ odd (is_odd_by (counts p) (edges_of rs))) (sym (drop_at_get rings k ring g))
    ∙ h

-- an edge of one more ring passes, or one of the rings after it
pub any_more : (f : Edge → Bool) (rings : List (List Point)) (k : ℕ) (ring : List Point) → slice_get rings k ≡ Some ring
    → list_any f (edges_of (drop k rings)) ≡ (list_any f (ring_edges ring) || list_any f (edges_of (drop (k + 1) rings)))
any_more f rings k ring g =
    ap (λ (rs : List (List Point)). list_any f (edges_of rs)) (drop_at_get rings k ring g) ∙ list_any-append f (ring_edges ring) (edges_of (drop (k + 1) rings))
