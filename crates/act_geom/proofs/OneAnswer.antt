-- A shape whose edges all miss a hull has one answer on its points.
use Rattle.std.proofs.Common.{◌≡◌, ℤ, ◌≤ℤ◌, ◌⊎◌, inl, inr, refl, sym, ap, ◌∙◌, arith, Bool, false, List, [], ◌∷◌}
use Rattle.std.proofs.lemmas.Int.{ints}
use Rattle.std.proofs.lemmas.List.Elements.{All-head, All-tail}
use Rattle.std.specs.List.{All}
use Rattle.act_grid.specs.Hull.{IsIn}
use Rattle.act_geom.specs.Edges.{Edge, edges_to, ring_edges, edges_of}
use Rattle.act_geom.specs.Inside.{counts, differ, is_odd_by, is_inside}
use Rattle.act_geom.specs.Touch.{Misses}
use Rattle.act_grid.specs.declared.Point.{Point}
use Rattle.act_grid.specs.declared.Hull.{Hull}
use Rattle.act_geom.proofs.Parity.{odd_append}
use Rattle.act_geom.proofs.OneEdge.{marked, edge_law}

swapped : (a b c d : Bool) → differ (differ a b) (differ c d) ≡ differ (differ a c) (differ b d)
swapped a b c d = grind arith

-- the tests of two functions that differ as a third one says
odd_differ : {X : Type 0} (f g m : X → Bool) (xs : List X) → All (λ x. differ (f x) (g x) ≡ m x) xs → differ (is_odd_by f xs) (is_odd_by g xs) ≡ is_odd_by m xs
odd_differ f g m [] h = refl
odd_differ f g m (x ∷ xs) h =
    swapped (f x) (is_odd_by f xs) (g x) (is_odd_by g xs)
    ∙ ap (λ v. differ v (differ (is_odd_by f xs) (is_odd_by g xs))) (All-head (λ x. differ (f x) (g x) ≡ m x) x xs h)
    ∙ ap (differ (m x)) (odd_differ f g m xs (All-tail (λ x. differ (f x) (g x) ≡ m x) x xs h))

abbrev at_ends : (Point → Bool) → Edge → Bool
at_ends k e = differ (k e.a) (k e.b)

-- along a path only its ends count
path_odd : (k : Point → Bool) (first a : Point) (rest : List Point) → is_odd_by (at_ends k) (edges_to first (a ∷ rest)) ≡ differ (k a) (k first)
path_odd k first a [] = one (k a) (k first)
  where
    one : (u v : Bool) → differ (differ u v) false ≡ differ u v
    one u v = grind arith
path_odd k first a (b ∷ rest) = ap (differ (differ (k a) (k b))) (path_odd k first b rest) ∙ joined (k a) (k b) (k first)
  where
    joined : (u v w : Bool) → differ (differ u v) (differ v w) ≡ differ u w
    joined u v w = grind arith

ring_even : (k : Point → Bool) (ring : List Point) → is_odd_by (at_ends k) (ring_edges ring) ≡ false
ring_even k [] = refl
ring_even k (a ∷ rest) = path_odd k a a rest ∙ none (k a)
  where
    none : (u : Bool) → differ u u ≡ false
    none u = grind arith

shape_even : (k : Point → Bool) (shape : List (List Point)) → is_odd_by (at_ends k) (edges_of shape) ≡ false
shape_even k [] = refl
shape_even k (r ∷ rest) =
    odd_append (at_ends k) (ring_edges r) (edges_of rest) ∙ both (ring_even k r) (shape_even k rest)
  where
    both : {u v : Bool} → u ≡ false → v ≡ false → differ u v ≡ false
    both h k = cc

ordered : (h : Hull) (shape : List (List Point)) (p q : Point) → Misses h shape → IsIn h p → IsIn h q → p.y ≤ℤ q.y → is_inside shape p ≡ is_inside shape q
ordered h shape p q misses ip iq le =
    let each : All (λ e. differ (counts p e) (counts q e) ≡ at_ends (marked h p q) e) (edges_of shape) =
    λ n d l. edge_law h p q _ (misses n d l) ip iq le in
    same _ _ (odd_differ (counts p) (counts q) (at_ends (marked h p q)) (edges_of shape) each ∙ shape_even (marked h p q) shape)
  where
    same : (u v : Bool) → differ u v ≡ false → u ≡ v
    same u v e = grind arith

pub one_answer : (h : Hull) (shape : List (List Point)) (p q : Point) → Misses h shape → IsIn h p → IsIn h q → is_inside shape p ≡ is_inside shape q
one_answer h shape p q misses ip iq =
    elim (either p.y q.y) [ inl le ↦ ordered h shape p q misses ip iq le | inr le ↦ sym (ordered h shape q p misses iq ip le) ]
  where
    either : (a b : ℤ) → (a ≤ℤ b) ⊎ (b ≤ℤ a)
    either a b = grind (arith, ints)
