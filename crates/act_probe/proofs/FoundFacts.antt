-- The zones of a leaf's references that are found are those that hold the point.
use Rattle.std.proofs.Common.{◌≡◌, ℕ, suc, ◌+◌, ◌≤◌, Bool, true, false, not, cond, ◌&&◌, ◌||◌, refl, ap, ◌∙◌, arith, List, [], ◌∷◌, length, map}
use Rattle.std.specs.Prelude.{sum_by}
use Rattle.std.proofs.lemmas.List.Sums.{sum_by-cons}
use Rattle.act_grid.specs.declared.layers.Layers.{Layers}
use Rattle.act_grid.specs.declared.Point.{Point}
use Rattle.act_grid.specs.Hull.{IsIn}
use Rattle.act_grid.specs.Cell.{Address, hull_of}
use Rattle.act_grid.specs.Layers.{has_layer, layer_of}
use Rattle.act_geom.specs.Inside.{is_inside}
use Rattle.act_geom.specs.declared.class.Class.{Class}
use Rattle.act_geom.specs.declared.class.Class.TheVariants.{Inside, Outside, Mixed}
use Rattle.act_geom.proofs.ClassFacts.{answer_inside, answer_outside}
use Rattle.act_cover.specs.Covering.{class_at, is_on, is_within}
use Rattle.act_super.specs.declared.entry.Zone.{Zone}
use Rattle.act_super.specs.Grounds.{is_mixed}
use Rattle.act_super.specs.Joins.{zones_at}
use Rattle.act_probe.specs.Chains.{found_keys, found_reads, is_found, ref_reads}
use Rattle.act_probe.specs.Reads.{body_reads, test_reads}
use Rattle.act_probe.proofs.StandFacts.{hit_on, zones_on}

-- what a class says of a point
record Says (class : Class) (inside : Bool) : Type 0 where
  pub out : is_on class ≡ false → inside ≡ false
  pub hit : is_within class ≡ true → inside ≡ true

says : (leaf : Address) (p : Point) (zone : Zone) → IsIn (hull_of leaf) p → Says (class_at zone.shape leaf) (is_inside zone.shape p)
unfolding class_at
says leaf p zone inside = by (class_at zone.shape leaf) (answer_inside zone.shape (hull_of leaf) p inside) (answer_outside zone.shape (hull_of leaf) p inside)
  where
    by : (k : Class) → (k ≡ Inside → is_inside zone.shape p ≡ true) → (k ≡ Outside → is_inside zone.shape p ≡ false) → Says k (is_inside zone.shape p)
    by Inside yes_ no_ = record { out = λ e. cc; hit = λ e. yes_ refl }
    by Outside yes_ no_ = record { out = λ e. no_ refl; hit = λ e. cc }
    by Mixed yes_ no_ = record { out = λ e. cc; hit = λ e. cc }

picked : (on hit inside has : Bool) (k : ℕ) (ks : List ℕ) → (on ≡ false → inside ≡ false) → (hit ≡ true → inside ≡ true)
    → cond on (cond (has && (hit || inside)) (k ∷ ks) ks) ks ≡ cond (has && inside) (k ∷ ks) ks
picked true true inside has k ks out yes_ = rw (yes_ refl) refl
picked true false inside has k ks out yes_ = refl
picked false hit inside true k ks out yes_ = rw (out refl) refl
picked false hit inside false k ks out yes_ = refl

module _ (layers : Layers) (p : Point) (leaf : Address) (inside : IsIn (hull_of leaf) p) where
  pub found_is : (zones : List Zone) → found_keys layers p (hit_on leaf) (zones_on leaf zones) ≡ map (λ (zone : Zone). zone.key) (zones_at layers zones p)
  found_is [] = refl
  found_is (zone ∷ zones) =
      on_first (is_on (class_at zone.shape leaf))
      ∙ picked (is_on (class_at zone.shape leaf)) (hit_on leaf zone) (is_inside zone.shape p) (has_layer layers (layer_of zone.key)) zone.key (found_keys layers p (hit_on leaf) (zones_on leaf zones))
      (says leaf p zone inside).out (says leaf p zone inside).hit
      ∙ at_first (has_layer layers (layer_of zone.key) && is_inside zone.shape p) (found_is zones)
    where
      on_first : (b : Bool) → found_keys layers p (hit_on leaf) (cond b (zone ∷ zones_on leaf zones) (zones_on leaf zones))
          ≡ cond b (cond (is_found layers p (hit_on leaf zone) zone) (zone.key ∷ found_keys layers p (hit_on leaf) (zones_on leaf zones)) (found_keys layers p (hit_on leaf) (zones_on leaf zones)))
          (found_keys layers p (hit_on leaf) (zones_on leaf zones))
      on_first true = refl
      on_first false = refl

      at_first : (b : Bool) → found_keys layers p (hit_on leaf) (zones_on leaf zones) ≡ map (λ (z : Zone). z.key) (zones_at layers zones p)
          → cond b (zone.key ∷ found_keys layers p (hit_on leaf) (zones_on leaf zones)) (found_keys layers p (hit_on leaf) (zones_on leaf zones))
          ≡ map (λ (z : Zone). z.key) (cond b (zone ∷ zones_at layers zones p) (zones_at layers zones p))
      at_first true rest = ap (λ ks. zone.key ∷ ks) rest
      at_first false rest = rest

-- the words of a zone's reference, by its class
words_more : (k : Class) (has : Bool) (body found long tests total : ℕ) → found ≤ long + tests → total ≡ cond (is_mixed k && has) body 0 + tests
    → cond (is_on k) (1 + cond (has && not (is_within k)) body 0 + found) found ≤ cond (is_on k) (suc long) long + total
words_more Inside true body found long tests total rest all = omega (arith, rest, all)
words_more Inside false body found long tests total rest all = omega (arith, rest, all)
words_more Outside has body found long tests total rest all = omega (arith, rest, all)
words_more Mixed true body found long tests total rest all = omega (arith, rest, all)
words_more Mixed false body found long tests total rest all = omega (arith, rest, all)

-- the words of the references, and of the zones that are tested
module _ (layers : Layers) (leaf : Address) where
  pub reads_are : (zones : List Zone) → found_reads layers (hit_on leaf) (zones_on leaf zones) ≤ length (zones_on leaf zones) + sum_by (test_reads layers leaf) zones
  reads_are [] = omega arith
  reads_are (zone ∷ zones) =
      rw (found_first (is_on (class_at zone.shape leaf)), long_first (is_on (class_at zone.shape leaf))) (
      words_more (class_at zone.shape leaf) (has_layer layers (layer_of zone.key)) (body_reads zone) (found_reads layers (hit_on leaf) (zones_on leaf zones))
      (length (zones_on leaf zones)) (sum_by (test_reads layers leaf) zones) (sum_by (test_reads layers leaf) (zone ∷ zones)) (reads_are zones) (sum_by-cons (test_reads layers leaf) zone zones)
      )
    where
      found_first : (b : Bool) → found_reads layers (hit_on leaf) (cond b (zone ∷ zones_on leaf zones) (zones_on leaf zones))
          ≡ cond b (ref_reads layers (hit_on leaf zone) zone + found_reads layers (hit_on leaf) (zones_on leaf zones)) (found_reads layers (hit_on leaf) (zones_on leaf zones))
      found_first true = refl
      found_first false = refl

      long_first : (b : Bool) → length (cond b (zone ∷ zones_on leaf zones) (zones_on leaf zones)) ≡ cond b (suc (length (zones_on leaf zones))) (length (zones_on leaf zones))
      long_first true = refl
      long_first false = refl
