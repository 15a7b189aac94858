-- Sums over the views of all seats.
use Rattle.std.proofs.Common.{◌≡◌, ℕ, zero, suc, ◌+◌, ◌≤◌, List, [], ◌∷◌, ◌++◌, set, sym, refl, ap, arith}
use Rattle.std.proofs.lemmas.List.Sums.{sum_by-cons, sum_by_push}
use Rattle.std.specs.Prelude.{sum_by}
use mathlib.Core.Option.{some, some-injective, some-ne-none}
use lib.ListN.{get_elem?}

module _ {A : Type 0} (f : A → ℕ) where
  -- one view becomes another
  pub sum_set : (vs : List A) (i : ℕ) (v w : A) → get_elem? vs i ≡ some v → sum_by f (set vs i w) + f v ≡ sum_by f vs + f w
  sum_set [] i v w e = absurd (some-ne-none v (sym e))
  sum_set (x ∷ xs) zero v w e = let q : f x ≡ f v = ap f (some-injective x v e) in omega (arith, sum_by-cons f x xs, sum_by-cons f w xs)
  sum_set (x ∷ xs) (suc i) v w e = let h = sum_set xs i v w e in omega (arith, sum_by-cons f x xs, sum_by-cons f x (set xs i w))

  pub sum_more : (vs : List A) (w : A) → sum_by f (vs ++ w ∷ []) ≡ sum_by f vs + f w
  sum_more vs w = sum_by_push f vs w

  -- no view has more than all
  pub sum_has : (vs : List A) (i : ℕ) (v : A) → get_elem? vs i ≡ some v → f v ≤ sum_by f vs
  sum_has [] i v e = absurd (some-ne-none v (sym e))
  sum_has (x ∷ xs) zero v e = let q : f x ≡ f v = ap f (some-injective x v e) in omega (arith, sum_by-cons f x xs)
  sum_has (x ∷ xs) (suc i) v e = let h = sum_has xs i v e in omega (arith, sum_by-cons f x xs)

  -- where all views but the first have nothing, all have what the first has
  pub sum_first : (vs : List A) (v : A) → get_elem? vs 0 ≡ some v → ((i : ℕ) (w : A) → get_elem? vs (suc i) ≡ some w → f w ≡ 0) → sum_by f vs ≡ f v
  sum_first [] v e none = absurd (some-ne-none v (sym e))
  sum_first (x ∷ xs) v e none = let q : f x ≡ f v = ap f (some-injective x v e) in let r : sum_by f xs ≡ 0 = rest xs none in omega (arith, sum_by-cons f x xs)
    where
      rest : (xs : List A) → ((i : ℕ) (w : A) → get_elem? xs i ≡ some w → f w ≡ 0) → sum_by f xs ≡ 0
      rest [] none = refl
      rest (y ∷ ys) none = let a : f y ≡ 0 = none 0 y refl in let b : sum_by f ys ≡ 0 = rest ys (λ i. none (suc i)) in omega (arith, sum_by-cons f y ys)
