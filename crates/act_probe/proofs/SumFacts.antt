-- Sums over a list that is gone through.
use Rattle.std.proofs.Common.{◌≡◌, ℕ, ◌+◌, ◌-◌, ◌*◌, ◌≤◌, ◌<◌, ◌++◌, min, refl, sym, ap, ◌∙◌, arith, List, [], ◌∷◌, length, map, take, drop, get_or}
use Rattle.std.specs.Prelude.{sum_by}
use Rattle.std.specs.List.{All, AllByRecursion as Each}
use Rattle.std.proofs.Math.Seq.{take-add}
use Rattle.std.proofs.lemmas.List.{length-append, take_min}
use Rattle.std.proofs.lemmas.List.Elements.{recursion_from_All}
use Rattle.std.proofs.lemmas.List.Sums.{sum_by-cons, sum_by_more}

pub sum_by-map : {X Y : Type 0} (f : Y → ℕ) (g : X → Y) (xs : List X) → sum_by f (map g xs) ≡ sum_by (λ x. f (g x)) xs
sum_by-map f g [] = refl
sum_by-map f g (x ∷ xs) = sum_by-cons f (g x) (map g xs) ∙ ap (λ n. f (g x) + n) (sum_by-map f g xs) ∙ sym (sum_by-cons (λ y. f (g y)) x xs)

sums_few : {X : Type 0} (f g : X → ℕ) (xs : List X) → Each (λ x. f x ≤ g x) xs → sum_by f xs ≤ sum_by g xs
sums_few f g [] each = omega arith
sums_few f g (x ∷ xs) each = omega (arith, each.0, sums_few f g xs each.1, sum_by-cons f x xs, sum_by-cons g x xs)

module _ {X : Type 0} (f g : X → ℕ) (xs : List X) where
  pub sums_all : All (λ x. f x ≤ g x) xs → sum_by f xs ≤ sum_by g xs
  sums_all all = sums_few f g xs (recursion_from_All (λ x. f x ≤ g x) xs all)

  module _ (i old before new : ℕ) (d : X) (within : i < length xs) (few : before + sum_by f (take i xs) ≤ old + sum_by g (take i xs)) (one : new + f (get_or xs i d) ≤ before + g (get_or xs i d)) where
    pub went_on : new + sum_by f (take (i + 1) xs) ≤ old + sum_by g (take (i + 1) xs)
    went_on = omega (arith, few, one, sum_by_more f xs i d within, sum_by_more g xs i d within)

-- the next group of a list that is cut into groups of sixty-four
module _ {X : Type 0} (xs : List X) (k e : ℕ) (more : k * 64 < length xs) (end : e ≡ min (k * 64 + 64) (length xs)) where
  pub next_group : take ((k + 1) * 64) xs ≡ take (k * 64) xs ++ take (e - k * 64) (drop (k * 64) xs)
  next_group =
      let many : (k + 1) * 64 ≡ k * 64 + 64 = omega arith in
      let parts : e ≡ k * 64 + (e - k * 64) = omega (arith, end, more) in
      ap (λ n. take n xs) many ∙ sym (take_min (k * 64 + 64) xs) ∙ ap (λ n. take n xs) (sym end ∙ parts) ∙ take-add (k * 64) (e - k * 64) xs

  pub group_long : length (take ((k + 1) * 64) xs) ≡ length (take (k * 64) xs) + length (take (e - k * 64) (drop (k * 64) xs))
  group_long = ap length next_group ∙ length-append (take (k * 64) xs) (take (e - k * 64) (drop (k * 64) xs))
