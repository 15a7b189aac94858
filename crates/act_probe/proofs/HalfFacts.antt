-- A list whose items were changed up to a place.
use Rattle.std.proofs.Common.{◌≡◌, ◌≢◌, ℕ, zero, suc, ◌+◌, ◌<◌, ◌≤◌, ◌⊎◌, inl, inr, refl, sym, ap, ◌∙◌, subst, arith, List, [], ◌∷◌, length, map, take, drop, ◌++◌, append-nil, get_or, get_or-set_same, get_or-set_other}
use Rattle.std.proofs.Math.ListN.{set, length-set}
use Rattle.std.proofs.lemmas.List.{drop_all, take_all}
use Rattle.std.specs.List.{All}

pub record Half {X : Type 0} (P Q : X → Type 0) (i : ℕ) (xs : List X) : Type 0 where
  pub done : (k : ℕ) (d : X) → k < i → Q (get_or xs k d)
  pub left : (k : ℕ) (d : X) → i ≤ k → k < length xs → P (get_or xs k d)

module _ {X : Type 0} (P Q : X → Type 0) where
  pub half_none : (xs : List X) → All P xs → Half P Q 0 xs
  half_none xs all = record { done = λ k d below. absurd (omega arith); left = λ k d above within. all k d within }

  pub half_all : (xs : List X) (i : ℕ) → Half P Q i xs → length xs ≤ i → All Q xs
  half_all xs i half end = λ k d within. half.done k d (omega (arith, within, end))

  pub half_more : (xs : List X) (i : ℕ) (v : X) → Half P Q i xs → i < length xs → Q v → Half P Q (i + 1) (set xs i v)
  half_more xs i v half within here = record {
    done = λ k d below. by_done k d (sides k) below;
    left = λ k d above inside. (
        let long : k < length xs = omega (arith, inside, length-set xs i v) in
        let off : k ≢ i = λ e. omega (arith, e, above) in
        subst P (sym (get_or-set_other xs i k v d off)) (half.left k d (omega (arith, above)) long));
  }
    where
      sides : (k : ℕ) → (k ≡ i) ⊎ (k ≢ i)
      sides k = grind arith

      by_done : (k : ℕ) (d : X) → (k ≡ i) ⊎ (k ≢ i) → k < i + 1 → Q (get_or (set xs i v) k d)
      by_done k d (inl e) below = subst Q (sym (ap (λ n. get_or (set xs i v) n d) e ∙ get_or-set_same xs i v d within)) here
      by_done k d (inr off) below = subst Q (sym (get_or-set_other xs i k v d off)) (half.done k d (omega (arith, below, off)))

-- what a changed item keeps is kept of the list
pub map_kept : {X A : Type 0} (f : X → A) (xs : List X) (i : ℕ) (v d : X) → f v ≡ f (get_or xs i d) → map f (set xs i v) ≡ map f xs
map_kept f [] i v d e = refl
map_kept f (x ∷ xs) zero v d e = ap (λ a. a ∷ map f xs) e
map_kept f (x ∷ xs) (suc i) v d e = ap (λ l. f x ∷ l) (map_kept f xs i v d e)

-- a slice of a whole list was written
pub written : {X : Type 0} (xs ys : List X) (n : ℕ) → length ys ≡ length xs → n ≡ length xs → take n (ys ++ drop (length ys) xs) ≡ ys
written xs ys n long all = rw (drop_all (length ys) xs (omega (arith, long))) (ap (take n) (append-nil ys) ∙ take_all n ys (omega (arith, long, all)))
