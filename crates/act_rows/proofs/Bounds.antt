-- The least bound.
use Rattle.std.proofs.Common.{◌≡◌, ℕ, zero, suc, ◌+◌, ◌<◌, ◌≤◌, List, [], ◌∷◌, length, sym, refl, arith, Option, Some, None}
use mathlib.Core.Option.{some, some-injective, some-ne-none}
use lib.ListN.{get_elem?}
use Rattle.act_rows.specs.Bounds.{least, raised, bound_at, lowest}

pub least_le : (n : ℕ) (bs : List (Option ℕ)) → least n bs ≤ n
least_le n [] = omega arith
least_le n (None ∷ bs) = least_le n bs
least_le n (Some c ∷ bs) = let h = least_le n bs in omega arith

-- no bound is below it
pub least_bound : (n : ℕ) (bs : List (Option ℕ)) (j c : ℕ) → get_elem? bs j ≡ some (Some c) → least n bs ≤ c
least_bound n [] j c e = absurd (some-ne-none (Some c) (sym e))
least_bound n (None ∷ bs) zero c e = absurd (cc)
least_bound n (Some b ∷ bs) zero c e = let h : b ≡ c = cc in omega arith
least_bound n (None ∷ bs) (suc j) c e = least_bound n bs j c e
least_bound n (Some b ∷ bs) (suc j) c e = let h = least_bound n bs j c e in omega arith

-- it is the greatest such number up to n
pub least_most : (m n : ℕ) (bs : List (Option ℕ)) → m ≤ n → ((j c : ℕ) → get_elem? bs j ≡ some (Some c) → m ≤ c) → m ≤ least n bs
least_most m n [] h all = h
least_most m n (None ∷ bs) h all = least_most m n bs h (λ j c e. all (suc j) c e)
least_most m n (Some b ∷ bs) h all = let here : m ≤ b = all zero b refl in let more : m ≤ least n bs = least_most m n bs h (λ j c e. all (suc j) c e) in omega arith

pub bound_is : (bs : List (Option ℕ)) (j c : ℕ) → get_elem? bs j ≡ some (Some c) → bound_at bs j ≡ c
bound_is [] j c e = absurd (some-ne-none (Some c) (sym e))
bound_is (None ∷ bs) zero c e = absurd (cc)
bound_is (Some b ∷ bs) zero c e = cc
bound_is (None ∷ bs) (suc j) c e = bound_is bs j c e
bound_is (Some b ∷ bs) (suc j) c e = bound_is bs j c e

pub raised_most : (n p c m : ℕ) → m ≤ n → m ≤ c → m ≤ raised n p c
raised_most n zero c m h g = h
raised_most n (suc p) c m h g = omega arith

pub raised_low : (n p c : ℕ) → p ≤ n + 1 → c ≤ n → raised n p c ≤ n
raised_low n zero c h g = omega arith
raised_low n (suc p) c h g = omega arith

-- a pin word that is up keeps the bound at or below the version that it stands for
pub raised_held : (n p c v : ℕ) → 0 < p → p ≤ v + 1 → c ≤ v → raised n p c ≤ v
raised_held n zero c v h g l = absurd (omega arith)
raised_held n (suc p) c v h g l = omega arith

pub lowest_within : (bs : List (Option ℕ)) → lowest bs ≤ length bs
lowest_within [] = omega arith
lowest_within (None ∷ bs) = omega arith
lowest_within (Some c ∷ bs) = let h = lowest_within bs in omega arith

-- the lowest free place is free
pub lowest_free : (bs : List (Option ℕ)) → lowest bs < length bs → get_elem? bs (lowest bs) ≡ some None
lowest_free [] h = absurd (omega arith)
lowest_free (None ∷ bs) h = refl
lowest_free (Some c ∷ bs) h = lowest_free bs (omega arith)

-- the lowest free place, looked for from the front
pub lowest_more : (bs : List (Option ℕ)) (i c : ℕ) → i ≤ lowest bs → get_elem? bs i ≡ some (Some c) → i + 1 ≤ lowest bs
lowest_more [] i c h e = absurd (some-ne-none (Some c) (sym e))
lowest_more (None ∷ bs) zero c h e = let q : None ≡ Some c = some-injective _ _ e in absurd (cc)
lowest_more (Some b ∷ bs) zero c h e = omega arith
lowest_more (None ∷ bs) (suc i) c h e = absurd (omega arith)
lowest_more (Some b ∷ bs) (suc i) c h e = let r = lowest_more bs i c (omega arith) e in omega arith

pub lowest_here : (bs : List (Option ℕ)) (i : ℕ) → i ≤ lowest bs → get_elem? bs i ≡ some None → lowest bs ≡ i
lowest_here [] i h e = absurd (some-ne-none None (sym e))
lowest_here (None ∷ bs) zero h e = refl
lowest_here (Some b ∷ bs) zero h e = let q : Some b ≡ None = some-injective _ _ e in absurd (cc)
lowest_here (None ∷ bs) (suc i) h e = absurd (omega arith)
lowest_here (Some b ∷ bs) (suc i) h e = let r = lowest_here bs i (omega arith) e in omega arith
