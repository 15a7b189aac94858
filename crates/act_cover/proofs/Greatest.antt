-- What the level of a covering says.
use Rattle.std.proofs.Common.{◌≡◌, ℕ, zero, suc, ◌≤◌, ◌⊎◌, inl, inr, refl, sym, ap, ◌∙◌, subst, arith, Bool, true, false, cond, ◌&&◌, leb, List, length}
use Rattle.std.proofs.lemmas.Bool.Decides.{nat_tests}
use Rattle.act_grid.specs.declared.Point.{Point}
use Rattle.act_cover.specs.Covering.{cells_at}
use Rattle.act_cover.specs.Level.{fits_to, greatest, level_of}
use Rattle.act_cover.proofs.LevelFacts.{root_fits}

greatest_below : (test : ℕ → Bool) (n : ℕ) → greatest test n ≤ n
unfolding greatest
greatest_below test zero = omega arith
greatest_below test (suc n) = by_case (test (suc n)) (greatest test n) (greatest_below test n)
  where
    by_case : (b : Bool) (m : ℕ) → m ≤ n → cond b (suc n) m ≤ suc n
    by_case true m h = omega arith
    by_case false m h = omega arith

greatest_passes : (test : ℕ → Bool) (n : ℕ) → test 0 ≡ true → test (greatest test n) ≡ true
unfolding greatest
greatest_passes test zero z = z
greatest_passes test (suc n) z = by_case (test (suc n)) refl (greatest_passes test n z)
  where
    by_case : (b : Bool) → test (suc n) ≡ b → test (greatest test n) ≡ true → test (cond b (suc n) (greatest test n)) ≡ true
    by_case true e f = e
    by_case false e f = f

none_greater : (test : ℕ → Bool) (n m : ℕ) → m ≤ n → test m ≡ true → m ≤ greatest test n
unfolding greatest
none_greater test zero m h t = h
none_greater test (suc n) m h t = by_case (test (suc n)) refl (λ k. none_greater test n m k t)
  where
    split : (a b : ℕ) → a ≤ suc b → (a ≡ suc b) ⊎ (a ≤ b)
    split a b h = grind arith

    never : false ≡ true → ⊥
    never q = cc

    by_case : (b : Bool) → test (suc n) ≡ b → (m ≤ n → m ≤ greatest test n) → m ≤ cond b (suc n) (greatest test n)
    by_case true e f = h
    by_case false e f = elim (split m n h) [ inl k ↦ absurd (never (sym e ∙ ap test (sym k) ∙ t)) | inr k ↦ f k ]

both : (a b : Bool) → (a && b) ≡ true → (a ≡ true) × (b ≡ true)
both a b h = grind arith

join : (a b : Bool) → a ≡ true → b ≡ true → (a && b) ≡ true
join a b h k = cc

at_most : (n most : ℕ) → leb n most ≡ true → n ≤ most
at_most n most h = grind (arith, nat_tests)

within : (n most : ℕ) → n ≤ most → leb n most ≡ true
within n most h = grind (arith, nat_tests)

fits_above : (rings : List (List Point)) (most level l : ℕ) → fits_to rings most level ≡ true → l ≤ level → length (cells_at rings l) ≤ most
unfolding fits_to
fits_above rings most zero l t h =
    let z : l ≡ 0 = omega arith in
    subst (λ (n : ℕ). length (cells_at rings n) ≤ most) (sym z) (at_most _ _ t)
fits_above rings most (suc level) l t h =
    let b : (fits_to rings most level ≡ true) × (leb (length (cells_at rings (suc level))) most ≡ true) = both _ _ t in
    elim (split l level h) [
      | inl k ↦ subst (λ (n : ℕ). length (cells_at rings n) ≤ most) (sym k) (at_most _ _ b.1)
      | inr k ↦ fits_above rings most level l b.0 k
    ]
  where
    split : (a b : ℕ) → a ≤ suc b → (a ≡ suc b) ⊎ (a ≤ b)
    split a b h = grind arith

all_fit : (rings : List (List Point)) (most m : ℕ) → ((l : ℕ) → l ≤ m → length (cells_at rings l) ≤ most) → fits_to rings most m ≡ true
unfolding fits_to
all_fit rings most zero h = within _ most (h 0 (omega arith))
all_fit rings most (suc m) h = join _ _ (all_fit rings most m (λ l i. h l (omega (arith, i)))) (within _ most (h (suc m) (omega arith)))

pub level_below : (rings : List (List Point)) (most : ℕ) → level_of rings most ≤ 28
unfolding level_of
level_below rings most = greatest_below (fits_to rings most) 28

pub level_fits : (rings : List (List Point)) (most l : ℕ) → 1 ≤ most → l ≤ level_of rings most → length (cells_at rings l) ≤ most
unfolding level_of
level_fits rings most l h i = fits_above rings most (greatest (fits_to rings most) 28) l (greatest_passes (fits_to rings most) 28 (root_fits rings most h)) i

pub level_greatest : (rings : List (List Point)) (most m : ℕ) → m ≤ 28 → ((l : ℕ) → l ≤ m → length (cells_at rings l) ≤ most) → m ≤ level_of rings most
unfolding level_of
level_greatest rings most m h f = none_greater (fits_to rings most) 28 m h (all_fit rings most m f)
