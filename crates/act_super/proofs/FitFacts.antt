-- The trained cells that fit.
use Rattle.std.proofs.Common.{◌≡◌, ℕ, zero, suc, ◌≤◌, ◌⊎◌, inl, inr, refl, sym, ap, ◌∙◌, arith, append_assoc, Bool, true, false, List, [], ◌∷◌, ◌++◌, length, length-append, take}
use Rattle.std.proofs.lemmas.Bool.Decides.{nat_tests}
use Rattle.act_grid.specs.declared.Settings.{Settings}
use Rattle.act_grid.specs.Cell.{Address}
use Rattle.act_super.specs.declared.entry.Zone.{Zone}
use Rattle.act_super.specs.Sizes.{rows_with}
use Rattle.act_super.specs.Training.{fit, fit_after, fits}

append_nil : {X : Type 0} (xs : List X) → xs ++ [] ≡ xs
append_nil [] = refl
append_nil (x ∷ xs) = ap (λ r. x ∷ r) (append_nil xs)

-- of no cells none is trained
pub fit_none : (settings : Settings) (zones : List Zone) → fit settings zones [] ≡ []
unfolding fit
fit_none settings zones = refl

module _ (settings : Settings) (zones : List Zone) where
  -- the cells up to the first one that doesn't fit
  after_is : (taken cells : List Address) (n : ℕ) → n ≤ length cells
      → ((m : ℕ) → 1 ≤ m → m ≤ n → fits settings zones (taken ++ take m cells) ≡ true)
      → (n ≡ length cells) ⊎ (fits settings zones (taken ++ take (suc n) cells) ≡ false)
      → fit_after settings zones taken cells ≡ taken ++ take n cells
  after_is taken [] zero within each last = sym (append_nil taken)
  after_is taken [] (suc n) within each last = absurd (omega arith)
  after_is taken (c ∷ cells) zero within each (inl all) = absurd (omega arith)
  after_is taken (c ∷ cells) zero within each (inr bad) = rw bad (sym (append_nil taken))
  after_is taken (c ∷ cells) (suc n) within each last =
      rw (each 1 (omega arith) (omega arith))
      (after_is (taken ++ (c ∷ [])) cells n (omega arith) (λ m least most. ap (fits settings zones) (append_assoc taken (c ∷ []) (take m cells)) ∙ each (suc m) (omega arith) (omega arith)) (rest last)
      ∙ append_assoc taken (c ∷ []) (take n cells))
    where
      rest : (suc n ≡ length (c ∷ cells)) ⊎ (fits settings zones (taken ++ take (suc (suc n)) (c ∷ cells)) ≡ false)
          → (n ≡ length cells) ⊎ (fits settings zones ((taken ++ (c ∷ [])) ++ take (suc n) cells) ≡ false)
      rest (inl all) = inl (omega (arith, all))
      rest (inr bad) = inr (ap (fits settings zones) (append_assoc taken (c ∷ []) (take (suc n) cells)) ∙ bad)

  pub fit_is : (cells : List Address) (n : ℕ) → n ≤ length cells → ((m : ℕ) → 1 ≤ m → m ≤ n → fits settings zones (take m cells) ≡ true)
      → (n ≡ length cells) ⊎ (fits settings zones (take (suc n) cells) ≡ false) → fit settings zones cells ≡ take n cells
  unfolding fit
  fit_is cells n within each last = after_is [] cells n within each last

  -- what is taken is its own Fit
  record Taken (taken cells : List Address) : Type 0 where
    pub rest : List Address
    pub is : fit_after settings zones taken cells ≡ taken ++ rest
    pub again : fit_after settings zones taken rest ≡ taken ++ rest

  taken_of : (taken cells : List Address) → Taken taken cells
  taken_of taken [] = record { rest = []; is = sym (append_nil taken); again = sym (append_nil taken) }
  taken_of taken (c ∷ cells) = by (fits settings zones (taken ++ (c ∷ []))) refl (taken_of (taken ++ (c ∷ [])) cells)
    where
      by : (b : Bool) → fits settings zones (taken ++ (c ∷ [])) ≡ b → Taken (taken ++ (c ∷ [])) cells → Taken taken (c ∷ cells)
      by true e t = record {
        rest = c ∷ t.rest;
        is = rw e (t.is ∙ append_assoc taken (c ∷ []) t.rest);
        again = rw e (t.again ∙ append_assoc taken (c ∷ []) t.rest);
      }
      by false e t = record { rest = []; is = rw e (sym (append_nil taken)); again = sym (append_nil taken) }

  pub fit_kept : (cells : List Address) → fit settings zones (fit settings zones cells) ≡ fit settings zones cells
  unfolding fit
  fit_kept cells =
      let t = taken_of [] cells in
      ap (fit_after settings zones []) t.is ∙ t.again ∙ sym t.is

  -- cells that are their own Fit fit at each step
  steps : (taken cells : List Address) → fit_after settings zones taken cells ≡ taken ++ cells → (m : ℕ) → 1 ≤ m → m ≤ length cells → fits settings zones (taken ++ take m cells) ≡ true
  steps taken [] e m least within = absurd (omega arith)
  steps taken (c ∷ cells) e zero least within = absurd (omega arith)
  steps taken (c ∷ cells) e (suc m) least within = by (steps (taken ++ (c ∷ [])) cells) (fits settings zones (taken ++ (c ∷ []))) refl
    where
      Next : Type 0
      Next = fit_after settings zones (taken ++ (c ∷ [])) cells ≡ (taken ++ (c ∷ [])) ++ cells → (m : ℕ) → 1 ≤ m → m ≤ length cells → fits settings zones ((taken ++ (c ∷ [])) ++ take m cells) ≡ true

      by : Next → (b : Bool) → fits settings zones (taken ++ (c ∷ [])) ≡ b → fits settings zones (taken ++ take (suc m) (c ∷ cells)) ≡ true
      by next false f =
          let none : taken ≡ taken ++ (c ∷ cells) = rw f at e in
          absurd (omega (arith, ap (λ xs. length xs) none, length-append taken (c ∷ cells)))
      by next true f = further m within f
        where
          further : (m : ℕ) → suc m ≤ length (c ∷ cells) → fits settings zones (taken ++ (c ∷ [])) ≡ true → fits settings zones (taken ++ take (suc m) (c ∷ cells)) ≡ true
          further zero within f = f
          further (suc m) within f =
              let on : fit_after settings zones (taken ++ (c ∷ [])) cells ≡ taken ++ (c ∷ cells) = rw f at e in
              ap (fits settings zones) (sym (append_assoc taken (c ∷ []) (take (suc m) cells)))
              ∙ next (on ∙ sym (append_assoc taken (c ∷ []) cells)) (suc m) (omega arith) (omega arith)

  pub kept_steps : (cells : List Address) → fit settings zones cells ≡ cells → (m : ℕ) → 1 ≤ m → m ≤ length cells → rows_with settings zones (take m cells) ≤ settings.rows
  unfolding fit
  kept_steps cells e m least within = second (steps [] cells e m least within)
    where
      second : fits settings zones (take m cells) ≡ true → rows_with settings zones (take m cells) ≤ settings.rows
      second f = grind (arith, nat_tests)
