-- A first plan over the image of no zones stands for its state.
use Rattle.std.proofs.Common.{◌≡◌, ◌≢◌, ℕ, zero, suc, ◌+◌, ◌^◌, ◌<◌, ◌≤◌, ◌⊎◌, inl, inr, Bool, true, false, cond, ◌==◌, eqb, refl, sym, ap, ◌∙◌, subst, arith, List, [], ◌∷◌, length, get_or, drop}
use Rattle.std.proofs.lemmas.Bool.{le-ltb, lt-ltb}
use Rattle.std.proofs.lemmas.Bool.Decides.{eqb_tells}
use Rattle.std.proofs.lemmas.List.{drop_all, drop_more}
use Rattle.act_grid.specs.declared.Settings.{Settings}
use Rattle.act_base.specs.Counting.{from, times}
use Rattle.act_base.specs.Sight.{Sight}
use Rattle.act_base.proofs.Times.{from_once, from_ranged, times_else, times_get, times_here}
use Rattle.act_super.specs.declared.entry.State.{State}
use Rattle.act_super.specs.States.{nothing}
use Rattle.act_super.specs.Stands.{IsBlank, Stands}
use Rattle.act_image.specs.Pics.{IsBound, IsFresh, IsPlan, Makes, Opens, Pic, Planned, Shows, empty_sight, firsts_in, installed, layout_in, planned_word, renewed, row_at, rows_in, with_numbers}
use Rattle.act_image.proofs.BindFacts.{bound}

-- ---- where a row stands
pub row_here : (rows : List ℕ) (i r : ℕ) → i < length rows → get_or rows i 0 ≡ r → times rows r ≤ 1 → row_at rows r ≡ i
row_here [] i r low is once = absurd (omega (arith, low))
row_here (x ∷ rows) zero r low is once = ap (λ b. cond b 0 (suc (row_at rows r))) (Rattle.std.proofs.Common.eq-eqb x r is)
row_here (x ∷ rows) (suc i) r low is once = by (eqb_tells x r) (λ few. row_here rows i r (omega (arith, low)) is few)
  where
    there : 0 < times rows r
    there = subst (λ v. 0 < times rows v) is (times_get rows i 0 (omega (arith, low)))

    by : ((eqb x r ≡ true) × (x ≡ r)) ⊎ ((eqb x r ≡ false) × (x ≢ r)) → (times rows r ≤ 1 → row_at rows r ≡ i) → cond (x == r) 0 (suc (row_at rows r)) ≡ suc i
    by (inl same) more =
        let one : times (x ∷ rows) r ≡ 1 + times rows r = subst (λ v. times (x ∷ rows) v ≡ 1 + times rows v) same.1 (times_here x rows) in
        absurd (omega (arith, one, once, there))
    by (inr other) more =
        let no : (x == r) ≡ false = other.0 in
        ap (λ b. cond b 0 (suc (row_at rows r))) no ∙ ap suc (more (omega (arith, once, times_else x r rows other.1)))

pub row_found : (rows : List ℕ) (i r : ℕ) → i < length rows → get_or rows i 0 ≡ r → row_at rows r ≡ i + row_at (drop i rows) r → i ≡ row_at rows r
row_found rows i r low is h =
    let here : row_at (drop i rows) r ≡ 0 =
    ap (λ v. row_at v r) (drop_more rows i 0 low) ∙ ap (λ b. cond b 0 (suc (row_at (drop (i + 1) rows) r))) (Rattle.std.proofs.Common.eq-eqb (get_or rows i 0) r is) in
    omega (arith, h, here)

pub row_later : (rows : List ℕ) (i r : ℕ) → i < length rows → get_or rows i 0 ≢ r → row_at rows r ≡ i + row_at (drop i rows) r → row_at rows r ≡ i + 1 + row_at (drop (i + 1) rows) r
row_later rows i r low ne h =
    let no : (get_or rows i 0 == r) ≡ false = Rattle.std.proofs.lemmas.Bool.ne_eqb (get_or rows i 0) r ne in
    let there : row_at (drop i rows) r ≡ suc (row_at (drop (i + 1) rows) r) =
    ap (λ v. row_at v r) (drop_more rows i 0 low) ∙ ap (λ b. cond b 0 (suc (row_at (drop (i + 1) rows) r))) no in
    omega (arith, h, there)

pub row_past : (rows : List ℕ) (i r : ℕ) → length rows ≤ i → row_at rows r ≡ i + row_at (drop i rows) r → row_at rows r ≡ i
row_past rows i r high h = let none = ap (λ v. row_at v r) (drop_all i rows high) in omega (arith, h, none)

row_none : (rows : List ℕ) (r : ℕ) → times rows r ≡ 0 → row_at rows r ≡ length rows
row_none [] r none = refl
row_none (x ∷ rows) r none = by (eqb_tells x r) (λ more. row_none rows r more)
  where
    by : ((eqb x r ≡ true) × (x ≡ r)) ⊎ ((eqb x r ≡ false) × (x ≢ r)) → (times rows r ≡ 0 → row_at rows r ≡ length rows) → cond (x == r) 0 (suc (row_at rows r)) ≡ suc (length rows)
    by (inl same) more =
        let one : times (x ∷ rows) r ≡ 1 + times rows r = subst (λ v. times (x ∷ rows) v ≡ 1 + times rows v) same.1 (times_here x rows) in
        absurd (omega (arith, one, none))
    by (inr other) more =
        let no : (x == r) ≡ false = other.0 in
        ap (λ b. cond b 0 (suc (row_at rows r))) no ∙ ap suc (more (omega (arith, none, times_else x r rows other.1)))

-- ---- the first plan
blank_is : IsBlank empty_sight
blank_is = record { rows = refl; firsts = refl; word = λ place low. refl }

first_fresh : (p : Pic) (need : ℕ) → rows_in p ≡ 1 ∷ [] → need ≤ 1000 → IsFresh p (from 2 need)
first_fresh p need rows few = record {
  once = λ r. (let same = ap (λ v. times v r) rows in by r (eqb_tells 1 r) (times (from 2 need) r) (from_once 2 need r) (λ some. (from_ranged 2 need r some).0) same);
  low = λ r some. (let both = from_ranged 2 need r some in (omega (arith, both.0), (let small : r < 1002 = omega (arith, both.1, few) in omega (arith, small))));
}
  where
    by : (r : ℕ) → ((eqb 1 r ≡ true) × (1 ≡ r)) ⊎ ((eqb 1 r ≡ false) × (1 ≢ r)) → (n : ℕ) → n ≤ 1 → (0 < n → 2 ≤ r) → times (rows_in p) r ≡ times (1 ∷ []) r → n + times (rows_in p) r ≤ 1
    by r (inl same) n one ranged e = none r same.1 n one ranged (e ∙ ap (λ b. cond b 1 0 + 0) same.0)
      where
        none : (r : ℕ) → 1 ≡ r → (n : ℕ) → n ≤ 1 → (0 < n → 2 ≤ r) → times (rows_in p) r ≡ 1 + 0 → n + times (rows_in p) r ≤ 1
        none r is zero one ranged e = omega (arith, e)
        none r is (suc n) one ranged e = let two = ranged (omega arith) in absurd (omega (arith, two, is))
    by r (inr other) n one ranged e = let zero_times : times (1 ∷ []) r ≡ 0 + 0 = ap (λ b. cond b 1 0 + 0) other.0 in omega (arith, one, e, zero_times)

-- what a plan that has its rows makes of an image
pub makes : (p : Pic) (q : Planned) (old : Sight) → ((r : ℕ) → times q.rows r ≤ 1) → Makes p q old (renewed old q)
unfolding rows_in firsts_in installed
makes p q old once = record {
  rows = refl;
  firsts = refl;
  stay = λ r place some none small.
      ap (λ b. cond b (planned_word q (row_at q.rows r) place) (old.word r place)) (le-ltb (row_at q.rows r) (length q.rows) (omega (arith, row_none q.rows r none)));
  fresh = λ i place low small. (
      let at = row_here q.rows i (get_or q.rows i 0) low refl (once (get_or q.rows i 0)) in
      ap (λ b. cond b (planned_word q (row_at q.rows (get_or q.rows i 0)) place) (old.word (get_or q.rows i 0) place)) (lt-ltb (row_at q.rows (get_or q.rows i 0)) (length q.rows) (omega (arith, at, low)))
      ∙ ap (λ k. planned_word q k place) at);
}

stands_by : (settings : Settings) (p : Pic) (q : Planned) (state new : State) (plan : IsPlan settings p q state new) (rows : List ℕ) (fresh : IsFresh p rows) (long : length rows ≡ q.need) (old : Sight) → Shows settings p old state
    → Stands settings (renewed old (with_numbers q rows)) (with_numbers q rows).root new
stands_by settings p q state new plan rows fresh long old shown =
    let b = bound settings p q state new plan rows fresh long in
    let x = renewed old (with_numbers q rows) in
    let shows = b.shows old x shown (makes p (with_numbers q rows) old (λ r. omega (arith, fresh.once r))) in
    record {
      served = shows.served;
      layout = layout_in (installed p (with_numbers q rows));
      by_rows = subst (λ root. Rattle.act_super.specs.Stands.StandsBy settings x root new (layout_in (installed p (with_numbers q rows)))) b.top shows.by_rows;
    }

pub first_shown : (settings : Settings) (p : Pic) (state : State) → Opens p → state ≡ nothing → (x : Sight) × Shows settings p x state
first_shown settings p state opens empty = (empty_sight, subst (Shows settings p empty_sight) (sym empty) (opens.2 settings empty_sight blank_is))

pub first_stands : (settings : Settings) (p : Pic) (old q : Planned) (state new : State) (rows : List ℕ) → Opens p → state ≡ nothing → IsPlan settings p old state new → q ≡ with_numbers old rows
    → length rows ≡ old.need → rows ≡ from 2 old.need → old.need ≤ 1000 → Stands settings (renewed empty_sight q) q.root new
first_stands settings p old q state new rows opens empty plan is long numbered few =
    let fresh : IsFresh p rows = subst (IsFresh p) (sym numbered) (first_fresh p old.need opens.1 few) in
    let shown : Shows settings p empty_sight state = subst (Shows settings p empty_sight) (sym empty) (opens.2 settings empty_sight blank_is) in
    subst (λ (z : Planned). Stands settings (renewed empty_sight z) z.root new) (sym is) (stands_by settings p old state new plan rows fresh long empty_sight shown)

-- the image after a first plan
module _ (settings : Settings) (p : Pic) (q : Planned) (state new : State) (rows : List ℕ) (opens : Opens p) (empty : state ≡ nothing) (plan : IsPlan settings p q state new) (long : length rows ≡ q.need) (numbered : rows ≡ from 2 q.need) (few : q.need ≤ 1000) where
  fresh : IsFresh p rows
  fresh = subst (IsFresh p) (sym numbered) (first_fresh p q.need opens.1 few)

  pub first_bound : IsBound settings p (with_numbers q rows) state new
  first_bound = bound settings p q state new plan rows fresh long

  pub first_settled : (x : Sight) × Shows settings (installed p (with_numbers q rows)) x new
  first_settled =
      let shown : Shows settings p empty_sight state = subst (Shows settings p empty_sight) (sym empty) (opens.2 settings empty_sight blank_is) in
      (renewed empty_sight (with_numbers q rows), first_bound.shows empty_sight (renewed empty_sight (with_numbers q rows)) shown (makes p (with_numbers q rows) empty_sight (λ r. omega (arith, fresh.once r))))
