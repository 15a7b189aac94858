-- A draw keeps the rule.
use Rattle.std.proofs.Common.{◌≡◌, ◌≢◌, ◌⊎◌, ℕ, ◌+◌, ◌^◌, ◌%◌, ◌<◌, ◌≤◌, Bool, false, List, [], ◌∷◌, get_or, set, cond, sym, refl, ap, ◌∙◌, subst, inl, inr, ⊎_elim, arith, length-set, get_or-set_same}
use Rattle.std.proofs.lemmas.Bool.{leb-true, leb-false, cases_Bool}
use Rattle.std.specs.Prelude.{sum_by}
use mathlib.Core.Logic.{dite}
use mathlib.Core.Option.{some, none}
use native.Mathlib.Decide.{ℕ_discrete}
use lib.ListN.{get_elem?}
use lib.Dec.{leb}
use Rattle.atomic_table.specs.Table.{State, step, keeps, Allows}
use Rattle.atomic_table.proofs.Lists.{at_set, set_else}
use Rattle.act_base.specs.Counting.{times}
use Rattle.act_base.proofs.Times.{times_here, times_else, times-append}
use Rattle.act_tally.specs.declared.rule.Sizes.{Sizes}
use Rattle.act_tally.specs.declared.views.Drawer.{Drawer}
use Rattle.act_tally.specs.declared.views.View.{View}
use Rattle.act_tally.specs.declared.views.View.TheVariants.{Draws}
use Rattle.act_tally.specs.Fair.{fetched_of, out_of, open_of, ended_of, count, Knows, Fair}
use Rattle.act_tally.specs.Steps.{drawn, draws}
use Rattle.act_tally.proofs.Sums.{sum_set, sum_has}

-- a number is the end, or a piece
pub end_or_piece : (pieces n : ℕ) → ((pieces ≤ n) × (◌≡◌ {A = ℕ} (cond (leb pieces n) 1 0) 1) × (◌≡◌ {A = ℕ} (cond (leb pieces n) 0 1) 0)) ⊎ ((n < pieces) × (◌≡◌ {A = ℕ} (cond (leb pieces n) 1 0) 0) × (◌≡◌ {A = ℕ} (cond (leb pieces n) 0 1) 1))
end_or_piece pieces n = elim (cases_Bool (leb pieces n)) [
  | inl e ↦ inl (leb-true pieces n e, ap (λ (b : Bool). let r : ℕ = cond b 1 0 in r) e, ap (λ (b : Bool). let r : ℕ = cond b 0 1 in r) e)
  | inr e ↦ inr (leb-false pieces n e, ap (λ (b : Bool). let r : ℕ = cond b 1 0 in r) e, ap (λ (b : Bool). let r : ℕ = cond b 0 1 in r) e)
]

module _ (S : Type 0) (k : Sizes) where
  abbrev Rule : State S View → Type 0
  Rule = Fair {S = S} k

  -- the sums after a draw of n, from those before
  pub record Sums (s : State S View) (views : List View) (n : ℕ) : Type 0 where
    pub out : sum_by out_of views ≡ sum_by out_of s.views
    pub both : sum_by ended_of views + sum_by open_of views ≡ sum_by ended_of s.views + sum_by open_of s.views
    pub ended : ((k.pieces ≤ n) × (sum_by ended_of views ≡ sum_by ended_of s.views + 1)) ⊎ ((n < k.pieces) × (sum_by ended_of views ≡ sum_by ended_of s.views))
    pub count : (x : ℕ) → count views x ≡ count s.views x + times (n ∷ []) x

  sums_drawn : (s : State S View) (id n : ℕ) (t : Drawer) → t.ended ≡ false → t.pieces ≡ k.pieces → get_elem? s.views id ≡ some (Draws t) → Sums s (set s.views id (Draws (drawn t n))) n
  sums_drawn s id n t go_on pieces_are at =
      let t' : Drawer = drawn t n in
      let was : ◌≡◌ {A = ℕ} (cond t.ended 1 0) 0 = ap (λ (b : Bool). let r : ℕ = cond b 1 0 in r) go_on in
      let was' : ◌≡◌ {A = ℕ} (cond t.ended 0 1) 1 = ap (λ (b : Bool). let r : ℕ = cond b 0 1 in r) go_on in
      let o = sum_set out_of s.views id (Draws t) (Draws t') at in
      let e = sum_set ended_of s.views id (Draws t) (Draws t') at in
      let p = sum_set open_of s.views id (Draws t) (Draws t') at in
      record {
        out = omega arith;
        both = ⊎_elim (λ (h : (t.pieces ≤ n) × (◌≡◌ {A = ℕ} (cond (leb t.pieces n) 1 0) 1) × (◌≡◌ {A = ℕ} (cond (leb t.pieces n) 0 1) 0)). let a = h.1 in let b = h.2 in omega arith)
            (λ (h : (n < t.pieces) × (◌≡◌ {A = ℕ} (cond (leb t.pieces n) 1 0) 0) × (◌≡◌ {A = ℕ} (cond (leb t.pieces n) 0 1) 1)). let a = h.1 in let b = h.2 in omega arith) (end_or_piece t.pieces n);
        ended = ⊎_elim (λ (h : (t.pieces ≤ n) × (◌≡◌ {A = ℕ} (cond (leb t.pieces n) 1 0) 1) × (◌≡◌ {A = ℕ} (cond (leb t.pieces n) 0 1) 0)). inl (let a = h.0 in omega arith, let a = h.1 in omega arith))
            (λ (h : (n < t.pieces) × (◌≡◌ {A = ℕ} (cond (leb t.pieces n) 1 0) 0) × (◌≡◌ {A = ℕ} (cond (leb t.pieces n) 0 1) 1)). inr (let a = h.0 in omega arith, let a = h.1 in omega arith)) (end_or_piece t.pieces n);
        count = λ x. let c = sum_set (λ v. times (fetched_of v) x) s.views id (Draws t) (Draws t') at in let a = times-append t.fetched (n ∷ []) x in omega arith;
      }

  pub draw_step : (slots id : ℕ) (t : Drawer) (c : List (ℕ × S)) → t.ended ≡ false → Allows Rule slots id (Draws t, c) 0 (λ n. (n + 1) % 2 ^ 64) (draws (step slots 0 1 0 none) (Draws t, c))
  draw_step slots id t c go_on s r deep at small =
      let n : ℕ = get_or s.words 0 0 in
      let pieces_are : t.pieces ≡ k.pieces = r.each id (Draws t) at in
      let t' : Drawer = drawn t n in
      let views : List View = set s.views id (Draws t') in
      let sums : Sums s views n = sums_drawn s id n t go_on pieces_are at in
      let low = r.low in
      let late = r.late in
      let few = r.few in
      let claimers = r.sized.1 in
      let fits = r.limits.0 in
      let most = r.limits.1 in
      let word : ℕ = (n + 1) % 2 ^ 64 in
      let more : word ≡ n + 1 = omega arith in
      let wide = r.wide in
      let now : get_or (set s.words 0 word) 0 0 ≡ n + 1 = get_or-set_same s.words 0 word 0 (omega arith) ∙ more in
      let other : 0 ≢ id = λ e. let q : get_elem? s.views 0 ≡ some (Draws t) = subst (λ z. get_elem? s.views z ≡ some (Draws t)) (sym e) at in let p = r.its in absurd (cc) in
      let mine : times t.fetched n ≡ 0 = let a = sum_has (λ v. times (fetched_of v) n) s.views id (Draws t) at in let b = r.none n (omega arith) in omega arith in
      let out = sums.out in
      let both = sums.both in
      let kept : Rule record { words = set s.words 0 word; homes = s.homes; views = views } = record {
        keeper = r.keeper;
        its = set_else s.views id 0 (Draws t') other ∙ r.its;
        sized = r.sized;
        limits = r.limits;
        wide = length-set s.words 0 word ∙ r.wide;
        each = λ i v e. ⊎_elim (λ (h : (i ≡ id) × (Draws t' ≡ v)). subst (Knows k i) h.1 pieces_are) (λ (h : (i ≢ id) × (get_elem? s.views i ≡ some v)). r.each i v h.1) (at_set s.views id i (Draws t') v e);
        out = let a = r.out in omega arith;
        few = r.few;
        late = omega arith;
        low = ⊎_elim (λ (h : (k.pieces ≤ n) × (sum_by ended_of views ≡ sum_by ended_of s.views + 1)). let a = h.1 in omega arith) (λ (h : (n < k.pieces) × (sum_by ended_of views ≡ sum_by ended_of s.views)). let a = h.0 in omega arith) sums.ended;
        high = λ some_ended. ⊎_elim (λ (h : (k.pieces ≤ n) × (sum_by ended_of views ≡ sum_by ended_of s.views + 1)). let a = h.0 in omega arith)
            (λ (h : (n < k.pieces) × (sum_by ended_of views ≡ sum_by ended_of s.views)). let a = h.1 in let b = r.high (omega arith) in omega arith) sums.ended;
        once = λ x less. let a = sums.count x in dite (ℕ_discrete n x)
            (λ e. let b = r.none x (omega arith) in let d : times (n ∷ []) x ≡ 1 = subst (λ z. times (n ∷ []) z ≡ 1) e (let f = times_here n [] in omega arith) in omega arith)
            (λ ne. let b = r.once x (omega arith) in let d = times_else n x [] ne in omega arith);
        none = λ x past. let a = sums.count x in let b = r.none x (omega arith) in let ne : n ≢ x = omega arith in let d = times_else n x [] ne in omega arith;
      } in (
        Draws t',
        keeps,
        tt,
        kept,
        (refl, λ u e. let q : t ≡ u = cc in (ap (λ z. Draws (drawn z n)) q, subst (λ z. times z.fetched n ≡ 0) q mine)),
      )
