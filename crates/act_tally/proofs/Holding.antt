-- The steps of the claims keep the rule: a claimer is handed out and taken back, and the table is made.
use Rattle.std.proofs.Common.{◌≡◌, ◌≢◌, ℕ, zero, suc, ◌^◌, ◌<◌, ◌≤◌, min, List, [], ◌∷◌, ◌++◌, get_or, set, sym, refl, ap, ◌∙◌, subst, inl, inr, ⊎_elim, arith}
use Rattle.std.proofs.lemmas.Bool.{leb-true, leb-false, cases_Bool}
use Rattle.std.specs.Prelude.{sum_by}
use mathlib.Core.Option.{some, some-injective, some-ne-none, none}
use lib.ListN.{get_elem?}
use lib.Dec.{leb}
use lib.Seq.{set-get_or}
use Rattle.atomic_table.specs.Table.{State, step, keeps, Allows, Splits, Joins, opening}
use Rattle.atomic_table.proofs.Lists.{at_set, set_else, set_again, at_longer, at_snoc}
use Rattle.act_base.specs.Counting.{times}
use Rattle.act_base.proofs.Times.{times-append}
use Rattle.act_tally.specs.declared.rule.Sizes.{Sizes}
use Rattle.act_tally.specs.declared.views.Keeper.{Keeper}
use Rattle.act_tally.specs.declared.views.Drawer.{Drawer}
use Rattle.act_tally.specs.declared.views.View.{View}
use Rattle.act_tally.specs.declared.views.View.TheVariants.{Keeps, Draws, Spent}
use Rattle.act_tally.specs.Fair.{fetched_of, out_of, open_of, ended_of, count, Knows, Fair, starting, first_keeper}
use Rattle.act_tally.specs.Steps.{newcomer, handed_out, taken_back, IsWhole, checks, hands_left, hands_right, takes}
use Rattle.act_tally.proofs.Sums.{sum_set, sum_more, sum_has, sum_first}

module _ (S : Type 0) (k : Sizes) where
  abbrev Rule : State S View → Type 0
  Rule = Fair {S = S} k

  -- the claims have seat 0, and the rule speaks of their view
  pub kept : (s : State S View) (r : Rule s) (id : ℕ) (q : Keeper) → get_elem? s.views id ≡ some (Keeps q) → (id ≡ 0) × (r.keeper ≡ q)
  kept s r id q at =
      let zero_is : id ≡ 0 = r.each id (Keeps q) at in
      let at0 : get_elem? s.views 0 ≡ some (Keeps q) = subst (λ z. get_elem? s.views z ≡ some (Keeps q)) zero_is at in
      let one : some (Keeps r.keeper) ≡ some (Keeps q) = sym r.its ∙ at0 in
      (zero_is, cc)

  -- no number was fetched twice
  pub once_at_most : (s : State S View) (r : Rule s) (x : ℕ) → count s.views x ≤ 1
  once_at_most s r x = elim (cases_Bool (leb (get_or s.words 0 0) x)) [
    | inl e ↦ let a = r.none x (leb-true _ _ e) in omega arith
    | inr e ↦ let a = r.once x (leb-false _ _ e) in omega arith
  ]

  -- once no claimer is out, the claims have all that the seats have
  alone : (s : State S View) (r : Rule s) → sum_by out_of s.views ≡ 0 → (i : ℕ) (w : View) → get_elem? s.views (suc i) ≡ some w → w ≡ Spent
  alone s r none_out i (Keeps q) e = absurd (let z : suc i ≡ 0 = r.each (suc i) (Keeps q) e in omega arith)
  alone s r none_out i (Draws t) e = absurd (let h = sum_has out_of s.views (suc i) (Draws t) e in omega arith)
  alone s r none_out i Spent e = refl

  whole : (s : State S View) (r : Rule s) → r.keeper.taken ≡ r.keeper.handed → IsWhole r.keeper
  whole s r back =
      let q : Keeper = r.keeper in
      let n : ℕ = get_or s.words 0 0 in
      let out = r.out in
      let none_out : sum_by out_of s.views ≡ 0 = omega arith in
      let mine : (x : ℕ) → count s.views x ≡ times q.fetched x = λ x. sum_first (λ v. times (fetched_of v) x) s.views (Keeps q) r.its (λ i w e. ap (λ v. times (fetched_of v) x) (alone s r none_out i w e)) in
      let ended : sum_by ended_of s.views ≡ q.ended = sum_first ended_of s.views (Keeps q) r.its (λ i w e. ap ended_of (alone s r none_out i w e)) in
      let pieces = r.sized.0 in
      record {
        upto = min n q.pieces;
        within = omega arith;
        below = λ x h. let a = mine x in let b = r.once x (omega arith) in omega arith;
        above = λ x h less. let a = mine x in let b = r.none x (omega arith) in omega arith;
        all = λ some_ended. let a = r.high (omega arith) in omega arith;
      }

  pub check_step : (slots id : ℕ) (q : Keeper) (c : List (ℕ × S)) → Allows Rule slots id (Keeps q, c) 0 (λ n. n) (checks (step slots 0 0 0 none) (Keeps q, c))
  check_step slots id q c s r deep at small =
      let is = (kept s r id q at).1 in
      let all : ((x : ℕ) → times r.keeper.fetched x ≤ 1) × (r.keeper.taken ≡ r.keeper.handed → IsWhole r.keeper) =
      (λ x. let a = sum_has (λ v. times (fetched_of v) x) s.views 0 (Keeps r.keeper) r.its in let b = once_at_most s r x in omega arith, whole s r) in (
        Keeps q,
        keeps,
        tt,
        subst (λ (z : List ℕ × List View). Rule record { words = z.0; homes = s.homes; views = z.1 }) (λ i. (sym (set-get_or s.words 0 0) i, sym (set_again s.views id (Keeps q) at) i))
            record { keeper = r.keeper; its = r.its; sized = r.sized; limits = r.limits; wide = r.wide; each = r.each; out = r.out; few = r.few; late = r.late; low = r.low; high = r.high; once = r.once; none = r.none },
        (refl, λ u e. let p : q ≡ u = cc in subst (λ (z : Keeper). ((x : ℕ) → times z.fetched x ≤ 1) × (z.taken ≡ z.handed → IsWhole z)) (is ∙ p) all),
      )

  pub hand_splits : (id : ℕ) (q : Keeper) → q.handed < q.claimers → Splits Rule id (Keeps q) (hands_left (Keeps q)) (hands_right (Keeps q))
  hand_splits id q room s r at =
      let q' : Keeper = handed_out q in
      let t' : Drawer = newcomer q in
      let zero_is = (kept s r id q at).0 in
      let is : r.keeper ≡ q = (kept s r id q at).1 in
      let one : List View = set s.views id (Keeps q') in
      let handed : r.keeper.handed ≡ q.handed = ap (λ z. z.handed) is in
      let taken : r.keeper.taken ≡ q.taken = ap (λ z. z.taken) is in
      let pieces : r.keeper.pieces ≡ q.pieces = ap (λ z. z.pieces) is in
      let claimers : r.keeper.claimers ≡ q.claimers = ap (λ z. z.claimers) is in
      let o = sum_set out_of s.views id (Keeps q) (Keeps q') at in
      let o' = sum_more out_of one (Draws t') in
      let e = sum_set ended_of s.views id (Keeps q) (Keeps q') at in
      let e' = sum_more ended_of one (Draws t') in
      let p = sum_set open_of s.views id (Keeps q) (Keeps q') at in
      let p' = sum_more open_of one (Draws t') in
      let out = r.out in
      let late = r.late in
      let low = r.low in
      let sized = r.sized in
      let same : (x : ℕ) → count (one ++ Draws t' ∷ []) x ≡ count s.views x = λ x. let a = sum_set (λ v. times (fetched_of v) x) s.views id (Keeps q) (Keeps q') at in let b = sum_more (λ v. times (fetched_of v) x) one (Draws t') in omega arith in
      record {
        keeper = q';
        its = at_longer one (Draws t' ∷ []) 0 (Keeps q') (subst (λ z. get_elem? (set s.views z (Keeps q')) 0 ≡ some (Keeps q')) (sym zero_is) (first s.views r.its));
        sized = (sym pieces ∙ sized.0, sym claimers ∙ sized.1);
        limits = r.limits;
        wide = r.wide;
        each = λ i v at'. ⊎_elim (λ (h : get_elem? one i ≡ some v). ⊎_elim (λ (g : (i ≡ id) × (Keeps q' ≡ v)). subst (Knows k i) g.1 (g.0 ∙ zero_is)) (λ (g : (i ≢ id) × (get_elem? s.views i ≡ some v)). r.each i v g.1) (at_set s.views id i (Keeps q') v h))
            (λ (h : Draws t' ≡ v). subst (Knows k i) h (sym pieces ∙ sized.0)) (at_snoc one (Draws t') v i at');
        out = omega arith;
        few = omega arith;
        late = omega arith;
        low = omega arith;
        high = λ some_ended. r.high (omega arith);
        once = λ x h. same x ∙ r.once x h;
        none = λ x h. same x ∙ r.none x h;
      }
    where
      first : (vs : List View) → get_elem? vs 0 ≡ some (Keeps r.keeper) → get_elem? (set vs 0 (Keeps (handed_out q))) 0 ≡ some (Keeps (handed_out q))
      first [] e = absurd (some-ne-none _ (sym e))
      first (v ∷ vs) e = refl

  pub take_joins : (id other : ℕ) (q : Keeper) (t : Drawer) → Joins Rule id (Keeps q) other (Draws t) (takes (Keeps q) (Draws t)) Spent
  take_joins id other q t s r at ne at_other =
      let q' : Keeper = taken_back q t in
      let zero_is = (kept s r id q at).0 in
      let is : r.keeper ≡ q = (kept s r id q at).1 in
      let one : List View = set s.views id (Keeps q') in
      let two : List View = set one other Spent in
      let handed : r.keeper.handed ≡ q.handed = ap (λ z. z.handed) is in
      let taken : r.keeper.taken ≡ q.taken = ap (λ z. z.taken) is in
      let pieces : r.keeper.pieces ≡ q.pieces = ap (λ z. z.pieces) is in
      let claimers : r.keeper.claimers ≡ q.claimers = ap (λ z. z.claimers) is in
      let o = sum_set out_of s.views id (Keeps q) (Keeps q') at in
      let o' = sum_set out_of one other (Draws t) Spent at_other in
      let e = sum_set ended_of s.views id (Keeps q) (Keeps q') at in
      let e' = sum_set ended_of one other (Draws t) Spent at_other in
      let p = sum_set open_of s.views id (Keeps q) (Keeps q') at in
      let p' = sum_set open_of one other (Draws t) Spent at_other in
      let out = r.out in
      let late = r.late in
      let low = r.low in
      let few = r.few in
      let sized = r.sized in
      let same : (x : ℕ) → count two x ≡ count s.views x = λ x.
      let a = sum_set (λ v. times (fetched_of v) x) s.views id (Keeps q) (Keeps q') at in let b = sum_set (λ v. times (fetched_of v) x) one other (Draws t) Spent at_other in let d = times-append q.fetched t.fetched x in omega arith in
      let apart : 0 ≢ other = λ w. ne (sym w ∙ sym zero_is) in
      record {
        keeper = q';
        its = set_else one other 0 Spent apart ∙ subst (λ z. get_elem? (set s.views z (Keeps q')) 0 ≡ some (Keeps q')) (sym zero_is) (first s.views r.its);
        sized = (sym pieces ∙ sized.0, sym claimers ∙ sized.1);
        limits = r.limits;
        wide = r.wide;
        each = λ i v at'. ⊎_elim (λ (h : (i ≡ other) × (Spent ≡ v)). subst (Knows k i) h.1 tt)
            (λ (h : (i ≢ other) × (get_elem? one i ≡ some v)). ⊎_elim (λ (g : (i ≡ id) × (Keeps q' ≡ v)). subst (Knows k i) g.1 (g.0 ∙ zero_is)) (λ (g : (i ≢ id) × (get_elem? s.views i ≡ some v)). r.each i v g.1) (at_set s.views id i (Keeps q') v h.1))
            (at_set one other i Spent v at');
        out = omega arith;
        few = omega arith;
        late = omega arith;
        low = omega arith;
        high = λ some_ended. r.high (omega arith);
        once = λ x h. same x ∙ r.once x h;
        none = λ x h. same x ∙ r.none x h;
      }
    where
      first : (vs : List View) → get_elem? vs 0 ≡ some (Keeps r.keeper) → get_elem? (set vs 0 (Keeps (taken_back q t))) 0 ≡ some (Keeps (taken_back q t))
      first [] e = absurd (some-ne-none _ (sym e))
      first (v ∷ vs) e = refl

  pub opens : k.pieces < 2 ^ 32 → k.claimers ≤ 64 → Rule (opening (0 ∷ []) [] (starting k))
  opens fits most = record {
    keeper = first_keeper k;
    its = refl;
    sized = (refl, refl);
    limits = (fits, most);
    wide = refl;
    each = seat;
    out = refl;
    few = omega arith;
    late = omega arith;
    low = omega arith;
    high = λ h. absurd (omega arith);
    once = λ x h. absurd (omega arith);
    none = λ x h. refl;
  }
    where
      seat : (i : ℕ) (v : View) → get_elem? (starting k ∷ []) i ≡ some v → Knows k i v
      seat zero v e = subst (Knows k 0) (some-injective _ _ e) refl
      seat (suc i) v e = absurd (some-ne-none v (sym e))
