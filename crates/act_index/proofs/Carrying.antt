-- A change is carried through: looks, rows, a publication.
use Rattle.std.proofs.Common.{◌≡◌, ◌≢◌, ◌⊎◌, ℕ, zero, suc, ◌+◌, ◌-◌, ◌*◌, ◌^◌, ◌<◌, ◌≤◌, List, [], ◌∷◌, ◌++◌, length, sym, refl, ap, ◌∙◌, subst, arith, inl, inr, ⊎_elim, length-append}
use Rattle.std.proofs.lemmas.Bool.{cases_lt}
use mathlib.Core.Logic.{dite}
use mathlib.Core.Option.{some}
use native.Mathlib.Decide.{ℕ_discrete}
use Rattle.std.specs.Prelude.{Contains}
use lib.ListN.{get_elem?}
use Rattle.act_grid.specs.declared.Settings.{Settings}
use Rattle.act_base.specs.Counting.{times, span}
use Rattle.act_base.specs.Sight.{Sight}
use Rattle.act_base.proofs.Times.{times-append, times_contains, contains_times, times_at, times_here, times_there}
use Rattle.act_base.proofs.Span.{span_le, span_length}
use Rattle.act_super.specs.declared.entry.State.{State}
use Rattle.act_super.specs.declared.entry.Entry.{Entry}
use Rattle.act_super.specs.Histories.{state_of}
use Rattle.act_super.specs.Stands.{Stands}
use Rattle.act_super.specs.States.{after, IsAllowed, nothing}
use Rattle.act_rows.specs.declared.views.Version.{Version}
use Rattle.act_rows.specs.declared.views.Desk.{Desk}
use Rattle.act_rows.specs.Images.{sight_of}
use Rattle.act_rows.specs.Bounds.{least}
use Rattle.act_rows.specs.Versions.{newest, IsKept}
use Rattle.act_rows.specs.Safe.{Kept}
use Rattle.act_rows.specs.Updates.{new_version}
use Rattle.act_rows.specs.Asked.{MayStore, MayPublish}
use Rattle.act_rows.specs.Watched.{Watched}
use Rattle.act_rows.proofs.Lists.{at_more}
use Rattle.act_rows.proofs.Bounds.{least_le, least_bound, least_most}
use Rattle.act_rows.proofs.Frames.{current}
use Rattle.act_pool.specs.Pooled.{Pooled, IsTidy}
use Rattle.act_pool.specs.Retired.{rows_of, versions_of, Each, later, freed}
use Rattle.act_pool.proofs.Waiting.{length-versions_of, later_times, times_parted, length_parted, each_later, each_freed, each_map, each-append, rows_of-append, versions_of-append}
use Rattle.act_image.specs.Pics.{Pic, Planned, rows_in, firsts_in, layout_in, installed, Shows, Makes, IsFresh, IsBound}
use Rattle.act_index.specs.Codes.{IsTold, code}
use Rattle.act_index.specs.Meanings.{Means, size_at, sizes}
use Rattle.act_index.specs.Whole.{IsGone, IsHoused}
use Rattle.act_index.specs.Written.{Written, paired, planned_image, renewed}
use Rattle.act_index.proofs.Histories.{size_before, state_more, told_length, told_more}
use Rattle.act_index.proofs.Writing.{rows_of-paired, length-paired, versions-paired, versions-paired_else, each-paired}

-- what is kept after looks was kept before
pub kept_watched : (d d' : Desk) (v : ℕ) (x : Version) → Watched d d' → IsKept d' v x → IsKept d v x
kept_watched d d' v x w k = let a = w.rises in let b = k.high in record { is = ap (λ z. get_elem? z v) (sym w.versions) ∙ k.is; high = omega arith }

pub housed_watched : (k : Settings) (es : List Entry) (d d' : Desk) (pic : Pic) (pool : Pooled) → Watched d d' → IsHoused k es d pic pool → IsHoused k es d' pic pool
housed_watched k es d d' pic pool w h = record {
  once = h.once;
  all = h.all;
  free = λ r has v x kept. h.free r has v x (kept_watched d d' v x w kept);
  late = each_map (IsGone d) (IsGone d') (λ r u g v x is le. g v x (ap (λ z. get_elem? z v) (sym w.versions) ∙ is) le) pool.retired h.late;
  owed = h.owed;
  recent = λ u has. let r = h.recent u has in let b = r.1 in let e = ap length w.history in (r.0, omega arith);
}

pub housed_reclaimed : (k : Settings) (es : List Entry) (d : Desk) (pic : Pic) (pool : Pooled) (b : ℕ) → b ≤ least (newest d) d.bounds → IsHoused k es d pic pool → IsHoused k es d pic (record pool { free = pool.free ++ freed b pool.retired; retired = later b pool.retired })
housed_reclaimed k es d pic pool b low h = record {
  once = λ r. let o = h.once r in let a = times-append pool.free (freed b pool.retired) r in let p = times_parted b r pool.retired in omega arith;
  all = let a = h.all in let b' = length-append pool.free (freed b pool.retired) in let p = length_parted b pool.retired in omega arith;
  free = λ r has v x kept. ⊎_elim (λ (z : 0 < times pool.free r). h.free r z v x kept)
      (λ (z : times pool.free r ≤ 0). let a = times-append pool.free (freed b pool.retired) r in let f = each_freed (IsGone d) b r pool.retired h.late (omega arith) in let le = f.1 in let hi = kept.high in f.2 v x kept.is (omega arith))
      (cases_lt 0 (times pool.free r));
  late = each_later (IsGone d) b pool.retired h.late;
  owed = λ v. let o = h.owed v in let l = later_times b (v + 1) pool.retired in omega arith;
  recent = λ w has. h.recent w (let l = later_times b w pool.retired in omega arith);
}

-- sums of Sizes
span_shift : (f : ℕ → ℕ) (b n : ℕ) → span f (b + 1) n ≡ span (λ i. f (i + 1)) b n
span_shift f b zero = refl
span_shift f b (suc n) = let h = span_shift f b n in let e : (b + 1) + n ≡ (b + n) + 1 = omega arith in let g : f ((b + 1) + n) ≡ f ((b + n) + 1) = ap f e in omega arith

-- what waits for more than b is at most the Sizes of the versions from b on, but the current one
pub waiting : (k : Settings) (es : List Entry) (d : Desk) (pic : Pic) (pool : Pooled) (b : ℕ) → b ≤ newest d → IsHoused k es d pic pool → ((w : ℕ) → 0 < times (versions_of pool.retired) w → b < w) → length pool.retired ≤ span (size_at k es) b (newest d - b)
waiting k es d pic pool b low h above =
    let n : ℕ = newest d in
    let vs : List ℕ = versions_of pool.retired in
    let len = length-versions_of pool.retired in
    let whole = span_length vs (b + 1) (n - b) (λ x has. let a = above x has in let r = h.recent x has in let hi = r.1 in (omega arith, omega arith)) in
    let shift = span_shift (times vs) b (n - b) in
    let least_of = span_le (λ i. times vs (i + 1)) (size_at k es) b (n - b) (λ i p q. h.owed i) in
    omega arith

-- the Sizes of the versions from b to the current one
pub sizes_last : (k : Settings) (es : List Entry) (b n : ℕ) → b ≤ n → sizes k es b n ≡ span (size_at k es) b (n - b) + size_at k es n
sizes_last k es b n low =
    let e : n + 1 - b ≡ suc (n - b) = omega arith in
    let g : b + (n - b) ≡ n = omega arith in
    ap (span (size_at k es) b) e ∙ ap (λ z. span (size_at k es) b (n - b) + size_at k es z) g

-- why fewer rows are free than are needed
pub too_full : (k : Settings) (es : List Entry) (d : Desk) (pic : Pic) (pool : Pooled) (b need big : ℕ) → b ≤ newest d → IsHoused k es d pic pool → ((w : ℕ) → 0 < times (versions_of pool.retired) w → b < w)
    → length (rows_in pic) ≡ size_at k es (newest d) → length pool.free < need → need ≤ big → 2 * k.rows < sizes k es b (newest d) + big
too_full k es d pic pool b need big low h above cur short few =
    let w = waiting k es d pic pool b low h above in
    let s = sizes_last k es b (newest d) low in
    let a = h.all in
    omega arith

-- with no bound below the current version there is room
pub has_room : (k : Settings) (es : List Entry) (d : Desk) (pic : Pic) (pool : Pooled) (b need big : ℕ) → b ≤ newest d → IsHoused k es d pic pool → ((w : ℕ) → 0 < times (versions_of pool.retired) w → b < w)
    → length (rows_in pic) ≤ k.rows → length pool.free < need → need ≤ big → big ≤ k.rows → b < newest d
has_room k es d pic pool b need big low h above cur short few fits = ⊎_elim (λ (z : b < newest d). z)
    (λ (z : newest d ≤ b). let w = waiting k es d pic pool b low h above in let e : newest d - b ≡ 0 = omega arith in let none : span (size_at k es) b (newest d - b) ≡ 0 = ap (span (size_at k es) b) e in let a = h.all in absurd (omega arith))
    (cases_lt b (newest d))

-- rows that were taken
pub fresh_taken : (k : Settings) (es : List Entry) (d : Desk) (pic : Pic) (pool : Pooled) (free out : List ℕ) → IsHoused k es d pic pool → IsTidy pool → pool.rows ≤ 524288 → pool.free ≡ free ++ out → IsFresh pic out
fresh_taken k es d pic pool free out h t small e =
    let split : (r : ℕ) → times pool.free r ≡ times free r + times out r = λ r. ap (λ z. times z r) e ∙ times-append free out r in
    record {
      once = λ r. let o = h.once r in let s = split r in omega arith;
      low = λ r has. let s = split r in let g = t.ranged r (omega arith) in let a = g.0 in let b = g.1 in (a, omega arith);
    }

pub may_taken : (k : Settings) (es : List Entry) (d : Desk) (pic : Pic) (pool : Pooled) (free out : List ℕ) (row : ℕ) → IsHoused k es d pic pool → IsTidy pool → pool.rows ≡ 2 * d.rows → pool.free ≡ free ++ out → 0 < times out row → MayStore d row
may_taken k es d pic pool free out row h t size e has =
    let s : times pool.free row ≡ times free row + times out row = ap (λ z. times z row) e ∙ times-append free out row in
    let g = t.ranged row (omega arith) in
    let b = g.1 in
    record {
      range = record { above = g.0; below = omega arith };
      away = λ v x kept c. let none = h.free row (omega arith) v x kept in let some_of = times_contains x.image.rows row c in absurd (omega arith);
    }

-- the current version, which is kept
pub now_kept : (d : Desk) (x : Version) → get_elem? d.versions (newest d) ≡ some x → IsKept d (newest d) x
now_kept d x is = record { is = is; high = least_le (newest d) d.bounds }

-- an image that the copy shows stands for the state
pub stands_from : (k : Settings) (pic : Pic) (x : Sight) (root : ℕ) (state other : State) → Shows k pic x state → pic.root ≡ root → state ≡ other → Stands k x root other
stands_from k pic x root state other sh top same = subst (λ (z : ℕ × State). Stands k x z.0 z.1) (λ i. (top i, same i)) (record { served = sh.served; layout = layout_in pic; by_rows = sh.by_rows })

-- what the table shows of a plan that is stored
module _ (k : Settings) (es : List Entry) (e : Entry) (d d' : Desk) (pic : Pic) (plan : Planned) (state new : State)
    (kept : Kept Means d) (shows : (x : Version) → get_elem? d.versions (newest d) ≡ some x → Shows k pic (sight_of x.image) state)
    (bound : IsBound k pic plan state new) (w : Written d d' plan (256 * plan.need)) where
  shows_now : Shows k pic (sight_of (current Means d kept).0.image) state
  shows_now = shows (current Means d kept).0 (current Means d kept).1

  -- what the plan makes of the current image
  made : Makes pic plan (sight_of (current Means d kept).0.image) (sight_of (planned_image d' pic plan))
  made =
      let now = current Means d kept in
      let x : Version = now.0 in
      let sh = shows x now.1 in
      record {
        rows = refl;
        firsts = refl;
        stay = λ r place has none small.
            let b = bound.balance r in
            let g = bound.held r in
            let old : 0 < times (rows_in pic) r = omega arith in
            let inside : 0 < times x.image.rows r = subst (λ z. 0 < times z r) (sym sh.rows) old in
            let c = contains_times x.image.rows r inside in
            let range = kept.ranged (newest d) x r now.1 c in
            w.other r place range.above none small ∙ kept.shown (newest d) x (now_kept d x now.1) r place c small;
        fresh = λ i place low small. let n = bound.need in w.there i place small (omega arith);
      }

  -- it stands for the new state
  pub shows_made : Shows k (installed pic plan) (sight_of (planned_image d' pic plan)) new
  shows_made = bound.shows _ _ shows_now made

  pub may_publish : newest d + 1 < 2 ^ 40 → IsTold d.history k es → IsAllowed k (state_of k es) e → new ≡ after k (state_of k es) e → MayPublish Means d' (code k e) plan.root (rows_in (installed pic plan)) (firsts_in (installed pic plan))
  may_publish few told allowed same =
      let now = current Means d kept in
      let x : Version = now.0 in
      let sh = shows x now.1 in
      record {
        few = subst (λ z. length z + 1 < 2 ^ 40) (sym w.history) few;
        rooted = contains_times (rows_in (installed pic plan)) plan.root bound.rooted;
        ready = λ row c.
            let has = times_contains (rows_in (installed pic plan)) row c in
            let b = bound.balance row in
            let g = bound.held row in
            ⊎_elim (λ (z : 0 < times plan.rows row). inr (λ place small. let t = times_at plan.rows row z in let low = t.1 in let n = bound.need in subst (λ z. Contains d'.draft (z, place)) (t.2 0) (w.drafted t.0 place small (omega arith))))
            (λ (z : times plan.rows row ≤ 0). inl (x, ap (λ (q : List Version). get_elem? q (newest d')) w.versions ∙ (ap (λ q. get_elem? d.versions (length q)) w.history ∙ now.1), subst (λ z. Contains z row) (sym sh.rows) (contains_times (rows_in pic) row (omega arith))))
            (cases_lt 0 (times plan.rows row));
        fits = record {
          settings = k;
          entries = es ++ e ∷ [];
          told = told_more (d'.history) k es e (subst (λ z. IsTold z k es) (sym w.history) told) allowed;
          stands = stands_from k (installed pic plan) (sight_of (planned_image d' pic plan)) plan.root new _ shows_made bound.top (same ∙ sym (state_more k nothing es e));
        };
      }

-- pairs, known to be in the list
pub each_inside : (P Q : ℕ → ℕ → Type 0) (xs : List (ℕ × ℕ)) → ((r w : ℕ) → 0 < times (rows_of xs) r → 0 < times (versions_of xs) w → P r w → Q r w) → Each P xs → Each Q xs
each_inside P Q [] f a = tt
each_inside P Q (x ∷ xs) f a = (
  f x.0 x.1 (let h = times_here x.0 (rows_of xs) in omega arith) (let h = times_here x.1 (versions_of xs) in omega arith) a.0,
  each_inside P Q xs (λ r w h g p. f r w (let q = times_there x.0 r (rows_of xs) in omega arith) (let q = times_there x.1 w (versions_of xs) in omega arith) p) a.1,
)

-- a publication keeps the house in order: d is the desk before the stores, d' after them, and `after_it` after the publication
module _ (k : Settings) (es : List Entry) (e : Entry) (d d' : Desk) (pic pic' : Pic) (plan : Planned) (state new : State) (pool : Pooled) (free : List ℕ)
    (kept : Kept Means d) (told : IsTold d.history k es) (bound : IsBound k pic plan state new) (w : Written d d' plan (256 * plan.need))
    (h : IsHoused k es d pic pool) (taken : pool.free ≡ free ++ plan.rows) (rows : rows_in pic' ≡ rows_in (installed pic plan)) (cur : length (rows_in pic) ≡ size_at k es (newest d)) where
  after_it : Desk
  after_it = renewed d' k e pic plan

  left_pool : Pooled
  left_pool = record pool { free = free; retired = pool.retired ++ paired plan.gone (newest d + 1) }

  newest_after : newest (renewed d' k e pic plan) ≡ newest d + 1
  newest_after = length-append d'.history (code k e ∷ []) ∙ ap (λ z. length z + 1) w.history

  one_place : (r : ℕ) → times free r + times (rows_of pool.retired) r + times (rows_in (installed pic plan)) r + times plan.gone r ≤ 1
  one_place r =
      let o = h.once r in
      let b = bound.balance r in
      let t : times pool.free r ≡ times free r + times plan.rows r = ap (λ z. times z r) taken ∙ times-append free plan.rows r in
      omega arith

  -- a version after the publication is one of before, or the new one
  versions_after : (v : ℕ) (x : Version) → get_elem? (renewed d' k e pic plan).versions v ≡ some x
      → ((v ≤ newest d) × (get_elem? d.versions v ≡ some x)) ⊎ ((v ≡ newest d + 1) × (new_version d' plan.root (rows_in (installed pic plan)) (firsts_in (installed pic plan)) ≡ x))
  versions_after v x is =
      let c = kept.counted in
      let long = ap (λ (q : List Version). length q) w.versions in
      ⊎_elim (λ (t : (v < length d'.versions) × (get_elem? d'.versions v ≡ some x)). inl (let q = t.0 in omega arith, ap (λ (q : List Version). get_elem? q v) (sym w.versions) ∙ t.1))
      (λ (t : (v ≡ length d'.versions) × (new_version d' plan.root (rows_in (installed pic plan)) (firsts_in (installed pic plan)) ≡ x)). inr (let q = t.0 in omega arith, t.1))
      (at_more d'.versions (new_version d' plan.root (rows_in (installed pic plan)) (firsts_in (installed pic plan))) x v is)

  not_new : (x : Version) (r : ℕ) → new_version d' plan.root (rows_in (installed pic plan)) (firsts_in (installed pic plan)) ≡ x → times (rows_in (installed pic plan)) r ≡ 0 → times x.image.rows r ≡ 0
  not_new x r is none = subst (λ (z : Version). times z.image.rows r ≡ 0) is none

  pub housed_after : IsHoused k (es ++ e ∷ []) (renewed d' k e pic plan) pic' (record pool { free = free; retired = pool.retired ++ paired plan.gone (newest d + 1) })
  housed_after =
      let n : ℕ = newest d in
      let length_es : length es ≡ n = sym (told_length d.history k es told) in
      let count = bound.count in
      let sized = bound.sized in
      let few = bound.few in
      let need = bound.need in
      record {
        once = λ r. let o = one_place r in let rw_of : times (rows_of (pool.retired ++ paired plan.gone (n + 1))) r ≡ times (rows_of pool.retired) r + times plan.gone r = ap (λ z. times z r) (rows_of-append pool.retired (paired plan.gone (n + 1)) ∙ ap (λ z. rows_of pool.retired ++ z) (rows_of-paired plan.gone (n + 1))) ∙ times-append (rows_of pool.retired) plan.gone r in
            let c : times (rows_in pic') r ≡ times (rows_in (installed pic plan)) r = ap (λ z. times z r) rows in omega arith;
        all = let a = h.all in let l = length-append pool.retired (paired plan.gone (n + 1)) in let m = length-paired plan.gone (n + 1) in let t : length pool.free ≡ length free + length plan.rows = ap length taken ∙ length-append free plan.rows in
            let c : length (rows_in pic') ≡ length (rows_in (installed pic plan)) = ap length rows in omega arith;
        free = λ r has v x is. ⊎_elim
            (λ (t : (v ≤ n) × (get_elem? d.versions v ≡ some x)). h.free r (let q : times pool.free r ≡ times free r + times plan.rows r = ap (λ z. times z r) taken ∙ times-append free plan.rows r in omega arith) v x
            (let hi = is.high in let up : least n d.bounds ≤ least (newest (renewed d' k e pic plan)) d'.bounds = least_up in record { is = t.1; high = omega arith }))
            (λ (t : (v ≡ n + 1) × (new_version d' plan.root (rows_in (installed pic plan)) (firsts_in (installed pic plan)) ≡ x)). not_new x r t.1 (let o = one_place r in omega arith))
            (versions_after v x is.is);
        late = each-append (IsGone (renewed d' k e pic plan)) pool.retired (paired plan.gone (n + 1))
            (each_inside (IsGone d) (IsGone (renewed d' k e pic plan)) pool.retired
            (λ r u has hasv g v x is le. ⊎_elim (λ (t : (v ≤ n) × (get_elem? d.versions v ≡ some x)). g v x t.1 le)
            (λ (t : (v ≡ n + 1) × (new_version d' plan.root (rows_in (installed pic plan)) (firsts_in (installed pic plan)) ≡ x)). not_new x r t.1 (let o = one_place r in omega arith)) (versions_after v x is)) h.late)
            (each-paired (IsGone (renewed d' k e pic plan)) plan.gone (n + 1)
            (λ r has v x is le. ⊎_elim (λ (t : (v ≤ n) × (get_elem? d.versions v ≡ some x)). absurd (let q = t.0 in omega arith))
            (λ (t : (v ≡ n + 1) × (new_version d' plan.root (rows_in (installed pic plan)) (firsts_in (installed pic plan)) ≡ x)). not_new x r t.1 (let o = one_place r in omega arith)) (versions_after v x is)));
        owed = λ v.
            let vs : times (versions_of (pool.retired ++ paired plan.gone (n + 1))) (v + 1) ≡ times (versions_of pool.retired) (v + 1) + times (versions_of (paired plan.gone (n + 1))) (v + 1) = ap (λ z. times z (v + 1)) (versions_of-append pool.retired (paired plan.gone (n + 1))) ∙ times-append (versions_of pool.retired) (versions_of (paired plan.gone (n + 1))) (v + 1) in
            let old = h.owed v in
            dite (ℕ_discrete v n)
            (λ q. let none : times (versions_of pool.retired) (v + 1) ≡ 0 = none_above v (omega arith) in
            let g : times (versions_of (paired plan.gone (n + 1))) (v + 1) ≡ length plan.gone = ap (λ z. times (versions_of (paired plan.gone (n + 1))) (z + 1)) q ∙ versions-paired plan.gone (n + 1) in
            let b : size_at k (es ++ e ∷ []) v ≡ size_at k es n = size_before k es e v (omega arith) ∙ ap (size_at k es) q in
            omega arith)
            (λ ne. let ne' : n + 1 ≢ v + 1 = omega arith in let g = versions-paired_else plan.gone (n + 1) (v + 1) ne' in
            ⊎_elim (λ (t : v < n). let b = size_before k es e v (omega arith) in omega arith)
            (λ (t : n ≤ v). let none : times (versions_of pool.retired) (v + 1) ≡ 0 = none_above v (omega arith) in omega arith)
            (cases_lt v n));
        recent = λ u has.
            let vs : times (versions_of (pool.retired ++ paired plan.gone (n + 1))) u ≡ times (versions_of pool.retired) u + times (versions_of (paired plan.gone (n + 1))) u = ap (λ z. times z u) (versions_of-append pool.retired (paired plan.gone (n + 1))) ∙ times-append (versions_of pool.retired) (versions_of (paired plan.gone (n + 1))) u in
            let up = newest_after in
            dite (ℕ_discrete (n + 1) u) (λ q. (omega arith, omega arith))
            (λ ne. let g = versions-paired_else plan.gone (n + 1) u ne in let r = h.recent u (omega arith) in let hi = r.1 in (r.0, omega arith));
      }
    where
      none_above : (v : ℕ) → newest d ≤ v → times (versions_of pool.retired) (v + 1) ≡ 0
      none_above v le = ⊎_elim (λ (t : 0 < times (versions_of pool.retired) (v + 1)). let r = h.recent (v + 1) t in let hi = r.1 in absurd (omega arith)) (λ (t : times (versions_of pool.retired) (v + 1) ≤ 0). omega arith) (cases_lt 0 (times (versions_of pool.retired) (v + 1)))

      least_up : least (newest d) d.bounds ≤ least (newest (renewed d' k e pic plan)) d'.bounds
      least_up = let up = newest_after in let low = least_le (newest d) d.bounds in
          subst (λ z. least (newest d) d.bounds ≤ least (newest (renewed d' k e pic plan)) z) (sym w.bounds)
          (least_most (least (newest d) d.bounds) (newest (renewed d' k e pic plan)) d.bounds (omega arith) (λ j c q. least_bound (newest d) d.bounds j c q))
