-- What is known while a change is carried through, and what follows.
use Rattle.std.proofs.Common.{◌≡◌, ◌≢◌, ℕ, ◌+◌, ◌*◌, ◌^◌, ◌<◌, ◌≤◌, List, [], ◌∷◌, ◌++◌, length, get_or, set, sym, refl, ap, ◌∙◌, subst, arith, true, ⊎_elim, length-append, length-set}
use Rattle.std.specs.Prelude.{Option, Some, None}
use mathlib.Core.Option.{some}
use lib.ListN.{get_elem?}
use Rattle.atomic_table.proofs.Lists.{at_set}
use Rattle.act_grid.specs.declared.Settings.{Settings}
use Rattle.act_base.specs.Counting.{times}
use Rattle.act_base.specs.Sight.{Sight}
use Rattle.act_base.proofs.Times.{times-append, times_get, contains_times}
use Rattle.act_super.specs.declared.entry.State.{State}
use Rattle.act_super.specs.declared.entry.Entry.{Entry}
use Rattle.act_super.specs.Histories.{is_update}
use Rattle.act_super.specs.Sizes.{size_of}
use Rattle.act_super.specs.States.{after, IsAllowed, nothing}
use Rattle.act_rows.specs.declared.views.Version.{Version}
use Rattle.act_rows.specs.declared.views.Desk.{Desk}
use Rattle.act_rows.specs.declared.views.Ticket.{Ticket}
use Rattle.act_rows.specs.History.{History}
use Rattle.act_rows.specs.Images.{sight_of}
use Rattle.act_rows.specs.Bounds.{least, lowest}
use Rattle.act_rows.specs.Versions.{newest}
use Rattle.act_rows.specs.Safe.{Kept}
use Rattle.act_rows.specs.Updates.{lent, returned, new_version}
use Rattle.act_rows.specs.Asked.{MayStore, MayPublish}
use Rattle.act_rows.specs.Watched.{Watched, Found}
use Rattle.act_rows.proofs.Lists.{at_more, within}
use Rattle.act_rows.proofs.Bounds.{least_le, least_bound, least_most}
use Rattle.act_rows.proofs.Frames.{current}
use Rattle.act_pool.specs.Pooled.{Pooled, IsTidy}
use Rattle.act_pool.specs.Retired.{rows_of, versions_of, Each, later, freed}
use Rattle.act_pool.proofs.Waiting.{later_above, each_versions}
use Rattle.act_image.specs.Pics.{Planned, rows_in, firsts_in, installed, Shows, IsPlan, IsFresh, IsBound}
use Rattle.act_index.specs.Codes.{IsTold, code, updates_in}
use Rattle.act_index.specs.Meanings.{Means, size_at, sizes}
use Rattle.act_index.specs.Whole.{Writing, IsHoused, IsWhole}
use Rattle.act_index.specs.Written.{IsReady, Written, paired, planned_image, renewed, untaken}
use Rattle.act_index.specs.Calls.{IsGrown, IsLeft, IsHeldBy}
use Rattle.act_index.proofs.Histories.{size_now, state_more, told_length, told_more, updates_code, updates_few, updates_more}
use Rattle.act_index.proofs.Carrying.{housed_watched, housed_reclaimed, too_full, has_room, fresh_taken, may_taken, may_publish, shows_made, housed_after}

-- the Size of the current version is that of the state
cur_size : (w : Writing) (whole : IsWhole w) → length (rows_in w.pic) ≡ size_at w.settings whole.entries (newest w.desk)
cur_size w whole =
    let n = told_length w.desk.history w.settings whole.entries whole.told in
    whole.sized ∙ (ap (size_of w.settings) whole.state ∙ sym (size_now w.settings whole.entries (newest w.desk) (omega arith)))

-- a plan has its rows
module _ (w : Writing) (plan : Planned) (e : Entry) (t : IsReady w plan e) (kept : Kept Means w.desk) where
  pub ready_once : (r : ℕ) → times plan.rows r ≤ 1
  ready_once r = let o = t.bound.once r in omega arith

  pub ready_may : (i : ℕ) → i < plan.need → MayStore w.desk (get_or plan.rows i 0)
  ready_may i low =
      let n = t.bound.need in
      let a = t.whole.rows.0 in
      let b = t.whole.rows.1 in
      may_taken w.settings t.whole.entries w.desk w.pic (untaken w.pool plan.rows) w.pool.free plan.rows (get_or plan.rows i 0) t.whole.housed t.tidy (omega arith) refl (times_get plan.rows i 0 (omega arith))

  shows : (x : Version) → get_elem? w.desk.versions (newest w.desk) ≡ some x → Shows w.settings w.pic (sight_of x.image) w.state
  shows x at = (t.whole.current x at).0

  pub ready_publish : (d' : Desk) → Written w.desk d' plan (256 * plan.need) → newest w.desk + 1 < 2 ^ 40 → IsAllowed w.settings w.state e
      → MayPublish Means d' (code w.settings e) plan.root (rows_in (installed w.pic plan)) (firsts_in (installed w.pic plan))
  ready_publish d' wr few allowed =
      may_publish w.settings t.whole.entries e w.desk d' w.pic plan w.state (after w.settings w.state e) kept shows t.bound wr few t.whole.told
      (subst (λ z. IsAllowed w.settings z e) t.whole.state allowed) (ap (λ z. after w.settings z e) t.whole.state)

  pub ready_retire : (r : ℕ) → times plan.gone r + (times w.pool.free r + times (rows_of w.pool.retired) r) ≤ 1
  ready_retire r =
      let o = t.whole.housed.once r in
      let h = t.bound.held r in
      let f = times-append w.pool.free plan.rows r in
      omega arith

  pub ready_range : (r : ℕ) → 0 < times plan.gone r → (0 < r) × (r ≤ w.pool.rows)
  ready_range r has =
      let now = current Means w.desk kept in
      let x : Version = now.0 in
      let sh = shows x now.1 in
      let h = t.bound.held r in
      let range = kept.ranged (newest w.desk) x r now.1 (contains_times x.image.rows r (subst (λ z. 0 < times z r) (sym sh.rows) (omega arith))) in
      let below = range.below in
      let a = t.whole.rows.0 in
      let b = t.whole.rows.1 in
      (range.above, omega arith)

  pub ready_last : (v : ℕ) → newest w.desk ≤ v → Each (λ _ u. u ≤ v) w.pool.retired
  ready_last v low = each_versions v w.pool.retired (λ u has. let r = t.whole.housed.recent u has in let b = r.1 in omega arith)

  pub ready_whole : (d' : Desk) (pool : Pooled) → Written w.desk d' plan (256 * plan.need) → IsAllowed w.settings w.state e
      → pool ≡ record w.pool { retired = w.pool.retired ++ paired plan.gone (newest w.desk + 1) }
      → IsWhole (record { table = w.table; desk = renewed d' w.settings e w.pic plan; settings = w.settings; state = after w.settings w.state e; pic = installed w.pic plan; pool = pool })
  ready_whole d' pool wr allowed is =
      let k : Settings = w.settings in
      let es : List Entry = t.whole.entries in
      let new : State = after k w.state e in
      let made : Shows k (installed w.pic plan) (sight_of (planned_image d' w.pic plan)) new = shows_made k es e w.desk d' w.pic plan w.state new kept shows t.bound wr in
      let h = housed_after k es e w.desk d' w.pic (installed w.pic plan) plan w.state new (untaken w.pool plan.rows) w.pool.free kept t.whole.told t.bound wr t.whole.housed refl refl (cur_size _ t.whole) in
      subst (λ (z : Pooled). IsWhole (record { table = w.table; desk = renewed d' k e w.pic plan; settings = k; state = new; pic = installed w.pic plan; pool = z })) (sym is)
      (record {
        entries = es ++ e ∷ [];
        told = subst (λ z. IsTold (z ++ code k e ∷ []) k (es ++ e ∷ [])) (sym wr.history) (told_more w.desk.history k es e t.whole.told (subst (λ z. IsAllowed k z e) t.whole.state allowed));
        state = ap (λ z. after k z e) t.whole.state ∙ sym (state_more k nothing es e);
        current = λ x at.
            let counted = kept.counted in
            let long = ap (λ (q : List Version). length q) wr.versions in
            let more = length-append d'.history (code k e ∷ []) in
            let hist = ap length wr.history in
            ⊎_elim (λ (q : (newest (renewed d' k e w.pic plan) < length d'.versions) × (get_elem? d'.versions (newest (renewed d' k e w.pic plan)) ≡ some x)). let a = q.0 in absurd (omega arith))
            (λ (q : (newest (renewed d' k e w.pic plan) ≡ length d'.versions) × (new_version d' plan.root (rows_in (installed w.pic plan)) (firsts_in (installed w.pic plan)) ≡ x)).
            subst (λ (z : Version). Shows k (installed w.pic plan) (sight_of z.image) new × ((installed w.pic plan).root ≡ z.root)) q.1 (made, t.bound.top))
            (at_more d'.versions (new_version d' plan.root (rows_in (installed w.pic plan)) (firsts_in (installed w.pic plan))) x (newest (renewed d' k e w.pic plan)) at);
        sized = t.bound.sized;
        fits = allowed.within.rows;
        rows = (wr.rows ∙ t.whole.rows.0, t.whole.rows.1, t.whole.rows.2);
        housed = h;
      })

  pub ready_grown : (d' : Desk) (pool : Pooled) → Written w.desk d' plan (256 * plan.need) → IsAllowed w.settings w.state e
      → IsGrown w (record { table = w.table; desk = renewed d' w.settings e w.pic plan; settings = w.settings; state = after w.settings w.state e; pic = installed w.pic plan; pool = pool }) e
  ready_grown d' pool wr allowed = record {
    history = ap (λ z. z ++ code w.settings e ∷ []) wr.history;
    settings = refl;
    state = refl;
    allowed = allowed;
    pins = wr.pins;
    table = refl;
    rises =
        let more = length-append d'.history (code w.settings e ∷ []) in
        let hist = ap length wr.history in
        let low = least_le (newest w.desk) w.desk.bounds in
        let n : ℕ = newest (renewed d' w.settings e w.pic plan) in
        let up : least (newest w.desk) w.desk.bounds ≤ least n d'.bounds = subst (λ z. least (newest w.desk) w.desk.bounds ≤ least n z) (sym wr.bounds) (least_most (least (newest w.desk) w.desk.bounds) n w.desk.bounds (omega arith) (λ j c q. least_bound (newest w.desk) w.desk.bounds j c q)) in
        omega arith;
  }

-- the current version as planning asks
pub stands_now : (w : Writing) → IsWhole w → Kept Means w.desk → (x : Sight) × Shows w.settings w.pic x w.state
stands_now w whole kept =
    let now = current Means w.desk kept in
    (sight_of now.0.image, (whole.current now.0 now.1).0)

-- a pool after rows were reclaimed
pub reclaimed : ℕ → Pooled → Pooled
reclaimed b pool = record pool { free = pool.free ++ freed b pool.retired; retired = later b pool.retired }

-- looks, and rows that became free
module _ (w : Writing) (d : Desk) (b : ℕ) (pool : Pooled) (whole : IsWhole w) (watched : Watched w.desk d) (low : b ≡ least (newest d) d.bounds)
    (is : pool ≡ record w.pool { free = w.pool.free ++ freed b w.pool.retired; retired = later b w.pool.retired }) where
  housed_looked : IsHoused w.settings whole.entries d w.pic pool
  housed_looked = subst (IsHoused w.settings whole.entries d w.pic) (sym is) (housed_reclaimed w.settings whole.entries d w.pic w.pool b (omega arith) (housed_watched w.settings whole.entries w.desk d w.pic w.pool watched whole.housed))

  pub whole_looked : IsWhole (record w { desk = d; pool = pool })
  whole_looked = record {
    entries = whole.entries;
    told = subst (λ z. IsTold z w.settings whole.entries) (sym watched.history) whole.told;
    state = whole.state;
    current = λ x at. whole.current x ((λ i. get_elem? (sym watched.versions i) (length (sym watched.history i))) ∙ at);
    sized = whole.sized;
    fits = whole.fits;
    rows = (watched.rows ∙ whole.rows.0, ap (λ (z : Pooled). z.rows) is ∙ whole.rows.1, let s : pool.rows ≡ w.pool.rows = ap (λ (z : Pooled). z.rows) is in let t = whole.rows.2 in omega arith);
    housed = housed_looked;
  }

  -- why it is held
  pub held_by : (reader word need pins : ℕ) (e : Entry) → (b < newest w.desk → Found w.desk d pins b reader word) → pins ≡ length d.bounds
      → length pool.free < need → need ≤ size_of w.settings (after w.settings w.state e) → size_of w.settings (after w.settings w.state e) ≤ w.settings.rows
      → IsHeldBy w (record w { desk = d; pool = pool }) e reader b word
  held_by reader word need pins e found count short few fits =
      let k : Settings = w.settings in
      let same : newest d ≡ newest w.desk = ap length watched.history in
      let top = least_le (newest d) d.bounds in
      let above : (u : ℕ) → 0 < times (versions_of pool.retired) u → b < u = λ u has. later_above b u w.pool.retired (subst (λ (z : Pooled). 0 < times (versions_of z.retired) u) is has) in
      let cur : length (rows_in w.pic) ≡ size_at k whole.entries (newest d) = cur_size w whole ∙ ap (size_at k whole.entries) (sym same) in
      let sized = whole.sized in
      let fit = whole.fits in
      let old : b < newest d = has_room k whole.entries d w.pic pool b need (size_of k (after k w.state e)) (omega arith) housed_looked above (omega arith) short few fits in
      let full = too_full k whole.entries d w.pic pool b need (size_of k (after k w.state e)) (omega arith) housed_looked above cur short few in
      let f = found (omega arith) in
      record {
        more = f.more;
        looks = f.looks;
        looked = f.looked;
        above = f.above;
        below = f.below;
        bound = f.at;
        lowest = λ j c at. (let l = least_bound (newest d) d.bounds j c at in omega arith, λ q. f.first j (let i = within d.bounds j (Some c) at in omega arith) (at ∙ ap (λ z. some (Some z)) q));
        old = omega arith;
        entries = whole.entries;
        told = whole.told;
        full = subst (λ z. 2 * k.rows < sizes k whole.entries b z + size_of k (after k w.state e)) same full;
      }

  pub left_looked : IsLeft w (record w { desk = d; pool = pool })
  left_looked = record { watched = watched; settings = refl; state = refl; pic = refl; table = refl }

  -- the rows are taken, and the plan is bound to them
  pub ready : (taken : Pooled) (first plan : Planned) (out : List ℕ) (e : Entry) → IsTidy pool → pool.free ≡ taken.free ++ out → taken.retired ≡ pool.retired → taken.rows ≡ pool.rows
      → IsPlan w.settings w.pic first w.state (after w.settings w.state e)
      → (IsPlan w.settings w.pic first w.state (after w.settings w.state e) → IsFresh w.pic out → IsBound w.settings w.pic plan w.state (after w.settings w.state e)) → plan.rows ≡ out
      → IsReady (record w { desk = d; pool = taken }) plan e
  ready taken first plan out e tidy free late same is_plan binds rows =
      let r : pool.rows ≡ w.pool.rows = ap (λ (z : Pooled). z.rows) is in
      let small = whole.rows.2 in
      let back : pool ≡ untaken taken plan.rows = λ i. record { rows = sym same i; free = (free ∙ ap (λ z. taken.free ++ z) (sym rows)) i; retired = sym late i } in
      record {
        whole = subst (λ (z : Pooled). IsWhole (record w { desk = d; pool = z })) back whole_looked;
        tidy = subst IsTidy back tidy;
        bound = binds is_plan (fresh_taken w.settings whole.entries d w.pic pool taken.free out housed_looked tidy (omega arith) free);
      }

  -- what grew after the looks grew
  pub grown_looked : (taken : Pooled) (w' : Writing) (e : Entry) → IsGrown (record w { desk = d; pool = taken }) w' e → IsGrown w w' e
  grown_looked taken w' e g = record {
    history = g.history ∙ ap (λ z. z ++ code w.settings e ∷ []) watched.history;
    settings = g.settings;
    state = g.state;
    allowed = g.allowed;
    pins = g.pins ∙ watched.pins;
    table = g.table;
    rises = let a = watched.rises in let b = g.rises in omega arith;
  }

-- what looks, lends and returns leave
pub whole_watched : (w : Writing) (d : Desk) → IsWhole w → Watched w.desk d → IsWhole (record w { desk = d })
whole_watched w d whole watched = record {
  entries = whole.entries;
  told = subst (λ z. IsTold z w.settings whole.entries) (sym watched.history) whole.told;
  state = whole.state;
  current = λ x at. whole.current x ((λ i. get_elem? (sym watched.versions i) (length (sym watched.history i))) ∙ at);
  sized = whole.sized;
  fits = whole.fits;
  rows = (watched.rows ∙ whole.rows.0, whole.rows.1, whole.rows.2);
  housed = housed_watched w.settings whole.entries w.desk d w.pic w.pool watched whole.housed;
}

watched_bounds : (d : Desk) (j : ℕ) (b : Option ℕ) (told : History) → ((c : ℕ) → b ≡ Some c → c ≡ newest d) → Watched d (record d { bounds = set d.bounds j b; told = told })
watched_bounds d j b told new = record {
  pins = refl;
  rows = refl;
  history = refl;
  versions = refl;
  words = refl;
  draft = refl;
  as_many = length-set d.bounds j b;
  rises = least_most (least (newest d) d.bounds) (newest d) (set d.bounds j b) (least_le (newest d) d.bounds)
      (λ i c at. ⊎_elim (λ (t : (i ≡ j) × (b ≡ Some c)). let e = new c t.1 in let l = least_le (newest d) d.bounds in omega arith)
      (λ (t : (i ≢ j) × (get_elem? d.bounds i ≡ some (Some c))). least_bound (newest d) d.bounds i c t.1) (at_set d.bounds j i b (Some c) at));
}

pub watched_lent : (d : Desk) → Watched d (lent d)
watched_lent d = watched_bounds d (lowest d.bounds) (Some (newest d)) d.told (λ c e. let q : newest d ≡ c = cc in sym q)

pub watched_returned : (d : Desk) (t : Ticket) → Watched d (returned d t)
watched_returned d t = watched_bounds d t.number None t.seen (λ c e. absurd (cc))

-- a prepare call leaves all of this
pub whole_prepared : (w : Writing) (settings : Settings) (state : State) → settings ≡ w.settings → state ≡ w.state → IsWhole w → IsWhole (record w { settings = settings; state = state })
whole_prepared w settings state a b whole = subst (λ (z : Settings × State). IsWhole (record w { settings = z.0; state = z.1 })) (λ i. (sym a i, sym b i)) whole

-- one update more
pub counted_more : (w w' : Writing) (e : Entry) (n : ℕ) → IsGrown w w' e → is_update e ≡ true → n ≡ updates_in w.desk.history → n + 1 ≡ updates_in w'.desk.history
counted_more w w' e n g u is =
    let more = updates_more w.desk.history (code w.settings e) in
    let one = updates_code w.settings e u in
    let long = ap updates_in g.history in
    omega arith

-- and the count of updates has room
pub counted_few : (w w' : Writing) (e : Entry) (n : ℕ) → IsGrown w w' e → is_update e ≡ true → n ≡ updates_in w.desk.history → newest w'.desk < 2 ^ 40 → n + 1 < 2 ^ 40
counted_few w w' e n g u is few =
    let more = counted_more w w' e n g u is in
    let low = updates_few w'.desk.history in
    omega arith

-- what grew after a prepare call grew
pub grown_prepared : (w w' : Writing) (settings : Settings) (state : State) (e f : Entry) → settings ≡ w.settings → state ≡ w.state → e ≡ f → IsGrown (record w { settings = settings; state = state }) w' e → IsGrown w w' f
grown_prepared w w' settings state e f a b is g = subst (λ (z : Settings × State × Entry). IsGrown (record w { settings = z.0; state = z.1 }) w' z.2) (λ i. (a i, b i, is i)) g
