-- The steps of the writer keep the rule.
use Rattle.std.proofs.Common.{◌≡◌, ◌≢◌, ◌⊎◌, ℕ, zero, suc, ◌+◌, ◌-◌, ◌*◌, ◌%◌, ◌<◌, ◌≤◌, List, [], ◌∷◌, ◌++◌, length, take, get_or, set, sym, refl, ap, ◌∙◌, subst, inl, inr, ⊎_elim, arith, Some, None, length-set, length-append, get_or-set_other, get_or-set_same}
use Rattle.std.proofs.lemmas.List.{take-append-le, take_all}
use Rattle.std.proofs.lemmas.List.Elements.{Contains-append_cases}
use mathlib.Core.Logic.{dite}
use mathlib.Core.Option.{some, none}
use native.Mathlib.Decide.{ℕ_discrete}
use lib.ListN.{get_elem?}
use lib.Seq.{set-get_or}
use Rattle.std.specs.Prelude.{Contains}
use Rattle.atomic_table.specs.Table.{State, step, keeps, Allows}
use Rattle.atomic_table.proofs.Lists.{at_set, set_again, at_longer, at_last, set_here}
use Rattle.act_rows.specs.declared.views.Snapshot.{Snapshot}
use Rattle.act_rows.specs.declared.views.Version.{Version}
use Rattle.act_rows.specs.declared.views.Desk.{Desk}
use Rattle.act_rows.specs.declared.views.Ticket.{Ticket}
use Rattle.act_rows.specs.declared.views.Stage.{Stage}
use Rattle.act_rows.specs.declared.views.Stage.TheVariants.{Idle, Hinted, Pinned, Holding}
use Rattle.act_rows.specs.declared.views.View.{View}
use Rattle.act_rows.specs.declared.views.View.TheVariants.{Writes, Reads, Tells, Spent}
use Rattle.act_rows.specs.declared.board.Sizes.{Sizes}
use Rattle.act_rows.specs.History.{History, Begins}
use Rattle.act_rows.specs.Images.{place_in, InRange, Shows}
use Rattle.act_rows.specs.Bounds.{least, raised, bound_at}
use Rattle.act_rows.specs.Versions.{newest, IsKept}
use Rattle.act_rows.specs.Updates.{looked, stored, new_image, new_version, published}
use Rattle.act_rows.specs.Safe.{Kept, Laid, IsHeld, Standing, IsLent, Knows, Safe}
use Rattle.act_rows.specs.Steps.{looks, stores, publishes, checks}
use Rattle.act_rows.specs.Asked.{MayStore, MayPublish}
use Rattle.act_rows.proofs.Lists.{within, at_more, begins_more}
use Rattle.act_rows.proofs.Bounds.{least_le, least_bound, least_most, bound_is, raised_most, raised_low, raised_held}
use Rattle.act_rows.proofs.Frames.{written, writer_step}

-- what a reader keeps when the writer's view changes
pub record Grows (d d' : Desk) : Type 0 where
  pub pins : d'.pins ≡ d.pins
  pub rows : d'.rows ≡ d.rows
  pub begins : (h : History) → Begins h d.history → Begins h d'.history
  pub newer : newest d ≤ newest d'
  pub versions : (v : ℕ) (x : Version) → get_elem? d.versions v ≡ some x → get_elem? d'.versions v ≡ some x

pub reader_keeps : (d d' : Desk) (t : Ticket) (pin : ℕ) → Grows d d' → ((c : ℕ) × (get_elem? d'.bounds t.number ≡ some (Some c)))
    → ((h : History) (x : Version) → IsHeld d t pin h x → (c : ℕ) → get_elem? d'.bounds t.number ≡ some (Some c) → c ≤ length h) → IsLent d t pin → IsLent d' t pin
reader_keeps d d' t pin g has bound l = record {
  sizes = (l.sizes.0 ∙ sym g.pins, l.sizes.1 ∙ sym g.rows);
  lent = has;
  seen = g.begins t.seen l.seen;
  told = g.begins t.told l.told;
  mine = λ i v e. let a = l.mine i v e in let b = g.newer in omega arith;
  rises = l.rises;
  standing = standing t.stage l.standing;
}
  where
    standing : (z : Stage) → Standing d t pin z → Standing d' t pin z
    standing Idle h = h
    standing (Hinted v) h = let b = g.newer in let a = h.1 in (h.0, omega arith)
    standing (Pinned v) h = let b = g.newer in let a = h.1 in (h.0, omega arith)
    standing (Holding y x) h = record { version = g.versions (length y) x h.version; begins = g.begins y h.begins; bound = bound y x h; later = h.later; last = h.last; on = h.on; low = h.low }

-- the bounds as they were, for a reader that holds
same_bound : (d : Desk) (t : Ticket) (pin : ℕ) (h : History) (x : Version) → IsHeld d t pin h x → (c : ℕ) → get_elem? d.bounds t.number ≡ some (Some c) → c ≤ length h
same_bound d t pin h x held c e = held.bound c e

pub same_grows : (d d' : Desk) → d'.pins ≡ d.pins → d'.rows ≡ d.rows → d'.history ≡ d.history → d'.versions ≡ d.versions → Grows d d'
same_grows d d' p r h v = record {
  pins = p;
  rows = r;
  begins = λ y b. subst (Begins y) (sym h) b;
  newer = let e = ap length h in omega arith;
  versions = λ i x e. ap (λ z. get_elem? z i) v ∙ e;
}

module _ (fact : History → ℕ → Snapshot → Type 0) (d : Desk) (kept : Kept fact d) where
  -- look
  looked_bounded : (j p c : ℕ) → get_elem? d.bounds j ≡ some (Some c) → p ≤ newest d + 1 → (i b : ℕ) → get_elem? (looked d j p).bounds i ≡ some (Some b)
      → ((i ≡ j) × (raised (newest d) p c ≡ b)) ⊎ ((i ≢ j) × (get_elem? d.bounds i ≡ some (Some b)))
  looked_bounded j p c at low i b e = ⊎_elim (λ (h : (i ≡ j) × (Some (raised (newest d) p (bound_at d.bounds j)) ≡ Some b)). inl (h.0, let q = h.1 in let r : raised (newest d) p (bound_at d.bounds j) ≡ b = cc in ap (raised (newest d) p) (sym (bound_is d.bounds j c at)) ∙ r))
      (λ (h : (i ≢ j) × (get_elem? d.bounds i ≡ some (Some b))). inr h) (at_set d.bounds j i (Some (raised (newest d) p (bound_at d.bounds j))) (Some b) e)

  looked_kept : (j p c v : ℕ) (x : Version) → get_elem? d.bounds j ≡ some (Some c) → p ≤ newest d + 1 → IsKept (looked d j p) v x → IsKept d v x
  looked_kept j p c v x at low is = record {
    is = is.is;
    high =
        let m : ℕ = least (newest d) d.bounds in
        let a : m ≤ least (newest d) (looked d j p).bounds = least_most m (newest d) (looked d j p).bounds (least_le (newest d) d.bounds)
        (λ i b e. ⊎_elim (λ (h : (i ≡ j) × (raised (newest d) p c ≡ b)). let g = raised_most (newest d) p c m (least_le (newest d) d.bounds) (least_bound (newest d) d.bounds j c at) in let q = h.1 in omega arith)
        (λ (h : (i ≢ j) × (get_elem? d.bounds i ≡ some (Some b))). least_bound (newest d) d.bounds i b h.1) (looked_bounded j p c at low i b e)) in
        let b = is.high in omega arith;
  }

  pub kept_looked : (j p c : ℕ) → get_elem? d.bounds j ≡ some (Some c) → p ≤ newest d + 1 → Kept fact (looked d j p)
  kept_looked j p c at low = record {
    counted = kept.counted;
    few = kept.few;
    deep = kept.deep;
    pinned = length-set d.bounds j (Some (raised (newest d) p (bound_at d.bounds j))) ∙ kept.pinned;
    bounded = λ i b e. ⊎_elim (λ (h : (i ≡ j) × (raised (newest d) p c ≡ b)). let q = h.1 in let g = raised_low (newest d) p c low (kept.bounded j c at) in omega arith)
        (λ (h : (i ≢ j) × (get_elem? d.bounds i ≡ some (Some b))). kept.bounded i b h.1) (looked_bounded j p c at low i b e);
    rooted = kept.rooted;
    ranged = kept.ranged;
    facts = λ v x is. kept.facts v x (looked_kept j p c v x at low is);
    shown = λ v x is. kept.shown v x (looked_kept j p c v x at low is);
    apart = λ v x row place is. kept.apart v x row place (looked_kept j p c v x at low is);
    drafted = kept.drafted;
    told = kept.told;
  }

  -- store
  pub kept_stored : (row place word : ℕ) → MayStore d row → place < 256 → Kept fact (stored d row place word)
  kept_stored row place word may small = record {
    counted = kept.counted;
    few = kept.few;
    deep = length-set d.words (place_in row place) word ∙ kept.deep;
    pinned = kept.pinned;
    bounded = kept.bounded;
    rooted = kept.rooted;
    ranged = kept.ranged;
    facts = λ v x is. kept.facts v x record { is = is.is; high = is.high };
    shown = λ v x is row' place' has small'.
        let is' : IsKept d v x = record { is = is.is; high = is.high } in
        let range = kept.ranged v x row' is.is has in
        let a = range.above in
        let b = may.range.above in
        let ne : row' ≢ row = λ e. may.away v x is' (subst (Contains x.image.rows) e has) in
        get_or-set_other d.words (place_in row place) (place_in row' place') word 0 (λ q. ne (omega arith)) ∙ kept.shown v x is' row' place' has small';
    apart = λ v x row' place' is drafted has.
        let is' : IsKept d v x = record { is = is.is; high = is.high } in
        ⊎_elim (λ (h : Contains d.draft (row', place')). kept.apart v x row' place' is' h has)
        (λ (h : Contains ((row, place) ∷ []) (row', place')). may.away v x is' (subst (Contains x.image.rows) (sym (ap (λ z. z.0) (one h))) has))
        (Contains-append_cases d.draft ((row, place) ∷ []) (row', place') drafted);
    drafted = λ row' place' drafted.
        ⊎_elim (λ (h : Contains d.draft (row', place')). kept.drafted row' place' h)
        (λ (h : Contains ((row, place) ∷ []) (row', place')). subst (λ z. InRange d.rows z.0) (one h) may.range)
        (Contains-append_cases d.draft ((row, place) ∷ []) (row', place') drafted);
    told = kept.told;
  }
    where
      one : {y : ℕ × ℕ} → Contains ((row, place) ∷ []) y → (row, place) ≡ y
      one (zero, h, e) = e
      one (suc i, h, e) = absurd (omega arith)

  -- publish
  module _ (entry : List ℕ) (root : ℕ) (rows : List ℕ) (firsts : List (ℕ × ℕ)) (may : MayPublish fact d entry root rows firsts) where
    abbrev after : Desk
    after = published d entry root rows firsts

    newest_after : newest after ≡ newest d + 1
    newest_after = length-append d.history (entry ∷ [])

    -- a kept version was kept before, or is the new one
    kept_before : (v : ℕ) (x : Version) → IsKept after v x → ((v ≤ newest d) × IsKept d v x) ⊎ ((v ≡ newest d + 1) × (new_version d root rows firsts ≡ x))
    kept_before v x is =
        let n = newest_after in
        let c = kept.counted in
        let m : ℕ = least (newest d) d.bounds in
        let a : m ≤ newest d = least_le (newest d) d.bounds in
        let b : m ≤ least (newest after) d.bounds = least_most m (newest after) d.bounds (omega arith) (λ j c e. least_bound (newest d) d.bounds j c e) in
        let g = is.high in
        ⊎_elim (λ (h : (v < length d.versions) × (get_elem? d.versions v ≡ some x)). inl (let q = h.0 in omega arith, record { is = h.1; high = omega arith }))
        (λ (h : (v ≡ length d.versions) × (new_version d root rows firsts ≡ x)). inr (let q = h.0 in omega arith, h.1)) (at_more d.versions (new_version d root rows firsts) x v is.is)

    in_range : (row : ℕ) → Contains rows row → InRange d.rows row
    in_range row has = ⊎_elim (λ (h : (x : Version) × (get_elem? d.versions (newest d) ≡ some x) × Contains x.image.rows row). kept.ranged (newest d) h.0 row h.1 h.2)
        (λ (h : (place : ℕ) → place < 256 → Contains d.draft (row, place)). kept.drafted row 0 (h 0 (omega arith))) (may.ready row has)

    pub root_in : InRange d.rows root
    root_in = in_range root may.rooted

    pub kept_published : Kept fact after
    kept_published = record {
      counted = let a = length-append d.versions (new_version d root rows firsts ∷ []) in let b = kept.counted in let c = newest_after in omega arith;
      few = let a = may.few in let c = newest_after in omega arith;
      deep = kept.deep;
      pinned = kept.pinned;
      bounded = λ j c e. let a = kept.bounded j c e in let b = newest_after in omega arith;
      rooted = λ v x e. ⊎_elim (λ (h : (v < length d.versions) × (get_elem? d.versions v ≡ some x)). kept.rooted v x h.1)
          (λ (h : (v ≡ length d.versions) × (new_version d root rows firsts ≡ x)). subst (λ z. Contains z.image.rows z.root) h.1 may.rooted) (at_more d.versions (new_version d root rows firsts) x v e);
      ranged = λ v x row e has. ⊎_elim (λ (h : (v < length d.versions) × (get_elem? d.versions v ≡ some x)). kept.ranged v x row h.1 has)
          (λ (h : (v ≡ length d.versions) × (new_version d root rows firsts ≡ x)). in_range row (subst (λ z. Contains z.image.rows row) (sym h.1) has)) (at_more d.versions (new_version d root rows firsts) x v e);
      facts = λ v x is. ⊎_elim (λ (h : (v ≤ newest d) × IsKept d v x). subst (λ z. fact z x.root x.image) (sym (take-append-le v d.history (entry ∷ []) h.0)) (kept.facts v x h.1))
          (λ (h : (v ≡ newest d + 1) × (new_version d root rows firsts ≡ x)). let q = h.0 in let n = newest_after in
          let all : take v (d.history ++ entry ∷ []) ≡ d.history ++ entry ∷ [] = take_all v (d.history ++ entry ∷ []) (omega arith) in
          subst (λ z. fact (take v (d.history ++ entry ∷ [])) z.root z.image) h.1 (subst (λ z. fact z root (new_image d rows firsts)) (sym all) may.fits)) (kept_before v x is);
      shown = λ v x is. ⊎_elim (λ (h : (v ≤ newest d) × IsKept d v x). kept.shown v x h.1)
          (λ (h : (v ≡ newest d + 1) × (new_version d root rows firsts ≡ x)). subst (λ z. Shows d.words z.image) h.1 (λ row place has small. refl)) (kept_before v x is);
      apart = λ v x row place is drafted. absurd (none drafted);
      drafted = λ row place drafted. absurd (none drafted);
      told = begins_more d.told d.history (entry ∷ []) kept.told;
    }
      where
        none : {y : ℕ × ℕ} → Contains [] y → ⊥
        none (i, h, e) = absurd (omega arith)

    pub grows_published : Grows d after
    grows_published = record {
      pins = refl;
      rows = refl;
      begins = λ h b. begins_more h d.history (entry ∷ []) b;
      newer = let a = newest_after in omega arith;
      versions = λ v x e. at_longer d.versions (new_version d root rows firsts ∷ []) v x e;
    }

    pub laid_published : (words : List ℕ) → Laid d words → Laid after (set words 0 ((newest d + 1) * 16777216 + root))
    laid_published words l = record {
      wide = length-set words 0 ((newest d + 1) * 16777216 + root) ∙ l.wide;
      head = λ x e. let a = newest_after in let b = kept.counted in let w = l.wide in
          let last : get_elem? (d.versions ++ new_version d root rows firsts ∷ []) (newest after) ≡ some (new_version d root rows firsts) = at_last d.versions (new_version d root rows firsts) (newest after) (omega arith) in
          let same : new_version d root rows firsts ≡ x = cc in
          get_or-set_same words 0 ((newest d + 1) * 16777216 + root) 0 (omega arith) ∙ (λ i. sym a i * 16777216 + (same i).root);
      rows = λ i h. get_or-set_other words 0 (1 + d.pins + i) ((newest d + 1) * 16777216 + root) 0 (λ q. omega arith) ∙ l.rows i h;
      low = λ j h. let a = newest_after in let b = l.low j h in let c = get_or-set_other words 0 (1 + j) ((newest d + 1) * 16777216 + root) 0 (λ q. omega arith) in omega arith;
      free = λ j e. get_or-set_other words 0 (1 + j) ((newest d + 1) * 16777216 + root) 0 (λ q. omega arith) ∙ l.free j e;
    }

-- a row word is set
pub laid_stored : (d : Desk) (words : List ℕ) (row place word : ℕ) → Laid d words → length d.words ≡ 512 * d.rows → length d.bounds ≡ d.pins → InRange d.rows row → place < 256 → Laid (stored d row place word) (set words (1 + d.pins + place_in row place) word)
laid_stored d words row place word l deep count range small =
    let above = range.above in let below = range.below in let w = l.wide in
    let inside : place_in row place < 512 * d.rows = omega arith in
    record {
      wide = length-set words (1 + d.pins + place_in row place) word ∙ l.wide;
      head = λ x e. get_or-set_other words (1 + d.pins + place_in row place) 0 word 0 (λ q. omega arith) ∙ l.head x e;
      rows = λ i h. dite (ℕ_discrete i (place_in row place))
          (λ e. let a : get_or (set words (1 + d.pins + place_in row place) word) (1 + d.pins + i) 0 ≡ word = ap (λ z. get_or (set words (1 + d.pins + place_in row place) word) (1 + d.pins + z) 0) e ∙ get_or-set_same words (1 + d.pins + place_in row place) word 0 (omega arith) in
          let b : get_or (set d.words (place_in row place) word) i 0 ≡ word = ap (λ z. get_or (set d.words (place_in row place) word) z 0) e ∙ get_or-set_same d.words (place_in row place) word 0 (omega arith) in
          a ∙ sym b)
          (λ ne. get_or-set_other words (1 + d.pins + place_in row place) (1 + d.pins + i) word 0 (λ q. ne (omega arith)) ∙ (l.rows i h ∙ sym (get_or-set_other d.words (place_in row place) i word 0 ne)));
      low = λ j h. let a = get_or-set_other words (1 + d.pins + place_in row place) (1 + j) word 0 (λ q. omega arith) in let b = l.low j h in omega arith;
      free = λ j e. let a = within d.bounds j None e in get_or-set_other words (1 + d.pins + place_in row place) (1 + j) word 0 (λ q. omega arith) ∙ l.free j e;
    }

module _ (S : Type 0) (fact : History → ℕ → Snapshot → Type 0) (k : Sizes) where
  abbrev Held : Type 0
  Held = List (ℕ × S)

  abbrev Rule : State S View → Type 0
  Rule = Safe {S = S} fact k

  -- the others, at a step that changes no pin word
  pub others_keep : (d d' : Desk) (words words' : List ℕ) → Grows d d' → ((j : ℕ) → j < d.pins → get_or words' (1 + j) 0 ≡ get_or words (1 + j) 0)
      → ((t : Ticket) (pin : ℕ) → pin ≡ get_or words (1 + t.number) 0 → IsLent d t pin → t.number < d.pins → IsLent d' t pin) → length d.bounds ≡ d.pins → (i : ℕ) (v : View) → i ≢ 0 → Knows d words i v → Knows d' words' i v
  others_keep d d' words words' g pins lent count i (Writes q) ne kn = kn
  others_keep d d' words words' g pins lent count i (Reads t) ne kn =
      let low : t.number < d.pins = let h = within d.bounds t.number (Some kn.lent.0) kn.lent.1 in omega arith in
      subst (IsLent d' t) (sym (pins t.number low)) (lent t _ refl kn low)
  others_keep d d' words words' g pins lent count i (Tells h) ne kn = g.begins h kn
  others_keep d d' words words' g pins lent count i Spent ne kn = tt

  -- look
  pub look_step : (slots id j c : ℕ) (d : Desk) (held : Held) → get_elem? d.bounds j ≡ some (Some c) → Allows Rule slots id (Writes d, held) (1 + j) (λ n. n) (looks (step slots (1 + j) 0 0 none) (Writes d, held))
  look_step slots id j c d held at_bound s r deep at low =
      let w = written S fact k s r id d at in
      let me = w.1 in
      let p : ℕ = get_or s.words (1 + j) 0 in
      let inside : j < d.pins = let a = within d.bounds j (Some c) at_bound in let b = me.kept.pinned in omega arith in
      let small : p ≤ newest d + 1 = me.laid.low j inside in
      let d' : Desk = looked d j p in
      let g : Grows d d' = same_grows d d' refl refl refl refl in
      let laid : Laid d' s.words = record {
        wide = me.laid.wide;
        head = me.laid.head;
        rows = me.laid.rows;
        low = me.laid.low;
        free = λ i e. ⊎_elim (λ (h : (i ≡ j) × (Some (raised (newest d) p (bound_at d.bounds j)) ≡ None)). absurd (let q = h.1 in cc)) (λ (h : (i ≢ j) × (get_elem? d.bounds i ≡ some None)). me.laid.free i h.1)
            (at_set d.bounds j i (Some (raised (newest d) p (bound_at d.bounds j))) None e);
      } in
      let bounds : (i b : ℕ) → get_elem? d'.bounds i ≡ some (Some b) → ((i ≡ j) × (raised (newest d) p c ≡ b)) ⊎ ((i ≢ j) × (get_elem? d.bounds i ≡ some (Some b))) = looked_bounded fact d me.kept j p c at_bound small in
      let lent : (t : Ticket) (pin : ℕ) → pin ≡ get_or s.words (1 + t.number) 0 → IsLent d t pin → t.number < d.pins → IsLent d' t pin = λ t pin pin_is l in_pins. reader_keeps d d' t pin g
      (dite (ℕ_discrete t.number j)
      (λ e. (raised (newest d) p (bound_at d.bounds j), ap (λ z. get_elem? d'.bounds z) e ∙ set_here d.bounds j (Some (raised (newest d) p (bound_at d.bounds j))) (let b = me.kept.pinned in omega arith)))
      (λ ne. (l.lent.0, Rattle.atomic_table.proofs.Lists.set_else d.bounds j t.number (Some (raised (newest d) p (bound_at d.bounds j))) ne ∙ l.lent.1)))
      (λ h x is b e. ⊎_elim (λ (q : (t.number ≡ j) × (raised (newest d) p c ≡ b)).
      let here : pin ≡ p = pin_is ∙ ap (λ z. get_or s.words (1 + z) 0) q.0 in
      let old : c ≤ length h = is.bound c (ap (λ z. get_elem? d.bounds z) q.0 ∙ at_bound) in
      let on = is.on in let under = is.low in
      let a = raised_held (newest d) p c (length h) (omega arith) (omega arith) old in let q1 = q.1 in omega arith)
      (λ (q : (t.number ≢ j) × (get_elem? d.bounds t.number ≡ some (Some b))). is.bound b q.1) (bounds t.number b e)) l in (
        Writes d',
        keeps,
        tt,
        subst (λ (ws : List ℕ). Rule record { words = ws; homes = s.homes; views = set s.views id (Writes d') }) (sym (set-get_or s.words (1 + j) 0))
            (writer_step S fact k s r id d d' s.words s.homes at record { pins = me.sized.pins; rows = me.sized.rows; few = me.sized.few } (kept_looked fact d me.kept j p c at_bound small) laid
            (λ i v ne e. others_keep d d' s.words s.words g (λ i h. refl) lent me.kept.pinned i v ne (me.each i v e))),
        (refl, λ e is. let q : d ≡ e = cc in (let one : j ≡ 1 + j - 1 = omega arith in λ i. Writes (looked (q i) (one i) p), subst (λ z. p ≤ newest z + 1) q small)),
      )

  -- store
  pub store_step : (slots id row place word : ℕ) (d : Desk) (held : Held) → MayStore d row → place < 256
      → Allows Rule slots id (Writes d, held) (1 + d.pins + place_in row place) (λ _. word) (λ _. stores (step slots (1 + d.pins + place_in row place) word 0 none) (Writes d, held) word)
  store_step slots id row place word d held may small s r deep at low =
      let w = written S fact k s r id d at in
      let me = w.1 in
      let d' : Desk = stored d row place word in
      let g : Grows d d' = same_grows d d' refl refl refl refl in (
        Writes d',
        keeps,
        tt,
        writer_step S fact k s r id d d' (set s.words (1 + d.pins + place_in row place) word) s.homes at record { pins = me.sized.pins; rows = me.sized.rows; few = me.sized.few } (kept_stored fact d me.kept row place word may small)
            (laid_stored d s.words row place word me.laid me.kept.deep me.kept.pinned may.range small)
            (λ i v ne e. others_keep d d' s.words (set s.words (1 + d.pins + place_in row place) word) g (λ j h. get_or-set_other s.words (1 + d.pins + place_in row place) (1 + j) word 0 (λ q. omega arith))
            (λ t pin pin_is l in_pins. reader_keeps d d' t pin g l.lent (λ h x is. is.bound) l) me.kept.pinned i v ne (me.each i v e)),
        (
          refl,
          λ e row' place' is above' small' word_is. let q : d ≡ e = cc in let above = may.range.above in let same_pins : d.pins ≡ e.pins = ap (λ z. z.pins) q in
              let row_is : row ≡ row' = omega arith in let place_is : place ≡ place' = omega arith in λ i. Writes (stored (q i) (row_is i) (place_is i) word),
        ),
      )

  -- publish
  pub publish_step : (slots id root : ℕ) (entry rows : List ℕ) (firsts : List (ℕ × ℕ)) (d : Desk) (held : Held) → MayPublish fact d entry root rows firsts → root < 16777216
      → Allows Rule slots id (Writes d, held) 0 (λ _. (newest d + 1) * 16777216 + root) (λ _. publishes entry rows firsts (step slots 0 ((newest d + 1) * 16777216 + root) 0 none) (Writes d, held) ((newest d + 1) * 16777216 + root))
  publish_step slots id root entry rows firsts d held may small s r deep at low =
      let w = written S fact k s r id d at in
      let me = w.1 in
      let d' : Desk = published d entry root rows firsts in
      let g : Grows d d' = grows_published fact d me.kept entry root rows firsts may in (
        Writes d',
        keeps,
        tt,
        writer_step S fact k s r id d d' (set s.words 0 ((newest d + 1) * 16777216 + root)) s.homes at record { pins = me.sized.pins; rows = me.sized.rows; few = me.sized.few } (kept_published fact d me.kept entry root rows firsts may)
            (laid_published fact d me.kept entry root rows firsts may s.words me.laid)
            (λ i v ne e. others_keep d d' s.words (set s.words 0 ((newest d + 1) * 16777216 + root)) g (λ j h. get_or-set_other s.words 0 (1 + j) ((newest d + 1) * 16777216 + root) 0 (λ q. omega arith))
            (λ t pin pin_is l in_pins. reader_keeps d d' t pin g l.lent (λ h x is. is.bound) l) me.kept.pinned i v ne (me.each i v e)),
        (refl, λ e is. let q : d ≡ e = cc in let root_is : root ≡ ((newest d + 1) * 16777216 + root) % 16777216 = omega arith in λ i. Writes (published (q i) entry (root_is i) rows firsts)),
      )

  -- the load after `give_back` joined a reader
  pub check_step : (slots id : ℕ) (d : Desk) (held : Held) → Allows Rule slots id (Writes d, held) 0 (λ n. n) (checks (step slots 0 0 0 none) (Writes d, held))
  check_step slots id d held s r deep at low =
      let w = written S fact k s r id d at in
      let me = w.1 in (
        Writes d,
        keeps,
        tt,
        subst (λ (x : List ℕ × List View). Rule record { words = x.0; homes = s.homes; views = x.1 }) (λ i. (sym (set-get_or s.words 0 0) i, sym (set_again s.views id (Writes d) at) i))
            record { desk = r.desk; its = r.its; sized = r.sized; kept = r.kept; laid = r.laid; each = r.each; apart = r.apart },
        (refl, λ e is. let q : d ≡ e = cc in subst (λ z. Begins z.told z.history) q me.kept.told),
      )
