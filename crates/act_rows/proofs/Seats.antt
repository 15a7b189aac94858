-- Seats are cut and joined, and the table is made.
use Rattle.std.proofs.Common.{◌≡◌, ◌≢◌, ℕ, zero, suc, ◌+◌, ◌*◌, ◌<◌, ◌≤◌, List, [], ◌∷◌, ◌++◌, length, take, get_or, set, replicate, sym, refl, ap, ◌∙◌, subst, ⊎_elim, arith, Option, Some, None, length-set}
use mathlib.Core.Option.{some, some-injective, some-ne-none}
use lib.ListN.{get_elem?, length-replicate, get_or-replicate}
use Rattle.std.specs.Prelude.{Contains}
use Rattle.atomic_table.specs.Table.{State, Splits, Joins, opening}
use Rattle.atomic_table.proofs.Lists.{at_set, set_again, at_longer, set_here, set_else}
use Rattle.act_rows.specs.declared.views.Snapshot.{Snapshot}
use Rattle.act_rows.specs.declared.views.Version.{Version}
use Rattle.act_rows.specs.declared.views.Desk.{Desk}
use Rattle.act_rows.specs.declared.views.Ticket.{Ticket}
use Rattle.act_rows.specs.declared.views.Stage.TheVariants.{Idle}
use Rattle.act_rows.specs.declared.views.View.{View}
use Rattle.act_rows.specs.declared.views.View.TheVariants.{Writes, Reads, Tells, Spent}
use Rattle.act_rows.specs.declared.board.Sizes.{Sizes}
use Rattle.act_rows.specs.History.{History, Begins}
use Rattle.act_rows.specs.Images.{InRange, Shows}
use Rattle.act_rows.specs.Bounds.{least, lowest}
use Rattle.act_rows.specs.Versions.{newest, IsKept}
use Rattle.act_rows.specs.First.{first_image, first_version, first_desk, starting}
use Rattle.act_rows.specs.Updates.{lent, newcomer, returned, informed}
use Rattle.act_rows.specs.Safe.{Kept, Laid, Standing, IsLent, Knows, Apart, Safe}
use Rattle.act_rows.specs.Steps.{lends_left, lends_right, notes_left, notes_right, takes_back, learns}
use Rattle.act_rows.proofs.Lists.{within, at_more, begins_self, begins_nothing}
use Rattle.act_rows.proofs.Bounds.{least_le, least_bound, least_most, lowest_free}
use Rattle.act_rows.proofs.Frames.{written, writer_step, reader_step, lent_of}
use Rattle.act_rows.proofs.Writing.{Grows, reader_keeps, same_grows}

module _ (fact : History → ℕ → Snapshot → Type 0) (d : Desk) (kept : Kept fact d) where
  -- the bounds of others stay, and the new ones are not below the least
  kept_bounds : (d' : Desk) → d'.pins ≡ d.pins → (bs : List (Option ℕ)) → length bs ≡ length d.bounds → ((j c : ℕ) → get_elem? bs j ≡ some (Some c) → (least (newest d) d.bounds ≤ c) × (c ≤ newest d))
      → (told : History) → Begins told d.history → Kept fact (record d { bounds = bs; told = told })
  kept_bounds d' p bs count all told begins =
      let before : (v : ℕ) (x : Version) → IsKept (record d { bounds = bs; told = told }) v x → IsKept d v x = λ v x is. record {
        is = is.is;
        high =
            let a : least (newest d) d.bounds ≤ least (newest d) bs = least_most (least (newest d) d.bounds) (newest d) bs (least_le (newest d) d.bounds) (λ j c e. (all j c e).0) in let b = is.high in omega arith;
      } in
      record {
        counted = kept.counted;
        few = kept.few;
        deep = kept.deep;
        pinned = count ∙ kept.pinned;
        bounded = λ j c e. (all j c e).1;
        rooted = kept.rooted;
        ranged = kept.ranged;
        facts = λ v x is. kept.facts v x (before v x is);
        shown = λ v x is. kept.shown v x (before v x is);
        apart = λ v x row place is. kept.apart v x row place (before v x is);
        drafted = kept.drafted;
        told = begins;
      }

  pub kept_lent : Kept fact (lent d)
  kept_lent =
      let j : ℕ = lowest d.bounds in
      kept_bounds d refl (lent d).bounds (length-set d.bounds j (Some (newest d)))
      (λ i c e. ⊎_elim (λ (h : (i ≡ j) × (Some (newest d) ≡ Some c)). let q = h.1 in let p : newest d ≡ c = cc in (let a = least_le (newest d) d.bounds in omega arith, omega arith))
      (λ (h : (i ≢ j) × (get_elem? d.bounds i ≡ some (Some c))). (least_bound (newest d) d.bounds i c h.1, kept.bounded i c h.1)) (at_set d.bounds j i (Some (newest d)) (Some c) e)) d.told kept.told

  pub kept_returned : (t : Ticket) → Begins t.seen d.history → Kept fact (returned d t)
  kept_returned t seen = kept_bounds d refl (returned d t).bounds (length-set d.bounds t.number None)
      (λ i c e. ⊎_elim (λ (h : (i ≡ t.number) × (None ≡ Some c)). absurd (let q = h.1 in cc)) (λ (h : (i ≢ t.number) × (get_elem? d.bounds i ≡ some (Some c))). (least_bound (newest d) d.bounds i c h.1, kept.bounded i c h.1))
      (at_set d.bounds t.number i None (Some c) e)) t.seen seen

pub first_kept : (fact : History → ℕ → Snapshot → Type 0) (k : Sizes) → 0 < k.rows → fact [] 1 (first_image k.rows) → Kept fact (first_desk k)
first_kept fact k some_rows fits = record {
  counted = omega arith;
  few = omega arith;
  deep = length-replicate (512 * k.rows) 0;
  pinned = length-replicate k.pins None;
  bounded = λ j c e. absurd (no_bound k.pins j c e);
  rooted = λ v x e. subst (λ z. Contains z.image.rows z.root) (only v x e).1 (0, omega arith, refl);
  ranged = λ v x row e has. one_row row (subst (λ z. Contains z.image.rows row) (sym (only v x e).1) has);
  facts = λ v x is. subst (λ (z : ℕ × Version). fact (take z.0 []) z.1.root z.1.image) (λ i. (sym (only v x is.is).0 i, (only v x is.is).1 i)) fits;
  shown = λ v x is. subst (λ z. Shows d.words z.image) (only v x is.is).1 (λ row place has small. refl);
  apart = λ v x row place is drafted. absurd (nothing drafted);
  drafted = λ row place drafted. absurd (nothing drafted);
  told = begins_nothing [];
}
  where
    d : Desk
    d = first_desk k

    only : (v : ℕ) (x : Version) → get_elem? (first_version k.rows ∷ []) v ≡ some x → (v ≡ 0) × (first_version k.rows ≡ x)
    only zero x e = (refl, some-injective _ _ e)
    only (suc v) x e = absurd (some-ne-none x (sym e))

    no_bound : (n j c : ℕ) → get_elem? (replicate n None) j ≡ some (Some c) → ⊥
    no_bound zero j c e = some-ne-none (Some c) (sym e)
    no_bound (suc n) zero c e = let q : None ≡ Some c = some-injective _ _ e in absurd (cc)
    no_bound (suc n) (suc j) c e = no_bound n j c e

    one_row : (row : ℕ) → Contains (1 ∷ []) row → InRange k.rows row
    one_row row (zero, h, e) = record { above = omega arith; below = omega arith }
    one_row row (suc i, h, e) = absurd (omega arith)

    nothing : {y : ℕ × ℕ} → Contains [] y → ⊥
    nothing (i, h, e) = absurd (omega arith)

module _ (S : Type 0) (fact : History → ℕ → Snapshot → Type 0) (k : Sizes) where
  abbrev Rule : State S View → Type 0
  Rule = Safe {S = S} fact k

  -- a seat is added, and no reader has its number
  seats_more : (d : Desk) (words : List ℕ) (vs : List View) (w : View) → ((i : ℕ) (v : View) → get_elem? vs i ≡ some v → Knows d words i v) → Knows d words (length vs) w
      → (i : ℕ) (v : View) → get_elem? (vs ++ w ∷ []) i ≡ some v → Knows d words i v
  seats_more d words vs w all mine i v e = ⊎_elim (λ (h : (i < length vs) × (get_elem? vs i ≡ some v)). all i v h.1)
      (λ (h : (i ≡ length vs) × (w ≡ v)). subst (λ (x : ℕ × View). Knows d words x.0 x.1) (λ c. (sym h.0 c, h.1 c)) mine) (at_more vs w v i e)

  apart_more : (vs : List View) (w : View) → Apart vs → ((i : ℕ) (t u : Ticket) → get_elem? vs i ≡ some (Reads t) → w ≡ Reads u → t.number ≢ u.number) → Apart (vs ++ w ∷ [])
  apart_more vs w apart new i j t u a b e = ⊎_elim
      (λ (h : (i < length vs) × (get_elem? vs i ≡ some (Reads t))). ⊎_elim (λ (g : (j < length vs) × (get_elem? vs j ≡ some (Reads u))). apart i j t u h.1 g.1 e)
      (λ (g : (j ≡ length vs) × (w ≡ Reads u)). absurd (new i t u h.1 g.1 e)) (at_more vs w (Reads u) j b))
      (λ (h : (i ≡ length vs) × (w ≡ Reads t)). ⊎_elim (λ (g : (j < length vs) × (get_elem? vs j ≡ some (Reads u))). absurd (new j u t g.1 h.1 (sym e)))
      (λ (g : (j ≡ length vs) × (w ≡ Reads u)). h.0 ∙ sym g.0) (at_more vs w (Reads u) j b))
      (at_more vs w (Reads t) i a)

  pub lend_splits : (id : ℕ) (d : Desk) → lowest d.bounds < length d.bounds → Splits Rule id (Writes d) (lends_left (Writes d)) (lends_right (Writes d))
  lend_splits id d room s r at =
      let w = written S fact k s r id d at in
      let me = w.1 in
      let j : ℕ = lowest d.bounds in
      let d' : Desk = lent d in
      let t' : Ticket = newcomer d in
      let was : get_elem? d.bounds j ≡ some None = lowest_free d.bounds room in
      let here : get_elem? d'.bounds j ≡ some (Some (newest d)) = set_here d.bounds j (Some (newest d)) room in
      let g : Grows d d' = same_grows d d' refl refl refl refl in
      let kept : Kept fact d' = kept_lent fact d me.kept in
      let laid : Laid d' s.words = record {
        wide = me.laid.wide;
        head = me.laid.head;
        rows = me.laid.rows;
        low = me.laid.low;
        free = λ i e. ⊎_elim (λ (h : (i ≡ j) × (Some (newest d) ≡ None)). absurd (let q = h.1 in cc)) (λ (h : (i ≢ j) × (get_elem? d.bounds i ≡ some None)). me.laid.free i h.1) (at_set d.bounds j i (Some (newest d)) None e);
      } in
      let fresh : (t : Ticket) (pin : ℕ) → IsLent d t pin → t.number ≢ j = λ t pin l e. let bad : get_elem? d.bounds j ≡ some (Some l.lent.0) = subst (λ z. get_elem? d.bounds z ≡ some (Some l.lent.0)) e l.lent.1 in absurd (cc) in
      let old : Rule record { words = s.words; homes = s.homes; views = set s.views id (Writes d') } = writer_step S fact k s r id d d' s.words s.homes at record { pins = me.sized.pins; rows = me.sized.rows; few = me.sized.few } kept laid
      (λ i v ne e. others d d' g (λ t pin l. let other : get_elem? d'.bounds t.number ≡ get_elem? d.bounds t.number = set_else d.bounds j t.number (Some (newest d)) (fresh t pin l) in
      reader_keeps d d' t pin g (l.lent.0, other ∙ l.lent.1) (λ h x is b q. is.bound b (sym other ∙ q)) l) s.words i v ne (me.each i v e)) in
      let s' : State S View = record { words = s.words; homes = s.homes; views = set s.views id (Writes d') } in
      let at' : get_elem? (set s.views id (Writes d')) id ≡ some (Writes d') = set_here s.views id (Writes d') (within s.views id (Writes d) at) in
      let now = written S fact k s' old id d' at' in
      let mine : IsLent d' t' (get_or s.words (1 + j) 0) = record {
        sizes = (refl, refl);
        lent = (newest d, here);
        seen = begins_self d.history;
        told = begins_nothing d.history;
        mine = λ i v e. absurd (some-ne-none v (sym e));
        rises = λ i n v x le e. absurd (some-ne-none v (sym e));
        standing = me.laid.free j was;
      } in
      record {
        desk = d';
        its = at_longer (set s.views id (Writes d')) (Reads t' ∷ []) 0 (Writes d') (subst (λ z. get_elem? (set s.views id (Writes d')) z ≡ some (Writes d')) now.0 at');
        sized = now.1.sized;
        kept = now.1.kept;
        laid = now.1.laid;
        each = seats_more d' s.words (set s.views id (Writes d')) (Reads t') now.1.each mine;
        apart = apart_more (set s.views id (Writes d')) (Reads t') old.apart (λ i t u e q n.
            let is : t' ≡ u = cc in
            ⊎_elim (λ (h : (i ≡ id) × (Writes d' ≡ Reads t)). absurd (let z = h.1 in cc)) (λ (h : (i ≢ id) × (get_elem? s.views i ≡ some (Reads t))). fresh t _ (me.each i (Reads t) h.1) (n ∙ ap (λ z. z.number) (sym is)))
            (at_set s.views id i (Writes d') (Reads t) e));
      }
    where
      others : (d d' : Desk) → Grows d d' → ((t : Ticket) (pin : ℕ) → IsLent d t pin → IsLent d' t pin) → (words : List ℕ) (i : ℕ) (v : View) → i ≢ 0 → Knows d words i v → Knows d' words i v
      others d d' g lent words i (Writes q) ne kn = kn
      others d d' g lent words i (Reads t) ne kn = lent t _ kn
      others d d' g lent words i (Tells h) ne kn = g.begins h kn
      others d d' g lent words i Spent ne kn = tt

  pub note_splits : (id : ℕ) (d : Desk) → Splits Rule id (Writes d) (notes_left (Writes d)) (notes_right (Writes d))
  note_splits id d s r at =
      let w = written S fact k s r id d at in
      let me = w.1 in
      subst (λ (vs : List View). Rule record { words = s.words; homes = s.homes; views = vs ++ Tells d.history ∷ [] }) (sym (set_again s.views id (Writes d) at)) record {
        desk = d;
        its = at_longer s.views (Tells d.history ∷ []) 0 (Writes d) (subst (λ z. get_elem? s.views z ≡ some (Writes d)) w.0 at);
        sized = me.sized;
        kept = me.kept;
        laid = me.laid;
        each = seats_more d s.words s.views (Tells d.history) me.each (begins_self d.history);
        apart = apart_more s.views (Tells d.history) r.apart (λ i t u e q n. absurd (cc));
      }

  -- a spent seat
  spend : (s : State S View) (id : ℕ) (w : View) → Rule s → get_elem? s.views id ≡ some w → ((d : Desk) → w ≡ Writes d → ⊥) → Rule record { words = s.words; homes = s.homes; views = set s.views id Spent }
  spend s id w r at not_writer = record {
    desk = r.desk;
    its = set_else s.views id 0 Spent (λ e. not_writer r.desk (let a : get_elem? s.views 0 ≡ some w = subst (λ z. get_elem? s.views z ≡ some w) (sym e) at in let b = r.its in cc)) ∙ r.its;
    sized = r.sized;
    kept = r.kept;
    laid = r.laid;
    each = λ i v e. ⊎_elim (λ (h : (i ≡ id) × (Spent ≡ v)). subst (Knows r.desk s.words i) h.1 tt) (λ (h : (i ≢ id) × (get_elem? s.views i ≡ some v)). r.each i v h.1) (at_set s.views id i Spent v e);
    apart = λ i j t u a b e. ⊎_elim (λ (h : (i ≡ id) × (Spent ≡ Reads t)). absurd (let q = h.1 in cc))
        (λ (h : (i ≢ id) × (get_elem? s.views i ≡ some (Reads t))). ⊎_elim (λ (g : (j ≡ id) × (Spent ≡ Reads u)). absurd (let q = g.1 in cc))
        (λ (g : (j ≢ id) × (get_elem? s.views j ≡ some (Reads u))). r.apart i j t u h.1 g.1 e) (at_set s.views id j Spent (Reads u) b)) (at_set s.views id i Spent (Reads t) a);
  }

  pub learn_joins : (id other : ℕ) (t : Ticket) (h : History) → t.stage ≡ Idle → Joins Rule id (Reads t) other (Tells h) (learns (Reads t) (Tells h)) Spent
  learn_joins id other t h idle s r at ne at_other =
      let there_before : get_elem? s.views other ≡ some (Tells h) = sym (set_else s.views id other (Reads (informed t h)) ne) ∙ at_other in
      let told : Begins h r.desk.history = r.each other (Tells h) there_before in
      let l = lent_of S fact k s r id t at in
      let known : IsLent r.desk (informed t h) (get_or s.words (1 + t.number) 0) = record {
        sizes = l.sizes;
        lent = l.lent;
        seen = l.seen;
        told = told;
        mine = l.mine;
        rises = l.rises;
        standing = subst (Standing r.desk (informed t h) (get_or s.words (1 + t.number) 0)) (sym idle) (subst (Standing r.desk t (get_or s.words (1 + t.number) 0)) idle l.standing);
      } in
      let r' = reader_step S fact k s r id t (informed t h) s.words s.homes at refl r.laid (λ j n. refl) known in
      spend record { words = s.words; homes = s.homes; views = set s.views id (Reads (informed t h)) } other (Tells h) r' at_other (λ d e. absurd (cc))

  pub give_back_joins : (id other : ℕ) (d : Desk) (t : Ticket) → t.stage ≡ Idle → Joins Rule id (Writes d) other (Reads t) (takes_back (Writes d) (Reads t)) Spent
  give_back_joins id other d t idle s r at ne at_other =
      let w = written S fact k s r id d at in
      let me = w.1 in
      let d' : Desk = returned d t in
      let before : get_elem? s.views other ≡ some (Reads t) = sym (set_else s.views id other (Writes d') ne) ∙ at_other in
      let l : IsLent d t (get_or s.words (1 + t.number) 0) = me.each other (Reads t) before in
      let down : get_or s.words (1 + t.number) 0 ≡ 0 = subst (Standing d t (get_or s.words (1 + t.number) 0)) idle l.standing in
      let g : Grows d d' = same_grows d d' refl refl refl refl in
      let kept : Kept fact d' = kept_returned fact d me.kept t l.seen in
      let laid : Laid d' s.words = record {
        wide = me.laid.wide;
        head = me.laid.head;
        rows = me.laid.rows;
        low = me.laid.low;
        free = λ i e. ⊎_elim (λ (h : (i ≡ t.number) × (None ≡ None)). ap (λ z. get_or s.words (1 + z) 0) h.0 ∙ down) (λ (h : (i ≢ t.number) × (get_elem? d.bounds i ≡ some None)). me.laid.free i h.1) (at_set d.bounds t.number i None None e);
      } in
      record {
        desk = d';
        its = set_else (set s.views id (Writes d')) other 0 Spent (λ e. ne (sym e ∙ sym w.0)) ∙ subst (λ z. get_elem? (set s.views id (Writes d')) z ≡ some (Writes d')) w.0 (set_here s.views id (Writes d') (within s.views id (Writes d) at));
        sized = record { pins = me.sized.pins; rows = me.sized.rows; few = me.sized.few };
        kept = kept;
        laid = laid;
        each = λ i v e. ⊎_elim (λ (h : (i ≡ other) × (Spent ≡ v)). subst (Knows d' s.words i) h.1 tt)
            (λ (h : (i ≢ other) × (get_elem? (set s.views id (Writes d')) i ≡ some v)). ⊎_elim (λ (q : (i ≡ id) × (Writes d' ≡ v)). subst (Knows d' s.words i) q.1 (q.0 ∙ w.0))
            (λ (q : (i ≢ id) × (get_elem? s.views i ≡ some v)). others g i v h.0 q.1 (me.each i v q.1)) (at_set s.views id i (Writes d') v h.1)) (at_set (set s.views id (Writes d')) other i Spent v e);
        apart = λ i j a b p q e. r.apart i j a b (old_reader i a p) (old_reader j b q) e;
      }
    where
      old_reader : (i : ℕ) (a : Ticket) → get_elem? (set (set s.views id (Writes (returned d t))) other Spent) i ≡ some (Reads a) → get_elem? s.views i ≡ some (Reads a)
      old_reader i a p = ⊎_elim (λ (h : (i ≡ other) × (Spent ≡ Reads a)). absurd (let q = h.1 in cc))
          (λ (h : (i ≢ other) × (get_elem? (set s.views id (Writes (returned d t))) i ≡ some (Reads a))). ⊎_elim (λ (q : (i ≡ id) × (Writes (returned d t) ≡ Reads a)). absurd (let z = q.1 in cc))
          (λ (q : (i ≢ id) × (get_elem? s.views i ≡ some (Reads a))). q.1) (at_set s.views id i (Writes (returned d t)) (Reads a) h.1)) (at_set (set s.views id (Writes (returned d t))) other i Spent (Reads a) p)

      others : Grows d (returned d t) → (i : ℕ) (v : View) → i ≢ other → get_elem? s.views i ≡ some v → Knows d s.words i v → Knows (returned d t) s.words i v
      others g i (Writes q) n e kn = kn
      others g i (Reads u) n e kn =
          let before : get_elem? s.views other ≡ some (Reads t) = sym (set_else s.views id other (Writes (returned d t)) ne) ∙ at_other in
          let apart_from : u.number ≢ t.number = λ same. n (r.apart i other u t e before same) in
          let same : get_elem? (returned d t).bounds u.number ≡ get_elem? d.bounds u.number = set_else d.bounds t.number u.number None apart_from in
          reader_keeps d (returned d t) u _ g (kn.lent.0, same ∙ kn.lent.1) (λ h x is b z. is.bound b (sym same ∙ z)) kn
      others g i (Tells h) n e kn = g.begins h kn
      others g i Spent n e kn = tt

  -- the table at the start
  pub opens : k.rows ≤ 262144 → 0 < k.rows → fact [] 1 (first_image k.rows) → Rule (opening (1 ∷ replicate (k.pins + 512 * k.rows) 0) [] (starting k))
  opens few some_rows fits = record {
    desk = d;
    its = refl;
    sized = record { pins = refl; rows = refl; few = few };
    kept = first_kept fact k some_rows fits;
    laid = record {
      wide = let a = length-replicate {A = ℕ} (k.pins + 512 * k.rows) 0 in omega arith;
      head = λ x e. let q : x.root ≡ 1 = sym (ap (λ z. z.root) (only 0 x e).1) in omega arith;
      rows = λ i h. zeros (k.pins + i) (1 + k.pins + i) (omega arith) (omega arith) ∙ sym (get_or-replicate (512 * k.rows) i 0 0 h);
      low = λ j h. let a = zeros j (1 + j) (omega arith) (omega arith) in omega arith;
      free = λ j e. let a = within (replicate k.pins None) j None e in let b = length-replicate {A = Option ℕ} k.pins None in zeros j (1 + j) (omega arith) (omega arith);
    };
    each = λ i v e. seat i v e;
    apart = λ i j t u a b e. absurd (no_reader i t a);
  }
    where
      d : Desk
      d = first_desk k

      only : (v : ℕ) (x : Version) → get_elem? (first_version k.rows ∷ []) v ≡ some x → (v ≡ 0) × (first_version k.rows ≡ x)
      only zero x e = (refl, some-injective _ _ e)
      only (suc v) x e = absurd (some-ne-none x (sym e))

      zeros : (i m : ℕ) → suc i ≡ m → i < k.pins + 512 * k.rows → ◌≡◌ {A = ℕ} (get_or (1 ∷ replicate (k.pins + 512 * k.rows) 0) m 0) 0
      zeros i m e h = subst (λ z. ◌≡◌ {A = ℕ} (get_or (1 ∷ replicate (k.pins + 512 * k.rows) 0) z 0) 0) e (get_or-replicate (k.pins + 512 * k.rows) i 0 0 h)

      seat : (i : ℕ) (v : View) → get_elem? (starting k ∷ []) i ≡ some v → Knows d (1 ∷ replicate (k.pins + 512 * k.rows) 0) i v
      seat zero v e = subst (Knows d (1 ∷ replicate (k.pins + 512 * k.rows) 0) 0) (some-injective _ _ e) refl
      seat (suc i) v e = absurd (some-ne-none v (sym e))

      no_reader : (i : ℕ) (t : Ticket) → get_elem? (starting k ∷ []) i ≡ some (Reads t) → ⊥
      no_reader zero t e = let q : Writes (first_desk k) ≡ Reads t = some-injective _ _ e in absurd (cc)
      no_reader (suc i) t e = some-ne-none (Reads t) (sym e)
