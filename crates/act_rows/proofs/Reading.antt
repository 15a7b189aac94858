-- The steps of a reader keep the rule.
use Rattle.std.proofs.Common.{◌≡◌, ℕ, ◌+◌, ◌-◌, ◌*◌, ◌/◌, ◌<◌, ◌≤◌, Bool, true, false, List, [], ◌∷◌, ◌++◌, length, get_or, sym, refl, ap, ◌∙◌, subst, ⊎_elim, arith}
use Rattle.std.proofs.lemmas.List.{take_all}
use mathlib.Core.Bool.{cond}
use mathlib.Core.Option.{some, none}
use lib.ListN.{get_elem?}
use lib.Dec.{ltb}
use borrow.Author.Tests.{ltb-true, ltb-false}
use Rattle.std.specs.Prelude.{Contains}
use Rattle.atomic_table.specs.Table.{step, keeps, Allows}
use Rattle.act_rows.specs.declared.views.Snapshot.{Snapshot}
use Rattle.act_rows.specs.declared.views.Version.{Version}
use Rattle.act_rows.specs.declared.views.Desk.{Desk}
use Rattle.act_rows.specs.declared.views.Ticket.{Ticket}
use Rattle.act_rows.specs.declared.views.Stage.{Stage}
use Rattle.act_rows.specs.declared.views.Stage.TheVariants.{Idle, Hinted, Pinned, Holding}
use Rattle.act_rows.specs.declared.views.View.TheVariants.{Reads}
use Rattle.act_rows.specs.declared.board.Sizes.{Sizes}
use Rattle.act_rows.specs.History.{History, Begins, longer}
use Rattle.act_rows.specs.Images.{place_in, word_of, InRange}
use Rattle.act_rows.specs.Bounds.{least}
use Rattle.act_rows.specs.Versions.{newest, IsKept}
use Rattle.act_rows.specs.Updates.{hinted, pinned, holding, left}
use Rattle.act_rows.specs.Safe.{IsHeld, Standing, IsLent, Safe}
use Rattle.act_rows.specs.Steps.{hints, pins, decides, reads, leaves, heeds}
use Rattle.act_rows.proofs.Lists.{at_more, begins_self, begins_nothing, begins_same}
use Rattle.act_rows.proofs.Bounds.{least_bound}
use Rattle.act_rows.proofs.Frames.{current, root_low, lent_of, reader_loads, reader_pins}

-- a reader in another stage
staged : (d : Desk) (t : Ticket) (pin pin' : ℕ) (z : Stage) → IsLent d t pin → Standing d (record t { stage = z }) pin' z → IsLent d (record t { stage = z }) pin'
staged d t pin pin' z l new = record { sizes = l.sizes; lent = l.lent; seen = l.seen; told = l.told; mine = l.mine; rises = l.rises; standing = new }

stands : (d : Desk) (t : Ticket) (pin : ℕ) (z : Stage) → IsLent d t pin → t.stage ≡ z → Standing d t pin z
stands d t pin z l is = subst (Standing d t pin) is l.standing

-- a list that ends with the greatest number still rises
mine_more : (xs : List ℕ) (n i v : ℕ) → ((j w : ℕ) → get_elem? xs j ≡ some w → w ≤ n) → get_elem? (xs ++ n ∷ []) i ≡ some v → v ≤ n
mine_more xs n i v all e = ⊎_elim (λ (h : (i < length xs) × (get_elem? xs i ≡ some v)). all i v h.1) (λ (h : (i ≡ length xs) × (n ≡ v)). let q = h.1 in omega arith) (at_more xs n v i e)

rises_more : (xs : List ℕ) (n : ℕ) → ((j w : ℕ) → get_elem? xs j ≡ some w → w ≤ n) → ((i j v w : ℕ) → i ≤ j → get_elem? xs i ≡ some v → get_elem? xs j ≡ some w → v ≤ w)
    → (i j v w : ℕ) → i ≤ j → get_elem? (xs ++ n ∷ []) i ≡ some v → get_elem? (xs ++ n ∷ []) j ≡ some w → v ≤ w
rises_more xs n all up i j v w le a b = ⊎_elim
    (λ (h : (j < length xs) × (get_elem? xs j ≡ some w)). ⊎_elim (λ (g : (i < length xs) × (get_elem? xs i ≡ some v)). up i j v w le g.1 h.1) (λ (g : (i ≡ length xs) × (n ≡ v)). let p = h.0 in let q = g.0 in absurd (omega arith)) (at_more xs n v i a))
    (λ (h : (j ≡ length xs) × (n ≡ w)). let q = h.1 in let r = mine_more xs n i v all a in omega arith) (at_more xs n w j b)

longer_first : (xs ys zs : History) → Begins xs zs → Begins ys zs → (b : Bool) → ltb (length xs) (length ys) ≡ b → Begins (cond b ys xs) zs × Begins xs (cond b ys xs) × Begins ys (cond b ys xs)
longer_first xs ys zs a b true e = let h : length xs < length ys = ltb-true _ _ e in (b, begins_same xs ys zs a b (omega arith), begins_self ys)
longer_first xs ys zs a b false e = let h : length ys ≤ length xs = ltb-false _ _ e in (a, begins_self xs, begins_same ys xs zs b a h)

module _ (S : Type 0) (fact : History → ℕ → Snapshot → Type 0) (k : Sizes) where
  abbrev Held : Type 0
  Held = List (ℕ × S)

  -- hint
  pub hint_step : (slots id : ℕ) (t : Ticket) (c : Held) → t.stage ≡ Idle → Allows (Safe {S = S} fact k) slots id (Reads t, c) 0 (λ n. n) (hints (step slots 0 0 0 none) (Reads t, c))
  hint_step slots id t c idle s r deep at low =
      let l = lent_of S fact k s r id t at in
      let x = current fact r.desk r.kept in
      let head : get_or s.words 0 0 ≡ newest r.desk * 16777216 + x.0.root = r.laid.head x.0 x.1 in
      let small : x.0.root < 16777216 = root_low fact k r.desk (newest r.desk) x.0 r.kept r.sized x.1 in
      let now : get_or s.words 0 0 / 16777216 ≤ newest r.desk = omega arith in (
        Reads (hinted t (get_or s.words 0 0 / 16777216)),
        keeps,
        tt,
        reader_loads S fact k s r id 0 t (hinted t (get_or s.words 0 0 / 16777216)) s.homes at refl (staged r.desk t _ _ (Hinted (get_or s.words 0 0 / 16777216)) l (stands r.desk t _ Idle l idle, now)),
        (refl, λ u e. let q : t ≡ u = cc in ap (λ z. Reads (hinted z (get_or s.words 0 0 / 16777216))) q),
      )

  -- pin
  pub pin_step : (slots id v : ℕ) (t : Ticket) (c : Held) → t.stage ≡ Hinted v
      → Allows (Safe {S = S} fact k) slots id (Reads t, c) (1 + t.number) (λ _. v + 1) (λ _. pins (step slots (1 + t.number) (v + 1) 0 none) (Reads t, c) (v + 1))
  pin_step slots id v t c is s r deep at low =
      let l = lent_of S fact k s r id t at in
      let was = stands r.desk t _ (Hinted v) l is in
      let small : v ≤ newest r.desk = was.1 in (
        Reads (pinned t v),
        keeps,
        tt,
        reader_pins S fact k s r id (v + 1) t (pinned t v) s.homes at refl (omega arith) (staged r.desk t _ _ (Pinned v) l (refl, small)),
        (refl, λ u e. let q : t ≡ u = cc in let same : v ≡ v + 1 - 1 = omega arith in λ i. Reads (pinned (q i) (same i))),
      )

  -- decide
  pub decide_step : (slots id v : ℕ) (t : Ticket) (c : Held) → t.stage ≡ Pinned v → Allows (Safe {S = S} fact k) slots id (Reads t, c) 0 (λ n. n) (decides fact (step slots 0 0 0 none) (Reads t, c))
  decide_step slots id v t c is s r deep at low =
      let d = r.desk in
      let l = lent_of S fact k s r id t at in
      let was = stands d t _ (Pinned v) l is in
      let pin_is : get_or s.words (1 + t.number) 0 ≡ v + 1 = was.0 in
      let small : v ≤ newest d = was.1 in
      let x = current fact d r.kept in
      let t' = holding t d.history x.0 in
      let is_kept : IsKept d (newest d) x.0 = record { is = x.1; high = Rattle.act_rows.proofs.Bounds.least_le (newest d) d.bounds } in
      let known : IsLent d t' (get_or s.words (1 + t.number) 0) = record {
        sizes = l.sizes;
        lent = l.lent;
        seen = l.seen;
        told = l.told;
        mine = λ i w e. mine_more t.mine (newest d) i w l.mine e;
        rises = rises_more t.mine (newest d) l.mine l.rises;
        standing = record {
          version = x.1;
          begins = begins_self d.history;
          bound = λ b e. r.kept.bounded t.number b e;
          later = l.seen;
          last = (t.mine, refl);
          on = omega arith;
          low = omega arith;
        };
      } in (
        Reads t',
        keeps,
        tt,
        reader_loads S fact k s r id 0 t t' s.homes at refl known,
        (
          refl,
          λ u e. let q : t ≡ u = cc in (
            d.history,
            x.0,
            ap (λ z. Reads (holding z d.history x.0)) q,
            record {
              found_is = r.laid.head x.0 x.1;
              root_low = root_low fact k d (newest d) x.0 r.kept r.sized x.1;
              later = subst (λ z. Begins z.seen d.history) q l.seen;
              fits = subst (λ h. fact h x.0.root x.0.image) (take_all (newest d) d.history (omega arith)) (r.kept.facts (newest d) x.0 is_kept);
              rooted = r.kept.rooted (newest d) x.0 x.1;
              ranged = λ row h. subst (λ z. InRange z row) (sym l.sizes.1 ∙ ap (λ z. z.rows) q) (r.kept.ranged (newest d) x.0 row x.1 h);
            },
          ),
        ),
      )

  -- read
  pub read_step : (slots id row place : ℕ) (t : Ticket) (c : Held) (h : History) (x : Version) → t.stage ≡ Holding h x → Contains x.image.rows row → place < 256
      → Allows (Safe {S = S} fact k) slots id (Reads t, c) (1 + t.pins + place_in row place) (λ n. n) (reads (step slots (1 + t.pins + place_in row place) 0 0 none) (Reads t, c))
  read_step slots id row place t c h x is has small s r deep at low =
      let d = r.desk in
      let l = lent_of S fact k s r id t at in
      let held : IsHeld d t (get_or s.words (1 + t.number) 0) h x = stands d t _ (Holding h x) l is in
      let high : least (newest d) d.bounds ≤ length h = let a = least_bound (newest d) d.bounds t.number l.lent.0 l.lent.1 in let b = held.bound l.lent.0 l.lent.1 in omega arith in (
        Reads t,
        keeps,
        tt,
        reader_loads S fact k s r id (1 + t.pins + place_in row place) t t s.homes at refl l,
        (
          refl,
          λ u g y row' place' e held' has' small' word_is.
              let q : t ≡ u = cc in
              let stage_is : Holding h x ≡ Holding g y = sym is ∙ (ap (λ z. z.stage) q ∙ held') in
              let same : x ≡ y = cc in
              let has'' : Contains x.image.rows row' = subst (λ z. Contains z.image.rows row') (sym same) has' in
              let range = r.kept.ranged (length h) x row' held.version has'' in
              let above = range.above in
              let below = range.below in
              let pins_is : t.pins ≡ d.pins = l.sizes.0 in
              let inside : place_in row' place' < 512 * d.rows = omega arith in
              let where_is : 1 + t.pins + place_in row place ≡ 1 + d.pins + place_in row' place' = word_is ∙ (ap (λ z. 1 + z.pins + place_in row' place') (sym q) ∙ ap (λ z. 1 + z + place_in row' place') pins_is) in
              ap (λ z. get_or s.words z 0) where_is ∙ (r.laid.rows (place_in row' place') inside ∙ (r.kept.shown (length h) x record { is = held.version; high = high } row' place' has'' small' ∙ ap (λ z. word_of z.image row' place') same)),
        ),
      )

  -- leave
  pub leave_step : (slots id : ℕ) (t : Ticket) (c : Held) (h : History) (x : Version) → t.stage ≡ Holding h x
      → Allows (Safe {S = S} fact k) slots id (Reads t, c) (1 + t.number) (λ _. 0) (λ _. leaves (step slots (1 + t.number) 0 0 none) (Reads t, c) 0)
  leave_step slots id t c h x is s r deep at low =
      let d = r.desk in
      let l = lent_of S fact k s r id t at in
      let held : IsHeld d t (get_or s.words (1 + t.number) 0) h x = stands d t _ (Holding h x) l is in
      let known : IsLent d (left t h) 0 = record { sizes = l.sizes; lent = l.lent; seen = held.begins; told = l.told; mine = l.mine; rises = l.rises; standing = refl } in (
        Reads (left t h),
        keeps,
        tt,
        reader_pins S fact k s r id 0 t (left t h) s.homes at refl (omega arith) known,
        (refl, λ u g y e held'. let q : t ≡ u = cc in let stage_is : Holding h x ≡ Holding g y = sym is ∙ (ap (λ z. z.stage) q ∙ held') in let same : h ≡ g = cc in λ i. Reads (left (q i) (same i))),
      )

  -- the load after `learn` joined a note
  pub heed_step : (slots id : ℕ) (t : Ticket) (c : Held) → t.stage ≡ Idle → Allows (Safe {S = S} fact k) slots id (Reads t, c) 0 (λ n. n) (heeds (step slots 0 0 0 none) (Reads t, c))
  heed_step slots id t c idle s r deep at low =
      let d = r.desk in
      let l = lent_of S fact k s r id t at in
      let t' : Ticket = record t { seen = longer t.seen t.told; told = [] } in
      let all = longer_first t.seen t.told d.history l.seen l.told (ltb (length t.seen) (length t.told)) refl in
      let known : IsLent d t' (get_or s.words (1 + t.number) 0) = record {
        sizes = l.sizes;
        lent = l.lent;
        seen = all.0;
        told = begins_nothing d.history;
        mine = l.mine;
        rises = l.rises;
        standing = subst (Standing d t' (get_or s.words (1 + t.number) 0)) (sym idle) (stands d t _ Idle l idle);
      } in (
        Reads t',
        keeps,
        tt,
        reader_loads S fact k s r id 0 t t' s.homes at refl known,
        (refl, λ u e. let q : t ≡ u = cc in (ap (λ (z : Ticket). Reads (record z { seen = longer z.seen z.told; told = [] })) q, subst (λ z. Begins z.seen (longer z.seen z.told)) q all.1, subst (λ z. Begins z.told (longer z.seen z.told)) q all.2)),
      )
