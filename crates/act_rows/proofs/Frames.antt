-- A step of one seat: what the rule asks of it, and how it is put together again.
use Rattle.std.proofs.Common.{◌≡◌, ◌≢◌, ℕ, ◌+◌, ◌<◌, ◌≤◌, List, [], ◌∷◌, get_or, set, sym, refl, ap, ◌∙◌, subst, ⊎_elim, arith, Some, None, length-set, get_or-set_other, get_or-set_same}
use mathlib.Core.Logic.{dite}
use mathlib.Core.Option.{some, some-injective, some-ne-none}
use mathlib.Core.Option as maybe
use native.Mathlib.Decide.{ℕ_discrete}
use lib.ListN.{get_elem?}
use lib.Seq.{set-get_or}
use Rattle.atomic_table.specs.Table.{State}
use Rattle.atomic_table.proofs.Lists.{at_set, set_again}
use Rattle.act_rows.specs.declared.views.Snapshot.{Snapshot}
use Rattle.act_rows.specs.declared.views.Version.{Version}
use Rattle.act_rows.specs.declared.views.Desk.{Desk}
use Rattle.act_rows.specs.declared.views.Ticket.{Ticket}
use Rattle.act_rows.specs.declared.views.View.{View}
use Rattle.act_rows.specs.declared.views.View.TheVariants.{Writes, Reads, Tells, Spent}
use Rattle.act_rows.specs.declared.board.Sizes.{Sizes}
use Rattle.act_rows.specs.History.{History}
use Rattle.act_rows.specs.Versions.{newest}
use Rattle.act_rows.specs.Safe.{Kept, Laid, IsLent, Knows, IsSized, Safe}
use Rattle.act_rows.proofs.Lists.{there, within}

-- the version that readers take now
pub current : (fact : History → ℕ → Snapshot → Type 0) (d : Desk) → Kept fact d → (x : Version) × (get_elem? d.versions (newest d) ≡ some x)
current fact d kept = let n = kept.counted in there d.versions (newest d) (omega arith)

pub root_low : (fact : History → ℕ → Snapshot → Type 0) (k : Sizes) (d : Desk) (v : ℕ) (x : Version) → Kept fact d → IsSized k d → get_elem? d.versions v ≡ some x → x.root < 16777216
root_low fact k d v x kept sized at = let h = kept.ranged v x x.root at (kept.rooted v x at) in let a = h.below in let b = sized.few in let c = sized.rows in omega arith

pub number_low : (fact : History → ℕ → Snapshot → Type 0) (d : Desk) (t : Ticket) (pin : ℕ) → Kept fact d → IsLent d t pin → t.number < d.pins
number_low fact d t pin kept l = let h = within d.bounds t.number (Some l.lent.0) l.lent.1 in let p = kept.pinned in omega arith

-- a pin word is set
pub laid_pin : (d : Desk) (words : List ℕ) (j c x : ℕ) → Laid d words → j < d.pins → get_elem? d.bounds j ≡ some (Some c) → x ≤ newest d + 1 → Laid d (set words (1 + j) x)
laid_pin d words j c x l low is_lent small = record {
  wide = length-set words (1 + j) x ∙ l.wide;
  head = λ v e. get_or-set_other words (1 + j) 0 x 0 (λ q. omega arith) ∙ l.head v e;
  rows = λ i h. get_or-set_other words (1 + j) (1 + d.pins + i) x 0 (λ q. omega arith) ∙ l.rows i h;
  low = λ i h. dite (ℕ_discrete i j) (λ e. let w = l.wide in let here : get_or (set words (1 + j) x) (1 + i) 0 ≡ x = ap (λ z. get_or (set words (1 + j) x) (1 + z) 0) e ∙ get_or-set_same words (1 + j) x 0 (omega arith) in omega arith)
      (λ ne. let other : get_or (set words (1 + j) x) (1 + i) 0 ≡ get_or words (1 + i) 0 = get_or-set_other words (1 + j) (1 + i) x 0 (λ q. ne (omega arith)) in let h' = l.low i h in omega arith);
  free = λ i e. dite (ℕ_discrete i j) (λ same. let bad : get_elem? d.bounds j ≡ some None = subst (λ z. get_elem? d.bounds z ≡ some None) same e in absurd (cc))
      (λ ne. get_or-set_other words (1 + j) (1 + i) x 0 (λ q. ne (omega arith)) ∙ l.free i e);
}

module _ (S : Type 0) (fact : History → ℕ → Snapshot → Type 0) (k : Sizes) where
  abbrev pub Homes : Type 0
  Homes = List (maybe.Option S)

  -- a seat takes a step, and the others know what they knew
  seats : (K : ℕ → View → Type 0) (vs : List View) (me : ℕ) (w : View) → K me w → ((i : ℕ) (v : View) → i ≢ me → get_elem? vs i ≡ some v → K i v) → (i : ℕ) (v : View) → get_elem? (set vs me w) i ≡ some v → K i v
  seats K vs me w mine others i v e = ⊎_elim (λ (t : (i ≡ me) × (w ≡ v)). subst (λ (x : ℕ × View). K x.0 x.1) (λ c. (sym t.0 c, t.1 c)) mine)
      (λ (t : (i ≢ me) × (get_elem? vs i ≡ some v)). others i v t.0 t.1) (at_set vs me i w v e)

  -- what the rule says of the writer's view
  pub record Written (s : State S View) (d : Desk) : Type 0 where
    pub sized : IsSized k d
    pub kept : Kept fact d
    pub laid : Laid d s.words
    pub each : (i : ℕ) (v : View) → get_elem? s.views i ≡ some v → Knows d s.words i v

  pub written : (s : State S View) (r : Safe fact k s) (id : ℕ) (d : Desk) → get_elem? s.views id ≡ some (Writes d) → (id ≡ 0) × Written s d
  written s r id d at =
      let zero_is : id ≡ 0 = r.each id (Writes d) at in
      let at0 : get_elem? s.views 0 ≡ some (Writes d) = subst (λ z. get_elem? s.views z ≡ some (Writes d)) zero_is at in
      let one : some (Writes r.desk) ≡ some (Writes d) = sym r.its ∙ at0 in
      let same : r.desk ≡ d = cc in
      (zero_is, subst (Written s) same record { sized = r.sized; kept = r.kept; laid = r.laid; each = r.each })

  pub writer_step : (s : State S View) (r : Safe fact k s) (id : ℕ) (d d' : Desk) (words' : List ℕ) (homes' : Homes) → get_elem? s.views id ≡ some (Writes d) → IsSized k d' → Kept fact d' → Laid d' words'
      → ((i : ℕ) (v : View) → i ≢ 0 → get_elem? s.views i ≡ some v → Knows d' words' i v) → Safe fact k record { words = words'; homes = homes'; views = set s.views id (Writes d') }
  writer_step s r id d d' words' homes' at sized kept laid others =
      let zero_is : id ≡ 0 = r.each id (Writes d) at in
      subst (λ (z : ℕ). Safe fact k record { words = words'; homes = homes'; views = set s.views z (Writes d') }) (sym zero_is) record {
        desk = d';
        its = first s.views r.its;
        sized = sized;
        kept = kept;
        laid = laid;
        each = seats (Knows d' words') s.views 0 (Writes d') refl others;
        apart = λ i j t u a b e. ⊎_elim (λ (h : (i ≡ 0) × (Writes d' ≡ Reads t)). absurd (let q = h.1 in cc))
            (λ (h : (i ≢ 0) × (get_elem? s.views i ≡ some (Reads t))). ⊎_elim (λ (g : (j ≡ 0) × (Writes d' ≡ Reads u)). absurd (let q = g.1 in cc))
            (λ (g : (j ≢ 0) × (get_elem? s.views j ≡ some (Reads u))). r.apart i j t u h.1 g.1 e) (at_set s.views 0 j (Writes d') (Reads u) b)) (at_set s.views 0 i (Writes d') (Reads t) a);
      }
    where
      first : (vs : List View) → get_elem? vs 0 ≡ some (Writes r.desk) → get_elem? (set vs 0 (Writes d')) 0 ≡ some (Writes d')
      first [] e = absurd (some-ne-none _ (sym e))
      first (v ∷ vs) e = refl

  -- what the rule says of a reader's view
  pub lent_of : (s : State S View) (r : Safe fact k s) (id : ℕ) (t : Ticket) → get_elem? s.views id ≡ some (Reads t) → IsLent r.desk t (get_or s.words (1 + t.number) 0)
  lent_of s r id t at = r.each id (Reads t) at

  reader_not_writer : (s : State S View) (r : Safe fact k s) (id : ℕ) (t : Ticket) → get_elem? s.views id ≡ some (Reads t) → 0 ≢ id
  reader_not_writer s r id t at e = let at0 : get_elem? s.views 0 ≡ some (Reads t) = subst (λ z. get_elem? s.views z ≡ some (Reads t)) (sym e) at in let q = r.its in absurd (cc)

  pub reader_step : (s : State S View) (r : Safe fact k s) (id : ℕ) (t t' : Ticket) (words' : List ℕ) (homes' : Homes) → get_elem? s.views id ≡ some (Reads t) → t'.number ≡ t.number → Laid r.desk words'
      → ((j : ℕ) → j ≢ t.number → get_or words' (1 + j) 0 ≡ get_or s.words (1 + j) 0) → IsLent r.desk t' (get_or words' (1 + t'.number) 0)
      → Safe fact k record { words = words'; homes = homes'; views = set s.views id (Reads t') }
  reader_step s r id t t' words' homes' at same laid pins mine = record {
    desk = r.desk;
    its = Rattle.atomic_table.proofs.Lists.set_else s.views id 0 (Reads t') (reader_not_writer s r id t at) ∙ r.its;
    sized = r.sized;
    kept = r.kept;
    laid = laid;
    each = seats (Knows r.desk words') s.views id (Reads t') mine (λ i v ne e. other i v ne e (r.each i v e));
    apart = λ i j a b p q e. ⊎_elim
        (λ (h : (i ≡ id) × (Reads t' ≡ Reads a)). ⊎_elim (λ (g : (j ≡ id) × (Reads t' ≡ Reads b)). h.0 ∙ sym g.0)
        (λ (g : (j ≢ id) × (get_elem? s.views j ≡ some (Reads b))). let x = h.1 in let is : t' ≡ a = cc in h.0 ∙ r.apart id j t b at g.1 (sym same ∙ (ap (λ z. z.number) is ∙ e))) (at_set s.views id j (Reads t') (Reads b) q))
        (λ (h : (i ≢ id) × (get_elem? s.views i ≡ some (Reads a))). ⊎_elim (λ (g : (j ≡ id) × (Reads t' ≡ Reads b)). let x = g.1 in let is : t' ≡ b = cc in r.apart i id a t h.1 at (e ∙ (ap (λ z. z.number) (sym is) ∙ same)) ∙ sym g.0)
        (λ (g : (j ≢ id) × (get_elem? s.views j ≡ some (Reads b))). r.apart i j a b h.1 g.1 e) (at_set s.views id j (Reads t') (Reads b) q))
        (at_set s.views id i (Reads t') (Reads a) p);
  }
    where
      other : (i : ℕ) (v : View) → i ≢ id → get_elem? s.views i ≡ some v → Knows r.desk s.words i v → Knows r.desk words' i v
      other i (Writes q) ne e kn = kn
      other i (Reads u) ne e kn = subst (IsLent r.desk u) (sym (pins u.number (λ is. ne (r.apart i id u t e at is)))) kn
      other i (Tells h) ne e kn = kn
      other i Spent ne e kn = tt

  -- a load that leaves the words as they are
  pub reader_loads : (s : State S View) (r : Safe fact k s) (id i : ℕ) (t t' : Ticket) (homes' : Homes) → get_elem? s.views id ≡ some (Reads t) → t'.number ≡ t.number → IsLent r.desk t' (get_or s.words (1 + t'.number) 0)
      → Safe fact k record { words = set s.words i (get_or s.words i 0); homes = homes'; views = set s.views id (Reads t') }
  reader_loads s r id i t t' homes' at same mine =
      subst (λ (ws : List ℕ). Safe fact k record { words = ws; homes = homes'; views = set s.views id (Reads t') }) (sym (set-get_or s.words i 0)) (reader_step s r id t t' s.words homes' at same r.laid (λ j ne. refl) mine)

  -- a store into the reader's own pin
  pub reader_pins : (s : State S View) (r : Safe fact k s) (id x : ℕ) (t t' : Ticket) (homes' : Homes) → get_elem? s.views id ≡ some (Reads t) → t'.number ≡ t.number → x ≤ newest r.desk + 1 → IsLent r.desk t' x
      → Safe fact k record { words = set s.words (1 + t.number) x; homes = homes'; views = set s.views id (Reads t') }
  reader_pins s r id x t t' homes' at same small mine =
      let l = lent_of s r id t at in
      let low : t.number < r.desk.pins = number_low fact r.desk t _ r.kept l in
      let w = r.laid.wide in
      let here : get_or (set s.words (1 + t.number) x) (1 + t'.number) 0 ≡ x = ap (λ z. get_or (set s.words (1 + t.number) x) (1 + z) 0) same ∙ get_or-set_same s.words (1 + t.number) x 0 (omega arith) in
      reader_step s r id t t' (set s.words (1 + t.number) x) homes' at same (laid_pin r.desk s.words t.number l.lent.0 x r.laid low l.lent.1 small)
      (λ j ne. get_or-set_other s.words (1 + t.number) (1 + j) x 0 (λ q. ne (omega arith))) (subst (IsLent r.desk t') (sym here) mine)
