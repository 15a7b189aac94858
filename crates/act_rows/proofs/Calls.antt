-- The steps as calls owe them: for a seat of which the view is known, and a word and a value that are equal to those of the step.
use Rattle.std.proofs.Common.{◌≡◌, ℕ, ◌+◌, ◌*◌, ◌<◌, List, [], length, sym, ap, ◌∙◌, subst, Some}
use mathlib.Core.Option.{some, none}
use lib.ListN.{get_elem?}
use Rattle.std.specs.Prelude.{Contains}
use Rattle.atomic_table.specs.Table.{State, Me, step, Allows, Splits, Joins}
use Rattle.act_rows.specs.declared.views.Snapshot.{Snapshot}
use Rattle.act_rows.specs.declared.views.Version.{Version}
use Rattle.act_rows.specs.declared.views.Desk.{Desk}
use Rattle.act_rows.specs.declared.views.Ticket.{Ticket}
use Rattle.act_rows.specs.declared.views.Stage.TheVariants.{Idle, Hinted, Pinned, Holding}
use Rattle.act_rows.specs.declared.views.View.{View}
use Rattle.act_rows.specs.declared.views.View.TheVariants.{Writes, Reads, Tells, Spent}
use Rattle.act_rows.specs.declared.board.Sizes.{Sizes}
use Rattle.act_rows.specs.History.{History}
use Rattle.act_rows.specs.Images.{place_in}
use Rattle.act_rows.specs.Bounds.{lowest}
use Rattle.act_rows.specs.Versions.{newest}
use Rattle.act_rows.specs.Safe.{Safe}
use Rattle.act_rows.specs.Steps.{hints, pins, decides, reads, leaves, looks, stores, publishes, checks, heeds, lends_left, lends_right, notes_left, notes_right, takes_back, learns}
use Rattle.act_rows.specs.Asked.{MayStore, MayPublish}
use Rattle.act_rows.specs.Tokens.{desk_of, ticket_of}
use Rattle.act_rows.proofs.Reading.{hint_step, pin_step, decide_step, read_step, leave_step, heed_step}
use Rattle.act_rows.proofs.Writing.{look_step, store_step, publish_step, check_step}
use Rattle.act_rows.proofs.Seats.{lend_splits, note_splits, learn_joins, give_back_joins}

module _ {S : Type 0} where
  -- the view is known, and no slot is out
  pub reads_as : (m : Me S View) (t : Ticket) → m.0 ≡ Reads t → m.1 ≡ [] → m ≡ (Reads (ticket_of m.0), [])
  reads_as m t e q = λ i. ((e ∙ ap Reads (sym (ap ticket_of e))) i, q i)

  -- what holds of the ticket holds of the view's
  pub at_ticket : (P : Ticket → Type 0) (m : Me S View) (t : Ticket) → m.0 ≡ Reads t → P t → P (ticket_of m.0)
  at_ticket P m t e p = subst P (sym (ap ticket_of e)) p

  pub at_desk : (P : Desk → Type 0) (m : Me S View) (d : Desk) → m.0 ≡ Writes d → P d → P (desk_of m.0)
  at_desk P m d e p = subst P (sym (ap desk_of e)) p

  pub writes_as : (m : Me S View) (d : Desk) → m.0 ≡ Writes d → m.1 ≡ [] → m ≡ (Writes (desk_of m.0), [])
  writes_as m d e q = λ i. ((e ∙ ap Writes (sym (ap desk_of e))) i, q i)

module _ (S : Type 0) (fact : History → ℕ → Snapshot → Type 0) (k : Sizes) where
  abbrev Rule : State S View → Type 0
  Rule = Safe {S = S} fact k

  module _ (slots id : ℕ) (me : Me S View) where
    pub hint_call : (t : Ticket) → me.0 ≡ Reads t → t.stage ≡ Idle → Allows Rule slots id me 0 (λ n. n) (hints (step slots 0 0 0 none) me)
    hint_call t e idle = subst (λ (v : View). Allows Rule slots id (v, me.1) 0 (λ n. n) (hints (step slots 0 0 0 none) (v, me.1))) (sym e) (hint_step S fact k slots id t me.1 idle)

    pub pin_call : (t : Ticket) (v i : ℕ) → me.0 ≡ Reads t → t.stage ≡ Hinted v → i ≡ 1 + t.number → Allows Rule slots id me i (λ _. v + 1) (λ _. pins (step slots i (v + 1) 0 none) me (v + 1))
    pin_call t v i e is at = subst (λ (x : View × ℕ). Allows Rule slots id (x.0, me.1) x.1 (λ _. v + 1) (λ _. pins (step slots x.1 (v + 1) 0 none) (x.0, me.1) (v + 1))) (λ j. (sym e j, sym at j)) (pin_step S fact k slots id v t me.1 is)

    pub decide_call : (t : Ticket) (v : ℕ) → me.0 ≡ Reads t → t.stage ≡ Pinned v → Allows Rule slots id me 0 (λ n. n) (decides fact (step slots 0 0 0 none) me)
    decide_call t v e is = subst (λ (x : View). Allows Rule slots id (x, me.1) 0 (λ n. n) (decides fact (step slots 0 0 0 none) (x, me.1))) (sym e) (decide_step S fact k slots id v t me.1 is)

    pub read_call : (t : Ticket) (h : History) (x : Version) (row place i : ℕ) → me.0 ≡ Reads t → t.stage ≡ Holding h x → Contains x.image.rows row → place < 256 → i ≡ 1 + t.pins + place_in row place
        → Allows Rule slots id me i (λ n. n) (reads (step slots i 0 0 none) me)
    read_call t h x row place i e is has small at = subst (λ (y : View × ℕ). Allows Rule slots id (y.0, me.1) y.1 (λ n. n) (reads (step slots y.1 0 0 none) (y.0, me.1))) (λ j. (sym e j, sym at j)) (read_step S fact k slots id row place t me.1 h x is has small)

    pub leave_call : (t : Ticket) (h : History) (x : Version) (i : ℕ) → me.0 ≡ Reads t → t.stage ≡ Holding h x → i ≡ 1 + t.number → Allows Rule slots id me i (λ _. 0) (λ _. leaves (step slots i 0 0 none) me 0)
    leave_call t h x i e is at = subst (λ (y : View × ℕ). Allows Rule slots id (y.0, me.1) y.1 (λ _. 0) (λ _. leaves (step slots y.1 0 0 none) (y.0, me.1) 0)) (λ j. (sym e j, sym at j)) (leave_step S fact k slots id t me.1 h x is)

    pub heed_call : (t : Ticket) → me.0 ≡ Reads t → t.stage ≡ Idle → Allows Rule slots id me 0 (λ n. n) (heeds (step slots 0 0 0 none) me)
    heed_call t e idle = subst (λ (v : View). Allows Rule slots id (v, me.1) 0 (λ n. n) (heeds (step slots 0 0 0 none) (v, me.1))) (sym e) (heed_step S fact k slots id t me.1 idle)

    pub look_call : (d : Desk) (j c i : ℕ) → me.0 ≡ Writes d → get_elem? d.bounds j ≡ some (Some c) → i ≡ 1 + j → Allows Rule slots id me i (λ n. n) (looks (step slots i 0 0 none) me)
    look_call d j c i e lent at = subst (λ (y : View × ℕ). Allows Rule slots id (y.0, me.1) y.1 (λ n. n) (looks (step slots y.1 0 0 none) (y.0, me.1))) (λ x. (sym e x, sym at x)) (look_step S fact k slots id j c d me.1 lent)

    pub store_call : (d : Desk) (row place word i : ℕ) → me.0 ≡ Writes d → MayStore d row → place < 256 → i ≡ 1 + d.pins + place_in row place → Allows Rule slots id me i (λ _. word) (λ _. stores (step slots i word 0 none) me word)
    store_call d row place word i e may small at = subst (λ (y : View × ℕ). Allows Rule slots id (y.0, me.1) y.1 (λ _. word) (λ _. stores (step slots y.1 word 0 none) (y.0, me.1) word)) (λ x. (sym e x, sym at x)) (store_step S fact k slots id row place word d me.1 may small)

    pub publish_call : (d : Desk) (entry : List ℕ) (root : ℕ) (rows : List ℕ) (firsts : List (ℕ × ℕ)) (word : ℕ) → me.0 ≡ Writes d → MayPublish fact d entry root rows firsts → root < 16777216 → word ≡ (newest d + 1) * 16777216 + root
        → Allows Rule slots id me 0 (λ _. word) (λ _. publishes entry rows firsts (step slots 0 word 0 none) me word)
    publish_call d entry root rows firsts word e may small at =
        subst (λ (y : View × ℕ). Allows Rule slots id (y.0, me.1) 0 (λ _. y.1) (λ _. publishes entry rows firsts (step slots 0 y.1 0 none) (y.0, me.1) y.1)) (λ x. (sym e x, sym at x)) (publish_step S fact k slots id root entry rows firsts d me.1 may small)

    pub check_call : (d : Desk) → me.0 ≡ Writes d → Allows Rule slots id me 0 (λ n. n) (checks (step slots 0 0 0 none) me)
    check_call d e = subst (λ (v : View). Allows Rule slots id (v, me.1) 0 (λ n. n) (checks (step slots 0 0 0 none) (v, me.1))) (sym e) (check_step S fact k slots id d me.1)

  pub lend_call : (id : ℕ) (v : View) (d : Desk) → v ≡ Writes d → lowest d.bounds < length d.bounds → Splits Rule id v (lends_left v) (lends_right v)
  lend_call id v d e room = subst (λ x. Splits Rule id x (lends_left x) (lends_right x)) (sym e) (lend_splits S fact k id d room)

  pub note_call : (id : ℕ) (v : View) (d : Desk) → v ≡ Writes d → Splits Rule id v (notes_left v) (notes_right v)
  note_call id v d e = subst (λ x. Splits Rule id x (notes_left x) (notes_right x)) (sym e) (note_splits S fact k id d)

  pub learn_call : (id : ℕ) (v : View) (other : ℕ) (w : View) (t : Ticket) (h : History) → v ≡ Reads t → w ≡ Tells h → t.stage ≡ Idle → Joins Rule id v other w (learns v w) Spent
  learn_call id v other w t h e f idle = subst (λ (x : View × View). Joins Rule id x.0 other x.1 (learns x.0 x.1) Spent) (λ i. (sym e i, sym f i)) (learn_joins S fact k id other t h idle)

  pub give_back_call : (id : ℕ) (v : View) (other : ℕ) (w : View) (d : Desk) (t : Ticket) → v ≡ Writes d → w ≡ Reads t → t.stage ≡ Idle → Joins Rule id v other w (takes_back v w) Spent
  give_back_call id v other w d t e f idle = subst (λ (x : View × View). Joins Rule id x.0 other x.1 (takes_back x.0 x.1) Spent) (λ i. (sym e i, sym f i)) (give_back_joins S fact k id other d t idle)
