-- The law of the machine: each kind of step keeps the rule, whatever the table is when it comes.
use Rattle.std.specs.Prelude.{◌≡◌, ℕ, ◌+◌, ◌*◌, ◌<◌, ◌≤◌, List, [], ◌∷◌, length, replicate, Contains, Some}
use mathlib.Core.Option.{some, none}
use lib.ListN.{get_elem?}
use Rattle.atomic_table.specs.Table.{State, step, Allows, Splits, Joins, opening}
use Rattle.act_rows.specs.declared.views.Snapshot.{Snapshot}
use Rattle.act_rows.specs.declared.views.Version.{Version}
use Rattle.act_rows.specs.declared.views.Desk.{Desk}
use Rattle.act_rows.specs.declared.views.Ticket.{Ticket}
use Rattle.act_rows.specs.declared.views.Stage.TheVariants.{Idle, Hinted, Pinned, Holding}
use Rattle.act_rows.specs.declared.views.View.{View}
use Rattle.act_rows.specs.declared.views.View.TheVariants.{Writes, Reads, Tells, Spent}
use Rattle.act_rows.specs.declared.board.Sizes.{Sizes}
use Rattle.act_rows.specs.History.{History}
use Rattle.act_rows.specs.Images.{place_in}
use Rattle.act_rows.specs.Bounds.{lowest}
use Rattle.act_rows.specs.Versions.{newest}
use Rattle.act_rows.specs.First.{first_image, starting}
use Rattle.act_rows.specs.Safe.{Safe}
use Rattle.act_rows.specs.Steps.{hints, pins, decides, reads, leaves, looks, stores, publishes, checks, heeds, lends_left, lends_right, notes_left, notes_right, takes_back, learns}
use Rattle.act_rows.specs.Asked.{MayStore, MayPublish}

-- what a seat may do at a load of a word, and at a store of a value
module _ (fact : History → ℕ → Snapshot → Type 0) where
  abbrev pub Rule : Sizes → State (Unit {0}) View → Type 0
  Rule k = Safe {S = Unit {0}} fact k

  -- hint, pin, decide
  abbrev pub HintKeeps : Type 0
  HintKeeps = (k : Sizes) (slots id : ℕ) (t : Ticket) (c : List (ℕ × Unit {0})) → t.stage ≡ Idle → Allows (Rule k) slots id (Reads t, c) 0 (λ n. n) (hints (step slots 0 0 0 none) (Reads t, c))

  abbrev pub PinKeeps : Type 0
  PinKeeps = (k : Sizes) (slots id v : ℕ) (t : Ticket) (c : List (ℕ × Unit {0})) → t.stage ≡ Hinted v
      → Allows (Rule k) slots id (Reads t, c) (1 + t.number) (λ _. v + 1) (λ _. pins (step slots (1 + t.number) (v + 1) 0 none) (Reads t, c) (v + 1))

  abbrev pub DecideKeeps : Type 0
  DecideKeeps = (k : Sizes) (slots id v : ℕ) (t : Ticket) (c : List (ℕ × Unit {0})) → t.stage ≡ Pinned v → Allows (Rule k) slots id (Reads t, c) 0 (λ n. n) (decides fact (step slots 0 0 0 none) (Reads t, c))

  -- read, leave
  abbrev pub ReadKeeps : Type 0
  ReadKeeps = (k : Sizes) (slots id row place : ℕ) (t : Ticket) (c : List (ℕ × Unit {0})) (h : History) (x : Version) → t.stage ≡ Holding h x → Contains x.image.rows row → place < 256
      → Allows (Rule k) slots id (Reads t, c) (1 + t.pins + place_in row place) (λ n. n) (reads (step slots (1 + t.pins + place_in row place) 0 0 none) (Reads t, c))

  abbrev pub LeaveKeeps : Type 0
  LeaveKeeps = (k : Sizes) (slots id : ℕ) (t : Ticket) (c : List (ℕ × Unit {0})) (h : History) (x : Version) → t.stage ≡ Holding h x
      → Allows (Rule k) slots id (Reads t, c) (1 + t.number) (λ _. 0) (λ _. leaves (step slots (1 + t.number) 0 0 none) (Reads t, c) 0)

  -- look, store, publish
  abbrev pub LookKeeps : Type 0
  LookKeeps = (k : Sizes) (slots id j c : ℕ) (d : Desk) (held : List (ℕ × Unit {0})) → get_elem? d.bounds j ≡ some (Some c)
      → Allows (Rule k) slots id (Writes d, held) (1 + j) (λ n. n) (looks (step slots (1 + j) 0 0 none) (Writes d, held))

  abbrev pub StoreKeeps : Type 0
  StoreKeeps = (k : Sizes) (slots id row place word : ℕ) (d : Desk) (held : List (ℕ × Unit {0})) → MayStore d row → place < 256
      → Allows (Rule k) slots id (Writes d, held) (1 + d.pins + place_in row place) (λ _. word) (λ _. stores (step slots (1 + d.pins + place_in row place) word 0 none) (Writes d, held) word)

  abbrev pub PublishKeeps : Type 0
  PublishKeeps = (k : Sizes) (slots id root : ℕ) (entry rows : List ℕ) (firsts : List (ℕ × ℕ)) (d : Desk) (held : List (ℕ × Unit {0})) → MayPublish fact d entry root rows firsts → root < 16777216
      → Allows (Rule k) slots id (Writes d, held) 0 (λ _. (newest d + 1) * 16777216 + root) (λ _. publishes entry rows firsts (step slots 0 ((newest d + 1) * 16777216 + root) 0 none) (Writes d, held) ((newest d + 1) * 16777216 + root))

  -- lend, note, give back, learn
  abbrev pub LendKeeps : Type 0
  LendKeeps = (k : Sizes) (id : ℕ) (d : Desk) → lowest d.bounds < length d.bounds → Splits (Rule k) id (Writes d) (lends_left (Writes d)) (lends_right (Writes d))

  abbrev pub NoteKeeps : Type 0
  NoteKeeps = (k : Sizes) (id : ℕ) (d : Desk) → Splits (Rule k) id (Writes d) (notes_left (Writes d)) (notes_right (Writes d))

  abbrev pub GiveBackKeeps : Type 0
  GiveBackKeeps = (k : Sizes) (id other : ℕ) (d : Desk) (t : Ticket) → t.stage ≡ Idle → Joins (Rule k) id (Writes d) other (Reads t) (takes_back (Writes d) (Reads t)) Spent

  abbrev pub LearnKeeps : Type 0
  LearnKeeps = (k : Sizes) (id other : ℕ) (t : Ticket) (h : History) → t.stage ≡ Idle → Joins (Rule k) id (Reads t) other (Tells h) (learns (Reads t) (Tells h)) Spent

  -- the load after a join, by the writer and by a reader
  abbrev pub CheckKeeps : Type 0
  CheckKeeps = (k : Sizes) (slots id : ℕ) (d : Desk) (held : List (ℕ × Unit {0})) → Allows (Rule k) slots id (Writes d, held) 0 (λ n. n) (checks (step slots 0 0 0 none) (Writes d, held))

  abbrev pub HeedKeeps : Type 0
  HeedKeeps = (k : Sizes) (slots id : ℕ) (t : Ticket) (c : List (ℕ × Unit {0})) → t.stage ≡ Idle → Allows (Rule k) slots id (Reads t, c) 0 (λ n. n) (heeds (step slots 0 0 0 none) (Reads t, c))

  -- the table as it is made
  abbrev pub Opens : Type 0
  Opens = (k : Sizes) → k.rows ≤ 262144 → 0 < k.rows → fact [] 1 (first_image k.rows) → Rule k (opening (1 ∷ replicate (k.pins + 512 * k.rows) 0) [] (starting k))
