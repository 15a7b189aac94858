-- What each step on the table tells the seat that takes it, and how seats are cut and joined.
use Rattle.std.specs.Prelude.{◌≡◌, ℕ, ◌+◌, ◌-◌, ◌*◌, ◌/◌, ◌%◌, ◌<◌, ◌≤◌, List, [], length, Contains}
use Rattle.atomic_table.specs.Table.{Me, Step}
use Rattle.act_rows.specs.declared.views.Snapshot.{Snapshot}
use Rattle.act_rows.specs.declared.views.Version.{Version}
use Rattle.act_rows.specs.declared.views.Desk.{Desk}
use Rattle.act_rows.specs.declared.views.Ticket.{Ticket}
use Rattle.act_rows.specs.declared.views.Stage.TheVariants.{Holding}
use Rattle.act_rows.specs.declared.views.View.{View}
use Rattle.act_rows.specs.declared.views.View.TheVariants.{Writes, Reads, Tells, Spent}
use Rattle.act_rows.specs.History.{History, Begins, longer}
use Rattle.act_rows.specs.Images.{InRange, place_in, word_of}
use Rattle.act_rows.specs.Versions.{newest}
use Rattle.act_rows.specs.Updates.{hinted, pinned, holding, left, looked, stored, published, lent, newcomer, returned, informed}

-- what a reader learns when it decides
pub record Decides (fact : History → ℕ → Snapshot → Type 0) (t : Ticket) (found : ℕ) (h : History) (x : Version) : Type 0 where
  pub found_is : found ≡ length h * 16777216 + x.root
  pub root_low : x.root < 16777216
  pub later : Begins t.seen h
  pub fits : fact h x.root x.image
  pub rooted : Contains x.image.rows x.root
  pub ranged : (row : ℕ) → Contains x.image.rows row → InRange t.rows row

abbrev Sat : Type 0 → Type 0
Sat S = Me S View

module _ {S : Type 0} where
  -- hint: the reader loads the version word
  abbrev pub hints : Step S → Sat S → ℕ → Sat S → Type 0
  hints st m n m' = (m'.1 ≡ m.1) × ((t : Ticket) → m.0 ≡ Reads t → m'.0 ≡ Reads (hinted t (n / 16777216)))

  -- pin: the reader stores one more than the hint into its pin word
  abbrev pub pins : Step S → Sat S → ℕ → Sat S → Type 0
  pins st m n m' = (m'.1 ≡ m.1) × ((t : Ticket) → m.0 ≡ Reads t → m'.0 ≡ Reads (pinned t (st.first - 1)))

  -- decide: the reader loads the version word again, and holds that version
  abbrev pub decides : (History → ℕ → Snapshot → Type 0) → Step S → Sat S → ℕ → Sat S → Type 0
  decides fact st m n m' = (m'.1 ≡ m.1) × ((t : Ticket) → m.0 ≡ Reads t → (h : History) × (x : Version) × (m'.0 ≡ Reads (holding t h x)) × Decides fact t n h x)

  -- read: the reader loads a word of a row
  abbrev pub reads : Step S → Sat S → ℕ → Sat S → Type 0
  reads st m n m' = (m' ≡ m) × ((t : Ticket) (h : History) (x : Version) (row place : ℕ) → m.0 ≡ Reads t → t.stage ≡ Holding h x
      → Contains x.image.rows row → place < 256 → st.word ≡ 1 + t.pins + place_in row place → n ≡ word_of x.image row place)

  -- leave: the reader stores 0 into its pin word
  abbrev pub leaves : Step S → Sat S → ℕ → Sat S → Type 0
  leaves st m n m' = (m'.1 ≡ m.1) × ((t : Ticket) (h : History) (x : Version) → m.0 ≡ Reads t → t.stage ≡ Holding h x → m'.0 ≡ Reads (left t h))

  -- look: the writer loads a pin word
  abbrev pub looks : Step S → Sat S → ℕ → Sat S → Type 0
  looks st m n m' = (m'.1 ≡ m.1) × ((d : Desk) → m.0 ≡ Writes d → (m'.0 ≡ Writes (looked d (st.word - 1) n)) × (n ≤ newest d + 1))

  -- store: the writer stores a word of a row
  abbrev pub stores : Step S → Sat S → ℕ → Sat S → Type 0
  stores st m n m' = (m'.1 ≡ m.1) × ((d : Desk) (row place : ℕ) → m.0 ≡ Writes d → 0 < row → place < 256 → st.word ≡ 1 + d.pins + place_in row place → m'.0 ≡ Writes (stored d row place st.first))

  -- publish: the writer stores the version word
  abbrev pub publishes : List ℕ → List ℕ → List (ℕ × ℕ) → Step S → Sat S → ℕ → Sat S → Type 0
  publishes entry rows firsts st m n m' = (m'.1 ≡ m.1) × ((d : Desk) → m.0 ≡ Writes d → m'.0 ≡ Writes (published d entry (st.first % 16777216) rows firsts))

  -- a load of word 0 after a join
  abbrev pub checks : Step S → Sat S → ℕ → Sat S → Type 0
  checks st m n m' = (m' ≡ m) × ((d : Desk) → m.0 ≡ Writes d → Begins d.told d.history)

  abbrev pub heeds : Step S → Sat S → ℕ → Sat S → Type 0
  heeds st m n m' = (m'.1 ≡ m.1) × ((t : Ticket) → m.0 ≡ Reads t → (m'.0 ≡ Reads (record t { seen = longer t.seen t.told; told = [] }))
      × Begins t.seen (longer t.seen t.told) × Begins t.told (longer t.seen t.told))

-- a cut of the writer's view, and joins
abbrev pub lends_left : View → View
lends_left (Writes d) = Writes (lent d)
lends_left v = v

abbrev pub lends_right : View → View
lends_right (Writes d) = Reads (newcomer d)
lends_right v = Spent

abbrev pub notes_left : View → View
notes_left v = v

abbrev pub notes_right : View → View
notes_right (Writes d) = Tells d.history
notes_right v = Spent

abbrev pub takes_back : View → View → View
takes_back (Writes d) (Reads t) = Writes (returned d t)
takes_back v w = v

abbrev pub learns : View → View → View
learns (Reads t) (Tells h) = Reads (informed t h)
learns v w = v
