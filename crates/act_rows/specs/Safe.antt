-- The rule of the table: what the words are, what each seat knows, and what of it stays true whichever seat steps next.
use Rattle.std.specs.Prelude.{◌≡◌, ℕ, ◌+◌, ◌*◌, ◌^◌, ◌<◌, ◌≤◌, List, [], ◌∷◌, ◌++◌, length, take, slice_index, Contains, Some, None}
use mathlib.Core.Option.{some}
use lib.ListN.{get_elem?}
use Rattle.atomic_table.specs.Table.{State}
use Rattle.act_rows.specs.declared.views.Snapshot.{Snapshot}
use Rattle.act_rows.specs.declared.views.Version.{Version}
use Rattle.act_rows.specs.declared.views.Desk.{Desk}
use Rattle.act_rows.specs.declared.views.Ticket.{Ticket}
use Rattle.act_rows.specs.declared.views.Stage.{Stage}
use Rattle.act_rows.specs.declared.views.Stage.TheVariants.{Idle, Hinted, Pinned, Holding}
use Rattle.act_rows.specs.declared.views.View.{View}
use Rattle.act_rows.specs.declared.views.View.TheVariants.{Writes, Reads, Tells, Spent}
use Rattle.act_rows.specs.declared.board.Sizes.{Sizes}
use Rattle.act_rows.specs.History.{History, Begins}
use Rattle.act_rows.specs.Images.{InRange, Shows}
use Rattle.act_rows.specs.Versions.{newest, IsKept}

-- what holds of the writer's own view: versions, bounds, draft
pub record Kept (fact : History → ℕ → Snapshot → Type 0) (d : Desk) : Type 0 where
  -- each entry makes a version, and version 0 has none
  pub counted : length d.versions ≡ newest d + 1
  -- the version word has room
  pub few : newest d < 2 ^ 40
  -- 256 words a row, and twice as many rows as an image may have
  pub deep : length d.words ≡ 512 * d.rows
  -- a bound or none for each reader
  pub pinned : length d.bounds ≡ d.pins
  -- no bound is above the current version
  pub bounded : (j c : ℕ) → get_elem? d.bounds j ≡ some (Some c) → c ≤ newest d
  -- a version's root is one of its rows
  pub rooted : (v : ℕ) (x : Version) → get_elem? d.versions v ≡ some x → Contains x.image.rows x.root
  -- a version's rows are rows of the table
  pub ranged : (v : ℕ) (x : Version) (row : ℕ) → get_elem? d.versions v ≡ some x → Contains x.image.rows row → InRange d.rows row
  -- the fact holds of each version that may be held
  pub facts : (v : ℕ) (x : Version) → IsKept d v x → fact (take v d.history) x.root x.image
  -- the words of its rows are its own
  pub shown : (v : ℕ) (x : Version) → IsKept d v x → Shows d.words x.image
  -- no row of it is in the draft
  pub apart : (v : ℕ) (x : Version) (row place : ℕ) → IsKept d v x → Contains d.draft (row, place) → ¬ Contains x.image.rows row
  -- the draft has rows of the table
  pub drafted : (row place : ℕ) → Contains d.draft (row, place) → InRange d.rows row
  -- what was told last is a beginning of the history
  pub told : Begins d.told d.history

-- the words, as the writer knows them
pub record Laid (d : Desk) (words : List ℕ) : Type 0 where
  pub wide : length words ≡ 1 + d.pins + 512 * d.rows
  -- word 0 is the current version and its root
  pub head : (x : Version) → get_elem? d.versions (newest d) ≡ some x → slice_index words 0 ≡ newest d * 16777216 + x.root
  -- the words of rows are those that the writer knows
  pub rows : (i : ℕ) → i < 512 * d.rows → slice_index words (1 + d.pins + i) ≡ slice_index d.words i
  -- no pin word is above the current version by more than one
  pub low : (j : ℕ) → j < d.pins → slice_index words (1 + j) ≤ newest d + 1
  -- the pin word of a reader that is not lent is 0
  pub free : (j : ℕ) → get_elem? d.bounds j ≡ some None → slice_index words (1 + j) ≡ 0

-- what is so while a reader holds the version x, whose history is h
pub record IsHeld (d : Desk) (t : Ticket) (pin : ℕ) (h : History) (x : Version) : Type 0 where
  -- x is the version of h, a beginning of the one history
  pub version : get_elem? d.versions (length h) ≡ some x
  pub begins : Begins h d.history
  -- the reader is bound at this version or below
  pub bound : (c : ℕ) → get_elem? d.bounds t.number ≡ some (Some c) → c ≤ length h
  -- the reader had seen no more
  pub later : Begins t.seen h
  -- it is the last version that the reader decided
  pub last : (before : List ℕ) × (t.mine ≡ before ++ length h ∷ [])
  -- the pin word is up, and stands for this version or an earlier one
  pub on : 0 < pin
  pub low : pin ≤ length h + 1

module _ (d : Desk) (t : Ticket) (pin : ℕ) where
  -- what a stage says of the pin word
  abbrev pub Standing : Stage → Type 0
  Standing Idle = pin ≡ 0
  Standing (Hinted v) = (pin ≡ 0) × (v ≤ newest d)
  Standing (Pinned v) = (pin ≡ v + 1) × (v ≤ newest d)
  Standing (Holding h x) = IsHeld d t pin h x

-- what holds of a reader whose pin word is pin
pub record IsLent (d : Desk) (t : Ticket) (pin : ℕ) : Type 0 where
  -- the reader knows the sizes of the table
  pub sizes : (t.pins ≡ d.pins) × (t.rows ≡ d.rows)
  -- it has a bound
  pub lent : (c : ℕ) × (get_elem? d.bounds t.number ≡ some (Some c))
  -- what it has seen and what it was told are beginnings of the history
  pub seen : Begins t.seen d.history
  pub told : Begins t.told d.history
  -- the versions that it decided exist, and never fall
  pub mine : (i v : ℕ) → get_elem? t.mine i ≡ some v → v ≤ newest d
  pub rises : (i j v w : ℕ) → i ≤ j → get_elem? t.mine i ≡ some v → get_elem? t.mine j ≡ some w → v ≤ w
  -- its stage fits its pin word
  pub standing : Standing d t pin t.stage

module _ (d : Desk) (words : List ℕ) (seat : ℕ) where
  -- what is so of what a seat knows
  abbrev pub Knows : View → Type 0
  Knows (Writes q) = seat ≡ 0
  Knows (Reads t) = IsLent d t (slice_index words (1 + t.number))
  Knows (Tells h) = Begins h d.history
  Knows Spent = Unit {0}

-- no two readers have one number
abbrev pub Apart : List View → Type 0
Apart views = (i j : ℕ) (t u : Ticket) → get_elem? views i ≡ some (Reads t) → get_elem? views j ≡ some (Reads u) → t.number ≡ u.number → i ≡ j

-- the writer knows the sizes that the table was made for
pub record IsSized (k : Sizes) (d : Desk) : Type 0 where
  pub pins : d.pins ≡ k.pins
  pub rows : d.rows ≡ k.rows
  pub few : k.rows ≤ 262144

-- the rule of the table
pub record Safe {S : Type 0} (fact : History → ℕ → Snapshot → Type 0) (k : Sizes) (s : State S View) : Type 0 where
  -- the first seat is the writer's
  pub desk : Desk
  pub its : get_elem? s.views 0 ≡ some (Writes desk)
  -- it knows the sizes of the table, what the table has, and what it has done itself
  pub sized : IsSized k desk
  pub kept : Kept fact desk
  pub laid : Laid desk s.words
  -- each seat knows what is so
  pub each : (i : ℕ) (v : View) → get_elem? s.views i ≡ some v → Knows desk s.words i v
  pub apart : Apart s.views
