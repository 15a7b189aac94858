-- What is so of a writer between its calls.
use Rattle.std.specs.Prelude.{◌≡◌, ℕ, ◌+◌, ◌*◌, ◌<◌, ◌≤◌, List, length}
use lib.ListN.{get_elem?}
use mathlib.Core.Option.{some}
use Rattle.atomic_table.specs.Seated.{TableId}
use Rattle.act_grid.specs.declared.Settings.{Settings}
use Rattle.act_base.specs.Counting.{times}
use Rattle.act_super.specs.declared.entry.State.{State}
use Rattle.act_super.specs.declared.entry.Entry.{Entry}
use Rattle.act_super.specs.States.{Plain}
use Rattle.act_super.specs.Histories.{state_of}
use Rattle.act_super.specs.Sizes.{size_of}
use Rattle.act_image.specs.Pics.{Pic, rows_in, Shows}
use Rattle.act_pool.specs.Pooled.{Pooled}
use Rattle.act_pool.specs.Retired.{rows_of, versions_of, Each}
use Rattle.act_rows.specs.declared.views.Version.{Version}
use Rattle.act_rows.specs.declared.views.Desk.{Desk}
use Rattle.act_rows.specs.Images.{sight_of}
use Rattle.act_rows.specs.Tokens.{Mastered}
use Rattle.act_rows.specs.Versions.{newest, IsKept}
use Rattle.act_index.specs.Codes.{IsTold}
use Rattle.act_index.specs.Meanings.{size_at}

-- what contracts see of a writer: its table and what it knows of it, the settings, the state after its history, its plain
-- copy of the current image, and which rows are free or wait
pub record Writing : Type 0 where
  pub table : TableId
  pub desk : Desk
  pub settings : Settings
  pub state : State
  pub pic : Pic
  pub pool : Pooled

-- a writer by its parts
abbrev pub parts : Mastered → Plain → Pic → Pooled → Writing
parts m plain pic pool = record { table = m.table; desk = m.desk; settings = plain.settings; state = plain.state; pic = pic; pool = pool }

-- no version from w on has the row
abbrev pub IsGone : Desk → ℕ → ℕ → Type 0
IsGone d r w = (v : ℕ) (x : Version) → get_elem? d.versions v ≡ some x → w ≤ v → times x.image.rows r ≡ 0

-- where each row of the table is
pub record IsHoused (settings : Settings) (entries : List Entry) (d : Desk) (pic : Pic) (pool : Pooled) : Type 0 where
  -- a row is free, waits, or is of the current image
  pub once : (r : ℕ) → times pool.free r + times (rows_of pool.retired) r + times (rows_in pic) r ≤ 1
  pub all : length pool.free + length pool.retired + length (rows_in pic) ≡ 2 * settings.rows
  -- no kept version has a free row
  pub free : (r : ℕ) → 0 < times pool.free r → (v : ℕ) (x : Version) → IsKept d v x → times x.image.rows r ≡ 0
  -- a row that waits for a version is in none from it on
  pub late : Each (IsGone d) pool.retired
  -- those that wait for a version were in the one before
  pub owed : (v : ℕ) → times (versions_of pool.retired) (v + 1) ≤ size_at settings entries v
  pub recent : (w : ℕ) → 0 < times (versions_of pool.retired) w → (0 < w) × (w ≤ newest d)

pub record IsWhole (w : Writing) : Type 0 where
  -- the history, and the state after it
  pub entries : List Entry
  pub told : IsTold w.desk.history w.settings entries
  pub state : w.state ≡ state_of w.settings entries
  -- the current version shows it
  pub current : (x : Version) → get_elem? w.desk.versions (newest w.desk) ≡ some x → Shows w.settings w.pic (sight_of x.image) w.state × (w.pic.root ≡ x.root)
  pub sized : length (rows_in w.pic) ≡ size_of w.settings w.state
  pub fits : size_of w.settings w.state ≤ w.settings.rows
  pub rows : (w.desk.rows ≡ w.settings.rows) × (w.pool.rows ≡ 2 * w.settings.rows) × (w.pool.rows ≤ 524288)
  pub housed : IsHoused w.settings entries w.desk w.pic w.pool
