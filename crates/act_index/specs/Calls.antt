-- What the writer's calls promise.
use Rattle.std.specs.Prelude.{length, ◌≢◌, ◌≡◌, ℕ, ◌+◌, ◌*◌, ◌^◌, ◌<◌, ◌≤◌, List, [], ◌∷◌, ◌++◌, Contains, Option, Some, None}
use lib.ListN.{get_elem?}
use mathlib.Core.Option.{some}
use Rattle.act_grid.specs.Cell.{Address}
use Rattle.act_super.specs.declared.entry.Entry.{Entry}
use Rattle.act_super.specs.declared.entry.Entry.TheVariants as entry
use Rattle.act_super.specs.declared.verdict.Verdict.{Verdict}
use Rattle.act_super.specs.declared.verdict.Verdict.TheVariants as verdict
use Rattle.act_super.specs.Sizes.{size_of}
use Rattle.act_super.specs.States.{after, verdict_of, IsAllowed}
use Rattle.act_rows.specs.Bounds.{least}
use Rattle.act_rows.specs.Versions.{newest}
use Rattle.act_rows.specs.Watched.{Watched}
use Rattle.act_index.specs.declared.done.Done.{Done}
use Rattle.act_index.specs.declared.done.Refused.{Refused}
use Rattle.act_index.specs.declared.done.Refused.TheVariants.{Duplicate, Unknown, Same, Refs, Rows, Versions, Held, NoMemory}
use Rattle.act_index.specs.Codes.{IsTold, code, updates_in}
use Rattle.act_index.specs.Meanings.{sizes}
use Rattle.act_index.specs.Whole.{Writing}

-- a change was made
pub record IsGrown (w w' : Writing) (change : Entry) : Type 0 where
  pub history : w'.desk.history ≡ w.desk.history ++ code w.settings change ∷ []
  pub settings : w'.settings ≡ w.settings
  pub state : w'.state ≡ after w.settings w.state change
  pub allowed : IsAllowed w.settings w.state change
  pub pins : w'.desk.pins ≡ w.desk.pins
  pub table : w'.table ≡ w.table
  pub rises : least (newest w.desk) w.desk.bounds ≤ least (newest w'.desk) w'.desk.bounds

-- what a change that was made answers
pub record IsDone (w : Writing) (split : ℕ) (done : Done) : Type 0 where
  pub version : done.version ≡ newest w.desk
  pub updates : done.updates ≡ updates_in w.desk.history
  pub trained : done.split ≡ split

-- nothing was changed but bounds, looks, and which rows wait
pub record IsLeft (w w' : Writing) : Type 0 where
  pub watched : Watched w.desk w'.desk
  pub settings : w'.settings ≡ w.settings
  pub state : w'.state ≡ w.state
  pub pic : w'.pic ≡ w.pic
  pub table : w'.table ≡ w.table

-- a held version keeps the change from its rows
pub record IsHeldBy (w w' : Writing) (change : Entry) (reader version word : ℕ) : Type 0 where
  -- a look of this call found the pin word
  pub more : List (ℕ × ℕ)
  pub looks : w'.desk.looks ≡ w.desk.looks ++ more
  pub looked : Contains more (reader, word)
  pub above : 0 < word
  pub below : word ≤ version + 1
  -- the version is the bound of the reader, the least, and below the current version; the reader is the first that has it
  pub bound : get_elem? w'.desk.bounds reader ≡ some (Some version)
  pub lowest : (j c : ℕ) → get_elem? w'.desk.bounds j ≡ some (Some c) → (version ≤ c) × (c ≡ version → reader ≤ j)
  pub old : version < newest w.desk
  -- the Sizes from that version on, and that after the change, are more than the table has
  pub entries : List Entry
  pub told : IsTold w.desk.history w.settings entries
  pub full : 2 * w.settings.rows < sizes w.settings entries version (newest w.desk) + size_of w.settings (after w.settings w.state change)

-- the verdict on the change
abbrev pub IsJudged : Writing → Entry → Option Verdict → Type 0
IsJudged w change v = verdict_of w.settings w.state change ≡ v

-- why a change was refused. NoMemory is free
abbrev pub IsRefused : Writing → Writing → Entry → Refused → Type 0
IsRefused w w' change Duplicate = IsJudged w change (Some verdict.Duplicate)
IsRefused w w' change Unknown = IsJudged w change (Some verdict.Unknown)
IsRefused w w' change Same = IsJudged w change (Some verdict.Same)
IsRefused w w' change (Refs need) = IsJudged w change (Some (verdict.Refs need))
IsRefused w w' change (Rows need limit) = IsJudged w change (Some (verdict.Rows need limit))
IsRefused w w' change Versions = IsJudged w change None × (newest w.desk + 1 ≡ 2 ^ 40)
IsRefused w w' change (Held reader version word) = IsJudged w change None × IsHeldBy w w' change reader version word
IsRefused w w' change NoMemory = Unit {0}

-- the cause that a verdict gives
abbrev pub cause_of : Verdict → Refused
cause_of verdict.Duplicate = Duplicate
cause_of verdict.Unknown = Unknown
cause_of verdict.Same = Same
cause_of (verdict.Refs need) = Refs need
cause_of (verdict.Rows need limit) = Rows need limit
cause_of verdict.NoMemory = NoMemory

-- what a training answers that trains these cells: with none of them nothing was changed
pub record IsTrained (w w' : Writing) (cells : List Address) (done : Done) : Type 0 where
  pub answered : IsDone w' (length cells) done
  pub grown : 0 < length cells → IsGrown w w' (entry.Train cells)
  pub left : length cells ≡ 0 → IsLeft w w'

-- why a training was refused that would train these cells: it is refused where there are some, want of memory aside
pub record IsUntrained (w w' : Writing) (cells : List Address) (why : Refused) : Type 0 where
  pub refused : IsRefused w w' (entry.Train cells) why
  pub some_cells : why ≢ NoMemory → 0 < length cells
