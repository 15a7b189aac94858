-- Changes in a row.
use Rattle.std.specs.Prelude.{◌≡◌, ℕ, ◌+◌, ◌*◌, ◌<◌, ◌≤◌, List, ◌∷◌, ◌++◌, length, map, take, drop, Option, Some, None}
use Rattle.act_super.specs.declared.entry.Entry.{Entry}
use Rattle.act_super.specs.declared.entry.Entry.TheVariants as entry
use Rattle.act_super.specs.Histories.{state_from}
use Rattle.act_super.specs.Sizes.{size_of}
use Rattle.act_super.specs.States.{after}
use Rattle.act_rows.specs.Bounds.{least}
use Rattle.act_rows.specs.Versions.{newest}
use Rattle.act_index.specs.declared.changes.Change.{Change}
use Rattle.act_index.specs.declared.changes.Change.TheVariants as change
use Rattle.act_index.specs.declared.done.Refused.{Refused}
use Rattle.act_index.specs.declared.done.Refused.TheVariants as refused
use Rattle.act_index.specs.Calls.{IsRefused}
use Rattle.act_index.specs.Codes.{IsTold, codes}
use Rattle.act_index.specs.Meanings.{sizes}
use Rattle.act_index.specs.Whole.{Writing}

-- the entry that a change asks for
abbrev pub entry_of : Change → Entry
entry_of (change.Add key shape) = entry.Add key shape
entry_of (change.DropZone key) = entry.DropZone key
entry_of (change.Replace key shape) = entry.Replace key shape

abbrev pub entries_of : List Change → List Entry
entries_of changes = map entry_of changes

-- these entries were accepted, one after the other
pub record IsRun (w w' : Writing) (entries : List Entry) : Type 0 where
  pub history : w'.desk.history ≡ w.desk.history ++ codes w.settings entries
  pub settings : w'.settings ≡ w.settings
  pub state : w'.state ≡ state_from w.settings w.state entries
  pub table : w'.table ≡ w.table
  pub rises : least (newest w.desk) w.desk.bounds ≤ least (newest w'.desk) w'.desk.bounds

-- the Sizes of the versions from v to the current one, and that after the change, are more than the table has
pub record Fills (v : ℕ) (w : Writing) (asked : Entry) : Type 0 where
  pub entries : List Entry
  pub told : IsTold w.desk.history w.settings entries
  pub full : 2 * w.settings.rows < sizes w.settings entries v (newest w.desk) + size_of w.settings (after w.settings w.state asked)

-- Held comes only where they are, v being the least bound at the call
abbrev pub IsFull : ℕ → Writing → Entry → Refused → Type 0
IsFull v w asked (refused.Held reader version word) = Fills v w asked
IsFull v w asked refused.Duplicate = Unit {0}
IsFull v w asked refused.Unknown = Unit {0}
IsFull v w asked refused.Same = Unit {0}
IsFull v w asked (refused.Refs need) = Unit {0}
IsFull v w asked (refused.Rows need limit) = Unit {0}
IsFull v w asked refused.Versions = Unit {0}
IsFull v w asked refused.NoMemory = Unit {0}

-- the change was refused as its own call would refuse it on the writer before it
pub record IsStoppedAt (w w' : Writing) (given : List Change) (done : ℕ) (why : Refused) : Type 0 where
  pub before : Writing
  pub asked : Change
  pub rest : List Change
  pub is : drop done given ≡ asked ∷ rest
  pub run : IsRun w before (entries_of (take done given))
  pub refused : IsRefused before w' (entry_of asked) why
  pub full : IsFull (least (newest w.desk) w.desk.bounds) before (entry_of asked) why

abbrev pub IsStoppedBy : Writing → Writing → List Change → ℕ → Option Refused → Type 0
IsStoppedBy w w' given done None = done ≡ length given
IsStoppedBy w w' given done (Some why) = IsStoppedAt w w' given done why

-- the first so many changes were made, and the rest weren't, for the cause that the first of them met
pub record IsApplied (w w' : Writing) (given : List Change) (done : ℕ) (stopped : Option Refused) (rest : List Change) : Type 0 where
  pub low : done ≤ length given
  pub left : rest ≡ drop done given
  pub run : IsRun w w' (entries_of (take done given))
  pub cause : IsStoppedBy w w' given done stopped
