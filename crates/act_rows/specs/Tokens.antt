-- What clauses see of a master, a guest, a pin and a note.
use Rattle.std.specs.Prelude.{◌≡◌, ℕ, ◌+◌, ◌*◌, ◌≤◌, List, [], length, Option, Some, None}
use mathlib.Core.Option.{some}
use lib.ListN.{get_elem?}
use Rattle.atomic_table.specs.Seated.{TableId}
use Rattle.act_rows.specs.declared.views.Version.{Version}
use Rattle.act_rows.specs.declared.views.Desk.{Desk}
use Rattle.act_rows.specs.declared.views.Ticket.{Ticket}
use Rattle.act_rows.specs.declared.views.Stage.{Stage}
use Rattle.act_rows.specs.declared.views.Stage.TheVariants.{Idle, Holding}
use Rattle.act_rows.specs.declared.views.View.{View}
use Rattle.act_rows.specs.declared.views.View.TheVariants.{Writes, Reads, Tells}
use Rattle.act_rows.specs.History.{History}

-- the writer: its table, and what it knows
pub record Mastered : Type 0 where
  pub table : TableId
  pub desk : Desk

-- a reader that holds no version
pub record Guested : Type 0 where
  pub table : TableId
  pub ticket : Ticket

-- a reader that holds a version, with the history of that version
pub record Pinning : Type 0 where
  pub table : TableId
  pub ticket : Ticket
  pub history : History
  pub version : Version

-- a note, with its history
pub record Noted : Type 0 where
  pub table : TableId
  pub history : History

-- stand-ins where a view is another seat's
abbrev pub no_desk : Desk
no_desk = record { pins = 0; rows = 0; history = []; versions = []; words = []; draft = []; bounds = []; looks = []; told = [] }

abbrev pub no_ticket : Ticket
no_ticket = record { number = 0; pins = 0; rows = 0; seen = []; told = []; mine = []; stage = Idle }

abbrev pub no_version : Version
no_version = record { root = 0; image = record { rows = []; words = []; firsts = [] } }

abbrev pub desk_of : View → Desk
desk_of (Writes d) = d
desk_of v = no_desk

abbrev pub ticket_of : View → Ticket
ticket_of (Reads t) = t
ticket_of v = no_ticket

abbrev pub told_of : View → History
told_of (Tells h) = h
told_of v = []

abbrev pub history_of : Stage → History
history_of (Holding h x) = h
history_of z = []

abbrev pub version_of : Stage → Version
version_of (Holding h x) = x
version_of z = no_version

-- the table has its words, and is within the limits
abbrev pub IsWide : TableId → ℕ → ℕ → Type 0
IsWide z pins rows = (z.words ≡ 1 + pins + 512 * rows) × (rows ≤ 262144) × (pins ≤ 64)

-- there is a share of this table for each reader that is not lent
pub record Spares (spares : List (Option TableId)) (bounds : List (Option ℕ)) (z : TableId) : Type 0 where
  pub as_many : length spares ≡ length bounds
  pub free : (j : ℕ) → get_elem? bounds j ≡ some None → get_elem? spares j ≡ some (Some z)
