-- The versions that a reader may hold.
use Rattle.std.specs.Prelude.{◌≡◌, ℕ, ◌≤◌, length}
use lib.ListN.{get_elem?}
use mathlib.Core.Option.{some}
use Rattle.act_rows.specs.declared.views.Version.{Version}
use Rattle.act_rows.specs.declared.views.Desk.{Desk}
use Rattle.act_rows.specs.Bounds.{least}

-- the current version
abbrev pub newest : Desk → ℕ
newest d = length d.history

-- version v is x, and no lent reader is bound above it
pub record IsKept (d : Desk) (v : ℕ) (x : Version) : Type 0 where
  pub is : get_elem? d.versions v ≡ some x
  pub high : least (newest d) d.bounds ≤ v
