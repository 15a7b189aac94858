-- The bounds of readers over each change of the writer's view.
use Rattle.std.specs.Prelude.{◌≡◌, ◌≢◌, ℕ, List, Some}
use mathlib.Core.Option.{some}
use lib.ListN.{get_elem?}
use Rattle.act_rows.specs.declared.views.Snapshot.{Snapshot}
use Rattle.act_rows.specs.declared.views.Desk.{Desk}
use Rattle.act_rows.specs.declared.views.Ticket.{Ticket}
use Rattle.act_rows.specs.History.{History}
use Rattle.act_rows.specs.Bounds.{BoundsRise}
use Rattle.act_rows.specs.Updates.{looked, lent, returned, stored, published}
use Rattle.act_rows.specs.Safe.{Kept}

-- a look at a reader, whatever its pin word is
abbrev pub LookRaises : (History → ℕ → Snapshot → Type 0) → Type 0
LookRaises fact = (d : Desk) (j c p : ℕ) → Kept fact d → get_elem? d.bounds j ≡ some (Some c) → BoundsRise d.bounds (looked d j p).bounds

abbrev pub LendRaises : Type 0
LendRaises = (d : Desk) → BoundsRise d.bounds (lent d).bounds

-- the other readers, when one is taken back
abbrev pub GiveBackRaises : Type 0
GiveBackRaises = (d : Desk) (t : Ticket) (j c : ℕ) → j ≢ t.number → get_elem? d.bounds j ≡ some (Some c) → get_elem? (returned d t).bounds j ≡ some (Some c)

abbrev pub StoreRaises : Type 0
StoreRaises = (d : Desk) (row place word : ℕ) → BoundsRise d.bounds (stored d row place word).bounds

abbrev pub PublishRaises : Type 0
PublishRaises = (d : Desk) (entry : List ℕ) (root : ℕ) (rows : List ℕ) (firsts : List (ℕ × ℕ)) → BoundsRise d.bounds (published d entry root rows firsts).bounds
