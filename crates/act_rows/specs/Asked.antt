-- What a store and a publication ask of the writer.
use Rattle.std.specs.Prelude.{◌≡◌, ◌⊎◌, ℕ, ◌+◌, ◌^◌, ◌<◌, List, [], ◌∷◌, ◌++◌, Contains}
use lib.ListN.{get_elem?}
use mathlib.Core.Option.{some}
use Rattle.act_rows.specs.declared.views.Snapshot.{Snapshot}
use Rattle.act_rows.specs.declared.views.Version.{Version}
use Rattle.act_rows.specs.declared.views.Desk.{Desk}
use Rattle.act_rows.specs.History.{History}
use Rattle.act_rows.specs.Images.{InRange}
use Rattle.act_rows.specs.Versions.{newest, IsKept}
use Rattle.act_rows.specs.Updates.{new_image}

-- the row may be stored: no version from the least bound to the current one has it
pub record MayStore (d : Desk) (row : ℕ) : Type 0 where
  pub range : InRange d.rows row
  pub away : (v : ℕ) (x : Version) → IsKept d v x → ¬ Contains x.image.rows row

-- the row is one of the current version, or each of its places was stored since the last publication
abbrev pub IsReady : Desk → ℕ → Type 0
IsReady d row = ((x : Version) × (get_elem? d.versions (newest d) ≡ some x) × Contains x.image.rows row) ⊎ ((place : ℕ) → place < 256 → Contains d.draft (row, place))

-- the rows may be the new version, with this entry, root and first rows of keys
pub record MayPublish (fact : History → ℕ → Snapshot → Type 0) (d : Desk) (entry : List ℕ) (root : ℕ) (rows : List ℕ) (firsts : List (ℕ × ℕ)) : Type 0 where
  pub few : newest d + 1 < 2 ^ 40
  pub rooted : Contains rows root
  pub ready : (row : ℕ) → Contains rows row → IsReady d row
  pub fits : fact (d.history ++ entry ∷ []) root (new_image d rows firsts)
