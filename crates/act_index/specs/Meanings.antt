-- What a version means.
use Rattle.std.specs.Prelude.{ℕ, ◌+◌, ◌-◌, List, take}
use Rattle.act_base.specs.Counting.{span}
use Rattle.act_grid.specs.declared.Settings.{Settings}
use Rattle.act_super.specs.declared.entry.Entry.{Entry}
use Rattle.act_super.specs.Histories.{state_of}
use Rattle.act_super.specs.Sizes.{size_of}
use Rattle.act_super.specs.Stands.{Stands}
use Rattle.act_rows.specs.declared.views.Snapshot.{Snapshot}
use Rattle.act_rows.specs.History.{History}
use Rattle.act_rows.specs.Images.{sight_of}
use Rattle.act_index.specs.Codes.{IsTold}

-- the image stands, from the root, for the state after the entries of the history
pub record Means (h : History) (root : ℕ) (x : Snapshot) : Type 0 where
  pub settings : Settings
  pub entries : List Entry
  pub told : IsTold h settings entries
  pub stands : Stands settings (sight_of x) root (state_of settings entries)

-- the Size of a version
abbrev pub size_at : Settings → List Entry → ℕ → ℕ
size_at settings entries v = size_of settings (state_of settings (take v entries))

-- the sum of the Sizes of the versions from a to b
abbrev pub sizes : Settings → List Entry → ℕ → ℕ → ℕ
sizes settings entries a b = span (size_at settings entries) a (b + 1 - a)
