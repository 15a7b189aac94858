-- Laws of leaves and their references.
use Rattle.std.specs.Prelude.{◌≡◌, ℕ, ◌+◌, ◌*◌, ◌<◌, ◌≤◌, ◌||◌, true, false, List, filter}
use Rattle.act_grid.specs.declared.Point.{Point}
use Rattle.act_grid.specs.declared.Settings.{Settings}
use Rattle.act_grid.specs.Hull.{IsIn}
use Rattle.act_grid.specs.Cell.{Address, IsCell, IsPart, hull_of, root_cell}
use Rattle.act_geom.specs.Inside.{is_inside}
use Rattle.act_cover.specs.Covering.{class_at, is_on, is_within}
use Rattle.act_super.specs.declared.entry.State.{State}
use Rattle.act_super.specs.declared.entry.Zone.{Zone}
use Rattle.act_super.specs.Grounds.{is_among, is_split, zone_ground}
use Rattle.act_super.specs.Sizes.{leaf_of, rows_with}
use Rattle.act_super.specs.Trees.{splits, under}

-- the zones that a cell's references answer for a point: each true hit, and each candidate that holds the point by its
-- exact test
abbrev pub answered : List Zone → Address → Point → List Zone
answered zones c p = filter (λ zone. is_within (class_at zone.shape c) || is_inside zone.shape p) (filter (λ zone. is_on (class_at zone.shape c)) zones)

-- for each grid point of a cell, whichever it is, these are the zones that hold the point
abbrev pub ReferencesAnswer : Type 0
ReferencesAnswer =
    (zones : List Zone) (c : Address) (p : Point) → IsIn (hull_of c) p → answered zones c p ≡ filter (λ zone. is_inside zone.shape p) zones

-- a cell of the state is split
abbrev pub is_split_in : Settings → State → Address → Type 0
is_split_in settings state c = is_split (zone_ground settings state.trained) state.zones c ≡ true

-- a cell is a leaf: it isn't split, and each cell of which it is a smaller part is
pub record IsLeaf (settings : Settings) (state : State) (c : Address) : Type 0 where
  pub cell : IsCell c
  pub reached : (d : Address) → IsPart d c → d.level < c.level → is_split_in settings state d
  pub whole : is_split (zone_ground settings state.trained) state.zones c ≡ false

-- the leaf of a point is a leaf that holds it
abbrev pub LeafHoldsPoint : Type 0
LeafHoldsPoint = (settings : Settings) (state : State) (p : Point) → IsIn (hull_of root_cell) p → IsIn (hull_of (leaf_of settings state p)) p × IsLeaf settings state (leaf_of settings state p)

-- two leaves that hold one point are the same
abbrev pub OneLeafHoldsPoint : Type 0
OneLeafHoldsPoint =
    (settings : Settings) (state : State) (c d : Address) (p : Point) → IsLeaf settings state c → IsLeaf settings state d → IsIn (hull_of c) p → IsIn (hull_of d) p → c ≡ d

-- the cells that are split, where these are trained
abbrev pub splits_with : Settings → List Zone → List Address → ℕ
splits_with settings zones trained = splits (under (zone_ground settings trained) zones root_cell)

-- under any trained cells between some and more, the rows exceed those under the first by at most five for each cell that
-- is split under the last and not under the first
abbrev pub TrainingIsBounded : Type 0
TrainingIsBounded =
    (settings : Settings) (zones : List Zone) (first some all : List Address)
    → ((c : Address) → is_among first c ≡ true → is_among some c ≡ true) → ((c : Address) → is_among some c ≡ true → is_among all c ≡ true)
    → rows_with settings zones some + 5 * splits_with settings zones first ≤ rows_with settings zones first + 5 * splits_with settings zones all
