-- What decides which cells are split: how each item lies on a cell, its Level, and which cells are trained.
use Rattle.std.specs.Prelude.{ℕ, zero, suc, Bool, true, false, cond, ◌&&◌, ◌||◌, ◌==◌, nat_lt, int_lt, List, filter}
use Rattle.std.specs.List.{list_any}
use Rattle.act_grid.specs.declared.Point.{Point}
use Rattle.act_grid.specs.declared.Settings.{Settings}
use Rattle.act_grid.specs.Cell.{Address, root_cell, child_of, hull_of}
use Rattle.act_geom.specs.declared.class.Class.{Class}
use Rattle.act_geom.specs.declared.class.Class.TheVariants.{Inside, Outside, Mixed}
use Rattle.act_cover.specs.Covering.{class_at, is_on}
use Rattle.act_cover.specs.Level.{level_of}
use Rattle.act_super.specs.declared.entry.Zone.{Zone}

-- how items of any kind lie on cells, the Level of each, and which cells are trained
pub record Ground (X : Type 0) : Type 0 where
  pub class : X → Address → Class
  pub level : X → ℕ
  pub trained : Address → Bool

-- the class is Mixed
abbrev pub is_mixed : Class → Bool
is_mixed Inside = false
is_mixed Outside = false
is_mixed Mixed = true

-- the items that aren't Outside on the cell
abbrev pub on : {X : Type 0} → Ground X → List X → Address → List X
on g items c = filter (λ x. is_on (g.class x c)) items

-- an item that is Mixed on the cell asks for its split above the item's own Level, and where the cell is trained
abbrev pub asks : {X : Type 0} → Ground X → Address → X → Bool
asks g c x = is_mixed (g.class x c) && (nat_lt c.level (g.level x) || g.trained c)

abbrev pub some_asks : {X : Type 0} → Ground X → Address → List X → Bool
some_asks g c items = list_any (asks g c) items

-- the cell is split: it lies above level 28, and some item asks for it
abbrev pub is_split : {X : Type 0} → Ground X → List X → Address → Bool
is_split g items c = nat_lt c.level 28 && some_asks g c items

-- the child that holds a point of the cell: 1 and 3 lie east of child 0, 2 and 3 north of it
abbrev pub quarter_of : Address → Point → ℕ
quarter_of c p =
    let first = hull_of (child_of c 0) in
    cond (int_lt first.hi.y p.y) (cond (int_lt first.hi.x p.x) 3 2) (cond (int_lt first.hi.x p.x) 1 0)

-- the leaf that holds the point, from a reached cell down, for at most n more levels
unfoldable pub leaf_within : {X : Type 0} → Ground X → ℕ → List X → Address → Point → Address
leaf_within g zero items c p = c
leaf_within g (suc n) items c p = cond (some_asks g c items) (leaf_within g n items (child_of c (quarter_of c p)) p) c

-- the leaf that holds the point
unfoldable pub leaf_at : {X : Type 0} → Ground X → List X → Point → Address
leaf_at g items p = leaf_within g 28 items root_cell p

-- the same cell
abbrev pub same_cell : Address → Address → Bool
same_cell c d = (c.level == d.level) && (c.path == d.path)

-- the cell is one of these
abbrev pub is_among : List Address → Address → Bool
is_among cells c = list_any (λ d. same_cell d c) cells

-- zones on the grid, with these trained cells
abbrev pub zone_ground : Settings → List Address → Ground Zone
zone_ground settings trained = record {
  class = λ zone c. class_at zone.shape c;
  level = λ zone. level_of zone.shape settings.cells;
  trained = is_among trained;
}
