-- The entry of a prepared change.
use Rattle.std.specs.Prelude.{List, Option, Some, None, drop}
use Rattle.act_grid.specs.declared.Point.{Point}
use Rattle.act_grid.specs.Cell.{Address}
use Rattle.act_geom.specs.declared.class.Class.{Class}
use Rattle.act_cover.specs.Covering.{class_at}
use Rattle.act_super.specs.declared.next.Change.{Change}
use Rattle.act_super.specs.declared.next.Change.TheVariants as change
use Rattle.act_super.specs.declared.entry.Entry.{Entry}
use Rattle.act_super.specs.declared.entry.Entry.TheVariants as entry

-- a training adds the trained cells from a place on
abbrev pub entry_of : Change → List Address → Entry
entry_of (change.Add key s) trained = entry.Add key s.shape
entry_of (change.DropZone key) trained = entry.DropZone key
entry_of (change.Replace key s) trained = entry.Replace key s.shape
entry_of (change.Train from) trained = entry.Train (drop from trained)

-- how the shape lies on the cell, where one is given
abbrev pub class_given : Option (List (List Point)) → Address → Option Class
class_given None c = None
class_given (Some shape) c = Some (class_at shape c)
