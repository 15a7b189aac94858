use Rattle.std.proofs.Common.{◌≡◌, ◌<◌, take}
use Rattle.act_rows.specs.Bounds.{least}
use Rattle.act_rows.specs.Versions.{newest}
use Rattle.act_rows.specs.Watched.{Watched, Found}
use Rattle.act_rows.proofs.Watching.{Looking}
use Rattle.act_rows.proofs.look.look_at_all.Given as goal

abbrev pub invariant-loop-j : goal.invariant-loop-j
invariant-loop-j g l = record {
  table : l.master.table ≡ l.fn.master.table;
  watched : Watched l.fn.master.desk l.master.desk;
  least : l.bound ≡ least (newest l.master.desk) (take l.j l.master.desk.bounds);
  looking : Looking l.fn.master.desk l.master.desk;
  found : l.bound < newest l.fn.master.desk → Found l.fn.master.desk l.master.desk l.j l.bound l.reader l.word;
}
